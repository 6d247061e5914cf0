-- Document 01's cases, both sides of each edge, as one table: those that it marks to be proved, 1 to 9, 13 and 14, and 10 to 12 besides.
-- Assumes nothing.
use Rattle.std.specs.Prelude.{List, [], ◌∷◌, ◌++◌, map, ℕ, zero, suc, ◌+◌, ◌-◌, ◌*◌, take, replicate}
use Rattle.grammar.specs.Cases.{case13}
use Rattle.blockcheck.specs.Blocks.{code_base}
use Rattle.blockcheck.specs.Cases.{case_14}
use Rattle.run.specs.declared.Lent.{Lent}
use Rattle.cases.specs.Lines.{lent, ends, stops, step, fault, Case, run, keeps, bytes, block}

-- a machine at an offset of the code, by EAX, ECX, EDX and the flags word; the other registers are 0
abbrev pub at : ℕ → ℕ → ℕ → ℕ → ℕ → Lent
at offset eax ecx edx word =
    lent (eax ∷ ecx ∷ edx ∷ 0 ∷ 0 ∷ 0 ∷ 0 ∷ 0 ∷ []) (code_base + offset) word

-- a machine at an offset of the code, by EAX, ECX, ESI and EDI; the other registers are 0, and the flags 0002h
abbrev pub pointing : ℕ → ℕ → ℕ → ℕ → ℕ → Lent
pointing offset eax ecx esi edi =
    lent (eax ∷ ecx ∷ 0 ∷ 0 ∷ 0 ∷ 0 ∷ esi ∷ edi ∷ []) (code_base + offset) 0x0002

-- F3 A5
abbrev pub moves : List ℕ
moves = 0xF3 ∷ 0xA5 ∷ []

-- ECX = 25, ESI = 00100000h, EDI = 00100100h
abbrev pub start : Lent
start = pointing 0 0 25 0x0010_0000 0x0010_0100

-- the same after 10 rounds: EIP 00010000h, ECX 15, ESI 00100028h
abbrev pub midway : Lent
midway = pointing 0 0 15 0x0010_0028 0x0010_0128

-- so many bytes, each one more than the one before
abbrev pub upward : ℕ → ℕ → List ℕ
upward zero b = []
upward (suc n) b = b ∷ upward n (suc b)

-- the 25 doublewords to move: the bytes 1 to 100
abbrev pub readings : List ℕ
readings = upward 100 1

-- data of a size, when so many of these words were moved: all of them at 00100000h, the moved ones at 00100100h, and EEh elsewhere
abbrev pub moved : ℕ → ℕ → List ℕ
moved words size = readings ++ replicate 156 0xEE ++ take (4 * words) readings ++ replicate (size - (256 + 4 * words)) 0xEE

-- 8 data bytes
abbrev pub eight : List ℕ
eight = 0x11 ∷ 0x22 ∷ 0x33 ∷ 0x44 ∷ 0x55 ∷ 0x66 ∷ 0x77 ∷ 0x88 ∷ []

-- the cases of a run
unfoldable pub cases_1_to_12 : List Case
cases_1_to_12 =
    -- 1. 04 01, AL = FFh: AL 00h, flags 0057h
    run (step (0x04 ∷ 0x01 ∷ []) (at 0 0xFF 0 0 0x0002) (at 2 0x00 0 0 0x0057))
    -- 2. 04 01, AL = 7Fh: AL 80h, flags 0892h
    ∷ run (step (0x04 ∷ 0x01 ∷ []) (at 0 0x7F 0 0 0x0002) (at 2 0x80 0 0 0x0892))
    -- 3. 48, EAX = 0, flags 0003h: EAX FFFFFFFFh, flags 0097h
    ∷ run (step (0x48 ∷ []) (at 0 0 0 0 0x0003) (at 1 0xFFFF_FFFF 0 0 0x0097))
    -- 4. F7 F1, EDX = 1, EAX = 0, ECX = 1: 0 steps, number 7
    ∷ run (fault (0xF7 ∷ 0xF1 ∷ []) (at 0 0 1 1 0x0002))
    -- 5. F7 F9, EDX = 80000000h, EAX = 0, ECX = FFFFFFFFh: number 7
    ∷ run (fault (0xF7 ∷ 0xF9 ∷ []) (at 0 0 0xFFFF_FFFF 0x8000_0000 0x0002))
    -- 6. F7 F9, EDX = FFFFFFFFh, EAX = FFFFFFF9h, ECX = 2: EAX FFFFFFFDh, EDX FFFFFFFFh
    ∷ run (step (0xF7 ∷ 0xF9 ∷ []) (at 0 0xFFFF_FFF9 2 0xFFFF_FFFF 0x0002) (at 2 0xFFFF_FFFD 2 0xFFFF_FFFF 0x0002))
    -- 7. D0 C0, AL = 80h: AL 01h, flags 0803h
    ∷ run (step (0xD0 ∷ 0xC0 ∷ []) (at 0 0x80 0 0 0x0002) (at 2 0x01 0 0 0x0803))
    -- 8. C0 D0 09, OF clear: only EIP changes. OF set: OF is cleared besides (M-101). C0 C0 08, AL = 01h: AL 01h, flags 0003h
    ∷ keeps (0xC0 ∷ 0xD0 ∷ 0x09 ∷ [])
    ∷ run (step (0xC0 ∷ 0xD0 ∷ 0x09 ∷ []) (at 0 0x81 0 0 0x0CD7) (at 3 0x81 0 0 0x04D7))
    ∷ run (step (0xC0 ∷ 0xC0 ∷ 0x08 ∷ []) (at 0 0x01 0 0 0x0002) (at 3 0x01 0 0 0x0003))
    -- 9. 8D 04 8D 10 00 00 00, ECX = C0000001h: EAX 14h
    ∷ run
    (step (0x8D ∷ 0x04 ∷ 0x8D ∷ 0x10 ∷ 0x00 ∷ 0x00 ∷ 0x00 ∷ []) (at 0 0 0xC000_0001 0 0x0002) (at 7 0x14 0xC000_0001 0 0x0002))
    -- 10. F3 A5 from there, 512 data bytes. Budget 10: number 0, 10 moved. Then budget 15: ECX 0, EIP 00010002h, EDI 00100164h, all 25 moved
    ∷ run (ends moves start (moved 0 512) 10 midway (moved 10 512))
    ∷ run (ends moves midway (moved 10 512) 15 (pointing 2 0 0 0x0010_0064 0x0010_0164) (moved 25 512))
    -- 11. The same with 352 data bytes, budget 100: 24 steps, number 6 at 00100160h, ECX 1, the 24 moved that fit
    ∷ run (stops moves start (moved 0 352) 100 (pointing 0 0 1 0x0010_0060 0x0010_0160) (moved 24 352) 24 6 0x0010_0160)
    -- 12. 8B 06, 8 data bytes: ESI = 00100004h reads; 00100005h gives 5 at 00100008h (M-105)
    ∷ run (ends (0x8B ∷ 0x06 ∷ []) (pointing 0 0 0 0x0010_0004 0) eight 1 (pointing 2 0x8877_6655 0 0x0010_0004 0) eight)
    ∷ run
    (stops (0x8B ∷ 0x06 ∷ []) (pointing 0 0 0 0x0010_0005 0) eight 1 (pointing 0 0 0 0x0010_0005 0) eight 0 5 0x0010_0008)
    ∷ []

-- the whole table
unfoldable pub table : List Case
table = cases_1_to_12 ++ map bytes case13 ++ map block case_14
