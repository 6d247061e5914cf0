-- Cases of M-100, worked out from 003 and document 02: both sides of each edge.
-- Assumes nothing.
use Rattle.std.specs.Prelude.{List, [], ◌∷◌, ◌++◌, map, ℕ, ◌+◌}
use Rattle.grammar.specs.Cases.{cases_m_100}
use Rattle.blockcheck.specs.Blocks.{code_base}
use Rattle.run.specs.declared.Lent.{Lent}
use Rattle.cases.specs.Lines.{lent, Run, ends, stops, step, Case, run, bytes}
use Rattle.cases.specs.Table.{at, eight}

-- a machine at an offset of the code, by EAX, ESI and the flags word; the other registers are 0
abbrev pub aimed : ℕ → ℕ → ℕ → ℕ → Lent
aimed offset eax esi word =
    lent (eax ∷ 0 ∷ 0 ∷ 0 ∷ 0 ∷ 0 ∷ esi ∷ 0 ∷ []) (code_base + offset) word

-- one step with the eight data bytes 11h to 88h, which it leaves as they were
abbrev pub looks : List ℕ → Lent → Lent → Run
looks code given after = ends code given eight 1 after eight

-- one step with them, of which the fourth and the fifth may be changed
abbrev pub changes : List ℕ → Lent → Lent → ℕ → ℕ → Run
changes code given after fourth fifth = ends code given eight 1 after (0x11 ∷ 0x22 ∷ 0x33 ∷ fourth ∷ fifth ∷ 0x66 ∷ 0x77 ∷ 0x88 ∷ [])

-- a read outside them stops the first step: number 5 at the first address outside, and the machine as it was
abbrev pub misses : List ℕ → Lent → ℕ → Run
misses code given address = stops code given eight 1 given eight 0 5 address

-- BT, BTS, BTR, BTC
unfoldable pub bit_tests : List Case
bit_tests =
    -- 0F A3 06, ESI = 00100000h: offset 31 is bit 31 of 44332211h, 0; offset 32 is bit 0 of 88776655h, 1
    run (looks (0x0F ∷ 0xA3 ∷ 0x06 ∷ []) (aimed 0 31 0x0010_0000 0x0003) (aimed 3 31 0x0010_0000 0x0002))
    ∷ run (looks (0x0F ∷ 0xA3 ∷ 0x06 ∷ []) (aimed 0 32 0x0010_0000 0x0002) (aimed 3 32 0x0010_0000 0x0003))
    -- 0F AB 06, ESI = 00100004h, offset -1: bit 31 of the doubleword before is set, and was 0
    ∷ run (changes (0x0F ∷ 0xAB ∷ 0x06 ∷ []) (aimed 0 0xFFFF_FFFF 0x0010_0004 0x0003) (aimed 3 0xFFFF_FFFF 0x0010_0004 0x0002) 0xC4 0x55)
    -- 0F B3 06, ESI = 00100008h, offset -32: bit 0 of the doubleword before is reset, and was 1
    ∷ run (changes (0x0F ∷ 0xB3 ∷ 0x06 ∷ []) (aimed 0 0xFFFF_FFE0 0x0010_0008 0x0002) (aimed 3 0xFFFF_FFE0 0x0010_0008 0x0003) 0x44 0x54)
    -- 0F BB 06, ESI = 00100008h, offset -33: bit 31 of the doubleword before that one is complemented, and was 0
    ∷ run (changes (0x0F ∷ 0xBB ∷ 0x06 ∷ []) (aimed 0 0xFFFF_FFDF 0x0010_0008 0x0003) (aimed 3 0xFFFF_FFDF 0x0010_0008 0x0002) 0xC4 0x55)
    -- 0F A3 06, ESI = 00100000h, offset -1: the doubleword before is outside
    ∷ run (misses (0x0F ∷ 0xA3 ∷ 0x06 ∷ []) (aimed 0 0xFFFF_FFFF 0x0010_0000 0x0002) 0x000F_FFFC)
    -- 66 0F A3 06: offset 8000h is bit 0 of the word 4096 bytes before ESI, 2211h; offset 7FFFh is bit 15 of the word 4094 bytes after it
    ∷ run (looks (0x66 ∷ 0x0F ∷ 0xA3 ∷ 0x06 ∷ []) (aimed 0 0x0001_8000 0x0010_1000 0x0002) (aimed 4 0x0001_8000 0x0010_1000 0x0003))
    ∷ run (looks (0x66 ∷ 0x0F ∷ 0xA3 ∷ 0x06 ∷ []) (aimed 0 0xFFFF_7FFF 0x000F_F002 0x0003) (aimed 4 0xFFFF_7FFF 0x000F_F002 0x0002))
    -- 0F BA /4 imm8, ESI = 00100000h: offset 31 is bit 31 of 44332211h, offset 32 is bit 0 of the same
    ∷ run (looks (0x0F ∷ 0xBA ∷ 0x26 ∷ 31 ∷ []) (aimed 0 0 0x0010_0000 0x0003) (aimed 4 0 0x0010_0000 0x0002))
    ∷ run (looks (0x0F ∷ 0xBA ∷ 0x26 ∷ 32 ∷ []) (aimed 0 0 0x0010_0000 0x0002) (aimed 4 0 0x0010_0000 0x0003))
    -- 0F A3 C8, EAX = 1: offset -32 is bit 0, offset -1 is bit 31
    ∷ run (step (0x0F ∷ 0xA3 ∷ 0xC8 ∷ []) (at 0 1 0xFFFF_FFE0 0 0x0002) (at 3 1 0xFFFF_FFE0 0 0x0003))
    ∷ run (step (0x0F ∷ 0xA3 ∷ 0xC8 ∷ []) (at 0 1 0xFFFF_FFFF 0 0x0003) (at 3 1 0xFFFF_FFFF 0 0x0002))
    ∷ []

-- BSF, BSR
unfoldable pub bit_scans : List Case
bit_scans =
    -- 0F BC C1: the lowest one of 1 is at 0, of 80000000h at 31; of 0 EAX keeps its value, and ZF is set
    run (step (0x0F ∷ 0xBC ∷ 0xC1 ∷ []) (at 0 0x77 1 0 0x0042) (at 3 0 1 0 0x0002))
    ∷ run (step (0x0F ∷ 0xBC ∷ 0xC1 ∷ []) (at 0 0x77 0x8000_0000 0 0x0042) (at 3 31 0x8000_0000 0 0x0002))
    ∷ run (step (0x0F ∷ 0xBC ∷ 0xC1 ∷ []) (at 0 0x77 0 0 0x0002) (at 3 0x77 0 0 0x0042))
    -- 0F BD C1: the highest one of 1 is at 0, of 3 at 1; of 0 as above
    ∷ run (step (0x0F ∷ 0xBD ∷ 0xC1 ∷ []) (at 0 0x77 1 0 0x0042) (at 3 0 1 0 0x0002))
    ∷ run (step (0x0F ∷ 0xBD ∷ 0xC1 ∷ []) (at 0 0x77 3 0 0x0042) (at 3 1 3 0 0x0002))
    ∷ run (step (0x0F ∷ 0xBD ∷ 0xC1 ∷ []) (at 0 0x77 0 0 0x0002) (at 3 0x77 0 0 0x0042))
    -- 66 0F BD C1, CX = 8000h: AX 15, and the rest of EAX keeps its value
    ∷ run (step (0x66 ∷ 0x0F ∷ 0xBD ∷ 0xC1 ∷ []) (at 0 0x1234_5678 0xFFFF_8000 0 0x0002) (at 4 0x1234_000F 0xFFFF_8000 0 0x0002))
    ∷ []

-- SHLD, SHRD
unfoldable pub double_shifts : List Case
double_shifts =
    -- 66 0F A4 C8, AX = 8001h, CX = ABCDh: by 15 D5E6h and bit 1 out, by 16 ABCDh and bit 0 out, by 17 AX keeps its value and the flags are cleared
    run (step (0x66 ∷ 0x0F ∷ 0xA4 ∷ 0xC8 ∷ 15 ∷ []) (at 0 0x1234_8001 0xABCD 0 0x0003) (at 5 0x1234_D5E6 0xABCD 0 0x0082))
    ∷ run (step (0x66 ∷ 0x0F ∷ 0xA4 ∷ 0xC8 ∷ 16 ∷ []) (at 0 0x1234_8001 0xABCD 0 0x0002) (at 5 0x1234_ABCD 0xABCD 0 0x0083))
    ∷ run (step (0x66 ∷ 0x0F ∷ 0xA4 ∷ 0xC8 ∷ 17 ∷ []) (at 0 0x1234_8001 0xABCD 0 0x08D7) (at 5 0x1234_8001 0xABCD 0 0x0002))
    -- 66 0F AC C8: by 15 579Bh and bit 14 out, by 16 ABCDh and bit 15 out, by 17 as above
    ∷ run (step (0x66 ∷ 0x0F ∷ 0xAC ∷ 0xC8 ∷ 15 ∷ []) (at 0 0x1234_8001 0xABCD 0 0x0003) (at 5 0x1234_579B 0xABCD 0 0x0002))
    ∷ run (step (0x66 ∷ 0x0F ∷ 0xAC ∷ 0xC8 ∷ 16 ∷ []) (at 0 0x1234_8001 0xABCD 0 0x0002) (at 5 0x1234_ABCD 0xABCD 0 0x0083))
    ∷ run (step (0x66 ∷ 0x0F ∷ 0xAC ∷ 0xC8 ∷ 17 ∷ []) (at 0 0x1234_8001 0xABCD 0 0x08D7) (at 5 0x1234_8001 0xABCD 0 0x0002))
    -- 0F A5 D0, CL = 1, EDX = 80000000h: the sign changes, or not
    ∷ run (step (0x0F ∷ 0xA5 ∷ 0xD0 ∷ []) (at 0 0x4000_0000 1 0x8000_0000 0x0003) (at 3 0x8000_0001 1 0x8000_0000 0x0882))
    ∷ run (step (0x0F ∷ 0xA5 ∷ 0xD0 ∷ []) (at 0 0x2000_0000 1 0x8000_0000 0x0803) (at 3 0x4000_0001 1 0x8000_0000 0x0002))
    -- 0F AD D0, EAX = 80000001h, EDX = 1: by CL = 1 C0000000h and bit 0 out; CL = 32 is count 0, and nothing changes
    ∷ run (step (0x0F ∷ 0xAD ∷ 0xD0 ∷ []) (at 0 0x8000_0001 1 1 0x0002) (at 3 0xC000_0000 1 1 0x0087))
    ∷ run (step (0x0F ∷ 0xAD ∷ 0xD0 ∷ []) (at 0 0x8000_0001 32 1 0x08D7) (at 3 0x8000_0001 32 1 0x08D7))
    -- 0F A5 06, CL = 0: the memory operand is still read
    ∷ run (looks (0x0F ∷ 0xA5 ∷ 0x06 ∷ []) (aimed 0 1 0x0010_0004 0x08D7) (aimed 3 1 0x0010_0004 0x08D7))
    ∷ run (misses (0x0F ∷ 0xA5 ∷ 0x06 ∷ []) (aimed 0 1 0x0010_0005 0x08D7) 0x0010_0008)
    ∷ []

-- CMOVcc
unfoldable pub conditional_moves : List Case
conditional_moves =
    -- 0F 44 06: with ZF set EAX is moved to, and else keeps its value; a read outside the data gives 5 even then
    run (looks (0x0F ∷ 0x44 ∷ 0x06 ∷ []) (aimed 0 0x77 0x0010_0004 0x0042) (aimed 3 0x8877_6655 0x0010_0004 0x0042))
    ∷ run (looks (0x0F ∷ 0x44 ∷ 0x06 ∷ []) (aimed 0 0x77 0x0010_0004 0x0002) (aimed 3 0x77 0x0010_0004 0x0002))
    ∷ run (misses (0x0F ∷ 0x44 ∷ 0x06 ∷ []) (aimed 0 0x77 0x0010_0005 0x0002) 0x0010_0008)
    -- 66 0F 45 06: AX is moved to, and the rest of EAX keeps its value
    ∷ run (looks (0x66 ∷ 0x0F ∷ 0x45 ∷ 0x06 ∷ []) (aimed 0 0x1234_5678 0x0010_0004 0x0002) (aimed 4 0x1234_6655 0x0010_0004 0x0002))
    ∷ []

-- the whole table
unfoldable pub bits_table : List Case
bits_table = (bit_tests ++ bit_scans ++ double_shifts ++ conditional_moves) ++ map bytes cases_m_100
