-- Cases of M-106, worked out from 003, document 02 and IEEE 754: both sides of each edge.
-- Assumes nothing.
use Rattle.std.specs.Prelude.{List, [], ◌∷◌, ◌++◌, map, ℕ, ◌+◌, replicate}
use Rattle.machine.specs.Registers.{xmm}
use Rattle.grammar.specs.Cases.{cases_m_106}
use Rattle.blockcheck.specs.Blocks.{code_base}
use Rattle.run.specs.declared.Lent.{Lent}
use Rattle.cases.specs.Lines.{ends, stops, lending, step, Case, run, bytes}
use Rattle.cases.specs.Table.{eight}

-- a machine at an offset of the code, by ESI, XMM0, XMM1 and the flags word; all else is 0
abbrev pub floating : ℕ → ℕ → ℕ → ℕ → ℕ → Lent
floating offset esi x y word =
    record {
      regs = replicate 6 0 ++ esi ∷ 0 ∷ [];
      xmm = xmm x ∷ xmm y ∷ replicate 6 (xmm 0);
      eip = code_base + offset;
      word = word;
    }

-- F3 0F op C1, of XMM0 and XMM1: XMM0 is z then, and all flags stay set
abbrev pub gives : ℕ → ℕ → ℕ → ℕ → Case
gives op x y z = run (step (0xF3 ∷ 0x0F ∷ op ∷ 0xC1 ∷ []) (floating 0 0 x y 0x0CD7) (floating 4 0 z y 0x0CD7))

-- ADDSS 58, MULSS 59, SUBSS 5C, DIVSS 5E
unfoldable pub rounded_singles : List Case
rounded_singles =
    -- 1 / 3 and 2 / 3, rounded up; the number nearest to 1 / 5 less the one nearest to 1 / 10 is exact
    gives 0x5E 0x3F80_0000 0x4040_0000 0x3EAA_AAAB
    ∷ gives 0x5E 0x4000_0000 0x4040_0000 0x3F2A_AAAB
    ∷ gives 0x5C 0x3E4C_CCCD 0x3DCC_CCCD 0x3DCC_CCCD
    -- 1 + 2^-24 lies between 1 and the next number: to the even one; so does that number + 2^-24
    ∷ gives 0x58 0x3F80_0000 0x3380_0000 0x3F80_0000
    ∷ gives 0x58 0x3F80_0001 0x3380_0000 0x3F80_0002
    -- the smallest denormal halved is 0, three of them halved are two: ties to even; the smallest normal number halved is a denormal
    ∷ gives 0x59 0x0000_0001 0x3F00_0000 0x0000_0000
    ∷ gives 0x59 0x0000_0003 0x3F00_0000 0x0000_0002
    ∷ gives 0x59 0x0080_0000 0x3F00_0000 0x0040_0000
    -- the largest number doubled is an infinity; so is 1 divided by a zero, of the zero's sign
    ∷ gives 0x58 0x7F7F_FFFF 0x7F7F_FFFF 0x7F80_0000
    ∷ gives 0x58 0xFF7F_FFFF 0xFF7F_FFFF 0xFF80_0000
    ∷ gives 0x5E 0x3F80_0000 0x0000_0000 0x7F80_0000
    ∷ gives 0x5E 0x3F80_0000 0x8000_0000 0xFF80_0000
    -- infinity less infinity, 0 times infinity, 0 / 0, infinity / infinity
    ∷ gives 0x5C 0x7F80_0000 0x7F80_0000 0xFFC0_0000
    ∷ gives 0x59 0x0000_0000 0x7F80_0000 0xFFC0_0000
    ∷ gives 0x5E 0x0000_0000 0x0000_0000 0xFFC0_0000
    ∷ gives 0x5E 0xFF80_0000 0x7F80_0000 0xFFC0_0000
    -- a signalling NaN is quieted, the first operand and the second; a quiet one stays
    ∷ gives 0x58 0x7F80_0001 0x3F80_0000 0x7FC0_0001
    ∷ gives 0x59 0x3F80_0000 0xFF80_0001 0xFFC0_0001
    ∷ gives 0x5C 0x3F80_0000 0x7FC0_1234 0x7FC0_1234
    -- both are NaNs: the first, whichever is signalling
    ∷ gives 0x5E 0x7F80_0001 0xFFC0_0002 0x7FC0_0001
    ∷ gives 0x5E 0xFFC0_0002 0x7F80_0001 0xFFC0_0002
    -- minus zero plus zero, in both orders; two minus zeros; minus zero less zero
    ∷ gives 0x58 0x8000_0000 0x0000_0000 0x0000_0000
    ∷ gives 0x58 0x0000_0000 0x8000_0000 0x0000_0000
    ∷ gives 0x58 0x8000_0000 0x8000_0000 0x8000_0000
    ∷ gives 0x5C 0x8000_0000 0x0000_0000 0x8000_0000
    ∷ []

-- MINSS 5D, MAXSS 5F
unfoldable pub chosen_singles : List Case
chosen_singles =
    -- the two zeros, both ways: the second
    gives 0x5D 0x0000_0000 0x8000_0000 0x8000_0000
    ∷ gives 0x5D 0x8000_0000 0x0000_0000 0x0000_0000
    ∷ gives 0x5F 0x0000_0000 0x8000_0000 0x8000_0000
    ∷ gives 0x5F 0x8000_0000 0x0000_0000 0x0000_0000
    -- a NaN in either place: the second, unchanged
    ∷ gives 0x5D 0x7F80_0001 0x3F80_0000 0x3F80_0000
    ∷ gives 0x5D 0x3F80_0000 0x7F80_0001 0x7F80_0001
    ∷ gives 0x5F 0x7FC0_0001 0xFF80_0002 0xFF80_0002
    -- numbers: -1 and the smallest denormal
    ∷ gives 0x5D 0xBF80_0000 0x0000_0001 0xBF80_0000
    ∷ gives 0x5D 0x0000_0001 0xBF80_0000 0xBF80_0000
    ∷ gives 0x5F 0xBF80_0000 0x0000_0001 0x0000_0001
    ∷ gives 0x5F 0x0000_0001 0xBF80_0000 0x0000_0001
    ∷ []

-- 0F 2F C1: XMM0 compared with XMM1
abbrev pub compares : ℕ → ℕ → ℕ → ℕ → Case
compares x y before after = run (step (0x0F ∷ 0x2F ∷ 0xC1 ∷ []) (floating 0 0 x y before) (floating 3 0 x y after))

-- COMISS
unfoldable pub compared_singles : List Case
compared_singles =
    -- a NaN in either place: ZF, PF and CF; OF, SF and AF are cleared, and DF stays
    compares 0x7FC0_0000 0x3F80_0000 0x0002 0x0047
    ∷ compares 0x3F80_0000 0xFF80_0001 0x0CD7 0x0447
    -- greater: none; less: CF; equal: ZF
    ∷ compares 0x3F80_0000 0xBF80_0000 0x0CD7 0x0402
    ∷ compares 0x0000_0001 0x0000_0002 0x0002 0x0003
    ∷ compares 0x7F80_0000 0x7F80_0000 0x0002 0x0042
    ∷ compares 0x0000_0000 0x8000_0000 0x0002 0x0042
    ∷ []

-- MOVSS, with the eight data bytes 11h to 88h
unfoldable pub moved_singles : List Case
moved_singles =
    -- F3 0F 10 06 reads the last four; one byte on it stops with 5 at the data's end
    run (ends (0xF3 ∷ 0x0F ∷ 0x10 ∷ 0x06 ∷ []) (floating 0 0x0010_0004 0 0 0x0CD7) eight 1 (floating 4 0x0010_0004 0x8877_6655 0 0x0CD7) eight)
    ∷ run (stops (0xF3 ∷ 0x0F ∷ 0x10 ∷ 0x06 ∷ []) (floating 0 0x0010_0005 7 0 0x0002) eight 1 (floating 0 0x0010_0005 7 0 0x0002) eight 0 5 0x0010_0008)
    -- F3 0F 11 06 writes a signalling NaN as it is; one byte on it stops with 6
    ∷ run (ends (0xF3 ∷ 0x0F ∷ 0x11 ∷ 0x06 ∷ []) (floating 0 0x0010_0004 0x7F80_0001 0 0x0002) eight 1 (floating 4 0x0010_0004 0x7F80_0001 0 0x0002) (0x11 ∷ 0x22 ∷ 0x33 ∷ 0x44 ∷ 0x01 ∷ 0x00 ∷ 0x80 ∷ 0x7F ∷ []))
    ∷ run (stops (0xF3 ∷ 0x0F ∷ 0x11 ∷ 0x06 ∷ []) (floating 0 0x0010_0005 7 0 0x0002) eight 1 (floating 0 0x0010_0005 7 0 0x0002) eight 0 6 0x0010_0008)
    -- F3 0F 10 C1 and F3 0F 11 C1 copy, a signalling NaN too
    ∷ run (step (0xF3 ∷ 0x0F ∷ 0x10 ∷ 0xC1 ∷ []) (floating 0 0 7 0xFF80_0001 0x0002) (floating 4 0 0xFF80_0001 0xFF80_0001 0x0002))
    ∷ run (step (0xF3 ∷ 0x0F ∷ 0x11 ∷ 0xC1 ∷ []) (floating 0 0 7 0xFF80_0001 0x0002) (floating 4 0 7 7 0x0002))
    -- constants are read, and not written
    ∷ run (lending eight (ends (0xF3 ∷ 0x0F ∷ 0x10 ∷ 0x06 ∷ []) (floating 0 0x0020_0000 0 0 0x0002) [] 1 (floating 4 0x0020_0000 0x4433_2211 0 0x0002) []))
    ∷ run (lending eight (stops (0xF3 ∷ 0x0F ∷ 0x11 ∷ 0x06 ∷ []) (floating 0 0x0020_0000 7 0 0x0002) [] 1 (floating 0 0x0020_0000 7 0 0x0002) [] 0 6 0x0020_0000))
    -- ADDSS and COMISS of memory, and where it may not be read
    ∷ run (ends (0xF3 ∷ 0x0F ∷ 0x58 ∷ 0x06 ∷ []) (floating 0 0x0010_0000 0x4433_2211 0 0x0002) eight 1 (floating 4 0x0010_0000 0x44B3_2211 0 0x0002) eight)
    ∷ run (ends (0x0F ∷ 0x2F ∷ 0x06 ∷ []) (floating 0 0x0010_0000 0x4433_2211 0 0x0002) eight 1 (floating 3 0x0010_0000 0x4433_2211 0 0x0042) eight)
    ∷ run (stops (0xF3 ∷ 0x0F ∷ 0x5E ∷ 0x06 ∷ []) (floating 0 0x0010_0006 7 0 0x0002) eight 1 (floating 0 0x0010_0006 7 0 0x0002) eight 0 5 0x0010_0008)
    -- F3 0F 59 C0: XMM0 times itself, both read before
    ∷ run (step (0xF3 ∷ 0x0F ∷ 0x59 ∷ 0xC0 ∷ []) (floating 0 0 0xC040_0000 0 0x0002) (floating 4 0 0x4110_0000 0 0x0002))
    ∷ []

-- the whole table
unfoldable pub singles_table : List Case
singles_table = (rounded_singles ++ chosen_singles ++ compared_singles ++ moved_singles) ++ map bytes cases_m_106
