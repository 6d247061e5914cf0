-- Cases of M-104, worked out from 003 and document 02: both sides of each edge of data and constants.
-- Assumes nothing.
use Rattle.std.specs.Prelude.{List, [], ◌∷◌, ◌++◌, ℕ, ◌+◌, replicate}
use Rattle.blockcheck.specs.Blocks.{code_base}
use Rattle.run.specs.declared.Lent.{Lent}
use Rattle.cases.specs.Lines.{lent, Run, ends, stops, lending, Case, run}
use Rattle.cases.specs.Table.{pointing, eight}

-- a machine at an offset of the code, by EAX, ESP and EBP; the other registers are 0, and the flags 0002h
abbrev pub stacked : ℕ → ℕ → ℕ → ℕ → Lent
stacked offset eax esp ebp =
    lent (eax ∷ 0 ∷ 0 ∷ 0 ∷ esp ∷ ebp ∷ 0 ∷ 0 ∷ []) (code_base + offset) 0x0002

-- a machine at an offset of the code that has found two equal numbers, by EAX, ESI and EDI: ZF and PF are set
abbrev pub equal : ℕ → ℕ → ℕ → ℕ → Lent
equal offset eax esi edi =
    lent (eax ∷ 0 ∷ 0 ∷ 0 ∷ 0 ∷ 0 ∷ esi ∷ edi ∷ []) (code_base + offset) 0x0046

-- the data: AAh to DDh
abbrev pub four : List ℕ
four = 0xAA ∷ 0xBB ∷ 0xCC ∷ 0xDD ∷ []

-- one step with these data and the eight constants 11h to 88h; it leaves the data as they were
abbrev pub looks : List ℕ → Lent → Lent → Run
looks code given after = lending eight (ends code given four 1 after four)

-- one step that writes these data
abbrev pub writes : List ℕ → Lent → Lent → List ℕ → Run
writes code given after left = lending eight (ends code given four 1 after left)

-- the first step is stopped with a number at an address, and changes nothing
abbrev pub misses : List ℕ → Lent → ℕ → ℕ → Run
misses code given number address = lending eight (stops code given four 1 given four 0 number address)

-- reads: 8B 06 of 4 bytes, 66 8B 06 of 2, 8A 06 of 1
unfoldable pub reads : List Case
reads =
    -- the last four constants, and one byte over
    run (looks (0x8B ∷ 0x06 ∷ []) (pointing 0 0 0 0x0020_0004 0) (pointing 2 0x8877_6655 0 0x0020_0004 0))
    ∷ run (misses (0x8B ∷ 0x06 ∷ []) (pointing 0 0 0 0x0020_0005 0) 5 0x0020_0008)
    -- the first four, and from one byte below
    ∷ run (looks (0x8B ∷ 0x06 ∷ []) (pointing 0 0 0 0x0020_0000 0) (pointing 2 0x4433_2211 0 0x0020_0000 0))
    ∷ run (misses (0x8B ∷ 0x06 ∷ []) (pointing 0 0 0 0x001F_FFFF 0) 5 0x001F_FFFF)
    -- the last two, and one byte over
    ∷ run (looks (0x66 ∷ 0x8B ∷ 0x06 ∷ []) (pointing 0 0 0 0x0020_0006 0) (pointing 3 0x8877 0 0x0020_0006 0))
    ∷ run (misses (0x66 ∷ 0x8B ∷ 0x06 ∷ []) (pointing 0 0 0 0x0020_0007 0) 5 0x0020_0008)
    -- the last one, and the byte behind it
    ∷ run (looks (0x8A ∷ 0x06 ∷ []) (pointing 0 0 0 0x0020_0007 0) (pointing 2 0x88 0 0x0020_0007 0))
    ∷ run (misses (0x8A ∷ 0x06 ∷ []) (pointing 0 0 0 0x0020_0008 0) 5 0x0020_0008)
    -- all data, and one byte over; across no area; where the last byte's address would wrap
    ∷ run (looks (0x8B ∷ 0x06 ∷ []) (pointing 0 0 0 0x0010_0000 0) (pointing 2 0xDDCC_BBAA 0 0x0010_0000 0))
    ∷ run (misses (0x8B ∷ 0x06 ∷ []) (pointing 0 0 0 0x0010_0001 0) 5 0x0010_0004)
    ∷ run (misses (0x8B ∷ 0x06 ∷ []) (pointing 0 0 0 0x0018_0000 0) 5 0x0018_0000)
    ∷ run (misses (0x8B ∷ 0x06 ∷ []) (pointing 0 0 0 0xFFFF_FFFE 0) 5 0xFFFF_FFFE)
    -- no constants: not even one byte
    ∷ run (stops (0x8A ∷ 0x06 ∷ []) (pointing 0 0 0 0x0020_0000 0) four 1 (pointing 0 0 0 0x0020_0000 0) four 0 5 0x0020_0000)
    ∷ []

-- writes to an operand in constants
unfoldable pub operands : List Case
operands =
    -- 89 06 only writes
    run (misses (0x89 ∷ 0x06 ∷ []) (pointing 0 0x77 0 0x0020_0000 0) 6 0x0020_0000)
    -- 01 06 reads, which is allowed, and then writes; one byte over the read is not allowed
    ∷ run (misses (0x01 ∷ 0x06 ∷ []) (pointing 0 0x77 0 0x0020_0004 0) 6 0x0020_0004)
    ∷ run (misses (0x01 ∷ 0x06 ∷ []) (pointing 0 0x77 0 0x0020_0005 0) 5 0x0020_0008)
    -- D3 26 by CL = 0 still reads and writes
    ∷ run (misses (0xD3 ∷ 0x26 ∷ []) (pointing 0 0 0 0x0020_0000 0) 6 0x0020_0000)
    -- 39 06 only reads: equal
    ∷ run (looks (0x39 ∷ 0x06 ∷ []) (pointing 0 0x4433_2211 0 0x0020_0000 0) (equal 2 0x4433_2211 0x0020_0000 0))
    ∷ []

-- the stack in constants
unfoldable pub stacks : List Case
stacks =
    -- 50 and E8 write
    run (misses (0x50 ∷ []) (stacked 0 0x77 0x0020_0008 0) 6 0x0020_0004)
    ∷ run (misses (0xE8 ∷ 0x00 ∷ 0x00 ∷ 0x00 ∷ 0x00 ∷ []) (stacked 0 0 0x0020_0008 0) 6 0x0020_0004)
    -- 58, C3 and C9 read: the last four constants, and one byte over
    ∷ run (looks (0x58 ∷ []) (stacked 0 0 0x0020_0004 0) (stacked 1 0x8877_6655 0x0020_0008 0))
    ∷ run (misses (0x58 ∷ []) (stacked 0 0 0x0020_0005 0) 5 0x0020_0008)
    ∷ run (looks (0xC3 ∷ []) (stacked 0 0 0x0020_0004 0) (lent (0 ∷ 0 ∷ 0 ∷ 0 ∷ 0x0020_0008 ∷ 0 ∷ 0 ∷ 0 ∷ []) 0x8877_6655 0x0002))
    ∷ run (misses (0xC3 ∷ []) (stacked 0 0 0x0020_0005 0) 5 0x0020_0008)
    ∷ run (looks (0xC9 ∷ []) (stacked 0 0 0 0x0020_0000) (stacked 1 0 0x0020_0004 0x4433_2211))
    ∷ run (misses (0xC9 ∷ []) (stacked 0 0 0 0x0020_0005) 5 0x0020_0008)
    ∷ []

-- string instructions
unfoldable pub strings : List Case
strings =
    -- A5 from constants to data, and from data to constants; from one byte over nothing is written
    run (writes (0xA5 ∷ []) (pointing 0 0 0 0x0020_0004 0x0010_0000) (pointing 1 0 0 0x0020_0008 0x0010_0004) (0x55 ∷ 0x66 ∷ 0x77 ∷ 0x88 ∷ []))
    ∷ run (misses (0xA5 ∷ []) (pointing 0 0 0 0x0010_0000 0x0020_0000) 6 0x0020_0000)
    ∷ run (misses (0xA5 ∷ []) (pointing 0 0 0 0x0020_0005 0x0010_0000) 5 0x0020_0008)
    -- AB writes, AD reads
    ∷ run (misses (0xAB ∷ []) (pointing 0 0x77 0 0 0x0020_0000) 6 0x0020_0000)
    ∷ run (looks (0xAD ∷ []) (pointing 0 0 0 0x0020_0004 0) (pointing 1 0x8877_6655 0 0x0020_0008 0))
    -- A7 and AF only read: equal
    ∷ run (looks (0xA7 ∷ []) (pointing 0 0 0 0x0020_0000 0x0020_0000) (equal 1 0 0x0020_0004 0x0020_0004))
    ∷ run (looks (0xAF ∷ []) (pointing 0 0x4433_2211 0 0 0x0020_0000) (equal 1 0x4433_2211 0 0x0020_0004))
    -- F3 A4, ECX = 5: four of the last five bytes fit the data, and the next write is stopped there
    ∷ run (lending eight (stops (0xF3 ∷ 0xA4 ∷ []) (pointing 0 0 5 0x0020_0003 0x0010_0000) four 9 (pointing 0 0 1 0x0020_0007 0x0010_0004) (0x44 ∷ 0x55 ∷ 0x66 ∷ 0x77 ∷ []) 4 6 0x0010_0004))
    ∷ []

-- so many constants
abbrev pub many : ℕ → List ℕ
many n = replicate n 0x5A

-- a run of 8A 06 that is refused with a number: no step, address 0, machine and data as handed in
abbrev pub refuses : List ℕ → Lent → List ℕ → ℕ → ℕ → Run
refuses code given area budget number = stops code given area budget given area 0 number 0

-- a machine at the code's start whose flags word has a bit that is no flag
abbrev pub unflagged : Lent
unflagged = lent (replicate 8 0) code_base 0x0000

-- constants of 65,536 and 65,537 bytes
unfoldable pub lengths : List Case
lengths =
    -- the last of 65,536, and the byte behind it
    run (lending (many 65_536) (ends (0x8A ∷ 0x06 ∷ []) (pointing 0 0 0 0x0020_FFFF 0) four 1 (pointing 2 0x5A 0 0x0020_FFFF 0) four))
    ∷ run (lending (many 65_536) (stops (0x8A ∷ 0x06 ∷ []) (pointing 0 0 0 0x0021_0000 0) four 1 (pointing 0 0 0 0x0021_0000 0) four 0 5 0x0021_0000))
    -- 65,537 give 15, also with budget 0, where the flags word is bad, and where the budget is too
    ∷ run (lending (many 65_537) (refuses (0x8A ∷ 0x06 ∷ []) (pointing 0 0 0 0x0020_0000 0) four 1 15))
    ∷ run (lending (many 65_537) (refuses (0x8A ∷ 0x06 ∷ []) (pointing 0 0 0 0x0020_0000 0) four 0 15))
    ∷ run (lending (many 65_537) (refuses (0x8A ∷ 0x06 ∷ []) unflagged four 1 15))
    ∷ run (lending (many 65_537) (refuses (0x8A ∷ 0x06 ∷ []) unflagged four 1_000_001 15))
    -- 10 and 11 come before it
    ∷ run (lending (many 65_537) (refuses [] unflagged four 1 10))
    ∷ run (lending (many 65_537) (refuses (0x8A ∷ 0x06 ∷ []) unflagged (many 65_537) 1 11))
    ∷ []

-- the whole table
unfoldable pub constants_table : List Case
constants_table = (reads ++ operands ++ stacks ++ strings) ++ lengths
