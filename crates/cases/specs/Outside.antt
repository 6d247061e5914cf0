-- Cases of M-105, worked out from document 02: which byte of a refused access is given, both sides of each edge. Data are four bytes, so that they end at 00100004h, and constants eight, so that they end at 00200008h.
-- Assumes nothing.
use Rattle.std.specs.Prelude.{List, [], ◌∷◌, ◌++◌}
use Rattle.cases.specs.Lines.{stops, lending, Case, run}
use Rattle.cases.specs.Table.{pointing, eight}
use Rattle.cases.specs.Constants.{stacked, four, looks, writes, misses}

-- reads: 8B 06 of 4 bytes, 66 8B 06 of 2, 8A 06 of 1
unfoldable pub unread : List Case
unread =
    -- from one byte below data: this byte; all of data are read; from their third and their last byte on: their end; from there and from one byte past it on: this byte
    run (misses (0x8B ∷ 0x06 ∷ []) (pointing 0 0 0 0x000F_FFFF 0) 5 0x000F_FFFF)
    ∷ run (looks (0x8B ∷ 0x06 ∷ []) (pointing 0 0 0 0x0010_0000 0) (pointing 2 0xDDCC_BBAA 0 0x0010_0000 0))
    ∷ run (misses (0x8B ∷ 0x06 ∷ []) (pointing 0 0 0 0x0010_0002 0) 5 0x0010_0004)
    ∷ run (misses (0x8B ∷ 0x06 ∷ []) (pointing 0 0 0 0x0010_0003 0) 5 0x0010_0004)
    ∷ run (misses (0x8B ∷ 0x06 ∷ []) (pointing 0 0 0 0x0010_0004 0) 5 0x0010_0004)
    ∷ run (misses (0x8B ∷ 0x06 ∷ []) (pointing 0 0 0 0x0010_0005 0) 5 0x0010_0005)
    -- their last two bytes are read, from the last one on they are not
    ∷ run (looks (0x66 ∷ 0x8B ∷ 0x06 ∷ []) (pointing 0 0 0 0x0010_0002 0) (pointing 3 0xDDCC 0 0x0010_0002 0))
    ∷ run (misses (0x66 ∷ 0x8B ∷ 0x06 ∷ []) (pointing 0 0 0 0x0010_0003 0) 5 0x0010_0004)
    -- their last one is read, the byte behind it is not
    ∷ run (looks (0x8A ∷ 0x06 ∷ []) (pointing 0 0 0 0x0010_0003 0) (pointing 2 0xDD 0 0x0010_0003 0))
    ∷ run (misses (0x8A ∷ 0x06 ∷ []) (pointing 0 0 0 0x0010_0004 0) 5 0x0010_0004)
    -- constants: with the last byte alone in them; their last four are read; from their last three, their last one and their end on
    ∷ run (misses (0x8B ∷ 0x06 ∷ []) (pointing 0 0 0 0x001F_FFFD 0) 5 0x001F_FFFD)
    ∷ run (looks (0x8B ∷ 0x06 ∷ []) (pointing 0 0 0 0x0020_0004 0) (pointing 2 0x8877_6655 0 0x0020_0004 0))
    ∷ run (misses (0x8B ∷ 0x06 ∷ []) (pointing 0 0 0 0x0020_0005 0) 5 0x0020_0008)
    ∷ run (misses (0x8B ∷ 0x06 ∷ []) (pointing 0 0 0 0x0020_0007 0) 5 0x0020_0008)
    ∷ run (misses (0x8B ∷ 0x06 ∷ []) (pointing 0 0 0 0x0020_0008 0) 5 0x0020_0008)
    -- no data and no constants: the first byte, wherever it is
    ∷ run (stops (0x8B ∷ 0x06 ∷ []) (pointing 0 0 0 0x0010_0000 0) [] 1 (pointing 0 0 0 0x0010_0000 0) [] 0 5 0x0010_0000)
    ∷ run (stops (0x8B ∷ 0x06 ∷ []) (pointing 0 0 0 0x0020_0000 0) [] 1 (pointing 0 0 0 0x0020_0000 0) [] 0 5 0x0020_0000)
    -- the last four addresses, and where the second byte's would wrap
    ∷ run (misses (0x8B ∷ 0x06 ∷ []) (pointing 0 0 0 0xFFFF_FFFC 0) 5 0xFFFF_FFFC)
    ∷ run (misses (0x8B ∷ 0x06 ∷ []) (pointing 0 0 0 0xFFFF_FFFF 0) 5 0xFFFF_FFFF)
    ∷ []

-- writes of EAX = 44332211h: 89 06 of 4 bytes, 66 89 06 of 2, 88 06 of 1
unfoldable pub unwritten : List Case
unwritten =
    -- from one byte below data: this byte; all of data are written; from their second and their last byte on: their end; from there on: this byte
    run (misses (0x89 ∷ 0x06 ∷ []) (pointing 0 0x4433_2211 0 0x000F_FFFF 0) 6 0x000F_FFFF)
    ∷ run (writes (0x89 ∷ 0x06 ∷ []) (pointing 0 0x4433_2211 0 0x0010_0000 0) (pointing 2 0x4433_2211 0 0x0010_0000 0) (0x11 ∷ 0x22 ∷ 0x33 ∷ 0x44 ∷ []))
    ∷ run (misses (0x89 ∷ 0x06 ∷ []) (pointing 0 0x4433_2211 0 0x0010_0001 0) 6 0x0010_0004)
    ∷ run (misses (0x89 ∷ 0x06 ∷ []) (pointing 0 0x4433_2211 0 0x0010_0003 0) 6 0x0010_0004)
    ∷ run (misses (0x89 ∷ 0x06 ∷ []) (pointing 0 0x4433_2211 0 0x0010_0004 0) 6 0x0010_0004)
    -- their last two bytes are written, from the last one on they are not
    ∷ run (writes (0x66 ∷ 0x89 ∷ 0x06 ∷ []) (pointing 0 0x4433_2211 0 0x0010_0002 0) (pointing 3 0x4433_2211 0 0x0010_0002 0) (0xAA ∷ 0xBB ∷ 0x11 ∷ 0x22 ∷ []))
    ∷ run (misses (0x66 ∷ 0x89 ∷ 0x06 ∷ []) (pointing 0 0x4433_2211 0 0x0010_0003 0) 6 0x0010_0004)
    -- their last one is written, the byte behind it is not
    ∷ run (writes (0x88 ∷ 0x06 ∷ []) (pointing 0 0x4433_2211 0 0x0010_0003 0) (pointing 2 0x4433_2211 0 0x0010_0003 0) (0xAA ∷ 0xBB ∷ 0xCC ∷ 0x11 ∷ []))
    ∷ run (misses (0x88 ∷ 0x06 ∷ []) (pointing 0 0x4433_2211 0 0x0010_0004 0) 6 0x0010_0004)
    -- from one byte below the constants, in them, and from their last byte on: the first byte
    ∷ run (misses (0x89 ∷ 0x06 ∷ []) (pointing 0 0x4433_2211 0 0x001F_FFFF 0) 6 0x001F_FFFF)
    ∷ run (misses (0x89 ∷ 0x06 ∷ []) (pointing 0 0x4433_2211 0 0x0020_0004 0) 6 0x0020_0004)
    ∷ run (misses (0x89 ∷ 0x06 ∷ []) (pointing 0 0x4433_2211 0 0x0020_0007 0) 6 0x0020_0007)
    -- no data; where the second byte's address would wrap
    ∷ run (stops (0x88 ∷ 0x06 ∷ []) (pointing 0 0 0 0x0010_0000 0) [] 1 (pointing 0 0 0 0x0010_0000 0) [] 0 6 0x0010_0000)
    ∷ run (misses (0x89 ∷ 0x06 ∷ []) (pointing 0 0x4433_2211 0 0xFFFF_FFFF 0) 6 0xFFFF_FFFF)
    ∷ []

-- other accesses of 4 bytes, and a repeated one of 2
unfoldable pub others : List Case
others =
    -- 01 06 reads first
    run (misses (0x01 ∷ 0x06 ∷ []) (pointing 0 0x77 0 0x0010_0003 0) 5 0x0010_0004)
    ∷ run (misses (0x01 ∷ 0x06 ∷ []) (pointing 0 0x77 0 0x0020_0007 0) 5 0x0020_0008)
    -- 50 writes at ESP - 4, C3 reads at ESP
    ∷ run (misses (0x50 ∷ []) (stacked 0 0x77 0x0010_0006 0) 6 0x0010_0004)
    ∷ run (misses (0x50 ∷ []) (stacked 0 0x77 0x0010_0003 0) 6 0x000F_FFFF)
    ∷ run (misses (0xC3 ∷ []) (stacked 0 0 0x0010_0001 0) 5 0x0010_0004)
    -- A5 looks at ESI's operand first, and A7 too
    ∷ run (misses (0xA5 ∷ []) (pointing 0 0 0 0x0020_0006 0x0010_0002) 5 0x0020_0008)
    ∷ run (misses (0xA5 ∷ []) (pointing 0 0 0 0x0020_0000 0x0010_0002) 6 0x0010_0004)
    ∷ run (misses (0xA7 ∷ []) (pointing 0 0 0 0x0010_0003 0x0020_0006) 5 0x0010_0004)
    ∷ run (misses (0xA7 ∷ []) (pointing 0 0 0 0x0020_0000 0x0010_0003) 5 0x0010_0004)
    -- 66 F3 A5, ECX = 3, EDI = 00100001h: the second round would begin in data's last byte
    ∷ run (lending eight (stops (0x66 ∷ 0xF3 ∷ 0xA5 ∷ []) (pointing 0 0 3 0x0020_0000 0x0010_0001) four 9 (pointing 0 0 2 0x0020_0002 0x0010_0003) (0xAA ∷ 0x11 ∷ 0x22 ∷ 0xDD ∷ []) 1 6 0x0010_0004))
    ∷ []

-- the whole table
unfoldable pub outside_table : List Case
outside_table = unread ++ unwritten ++ others
