-- The lent areas: data, read and written, and constants, which are only read. Assumes nothing.
use Rattle.std.specs.Prelude.{Bool, ◌&&◌, List, [], ℕ, Option, Some, None, ◌+◌, ◌-◌, ◌%◌, ◌^◌, length, take, drop, if◌then◌else◌, nat_le}
use Rattle.std.proofs.lemmas.List.Edits.{sets}
use Rattle.width.specs.declared.Size.{Size}
use Rattle.width.specs.Sizes.{bytes}
use Rattle.width.specs.LittleEndian.{little_endian, bytes_of}

-- data lies at 00100000h upward
unfoldable pub data_base : ℕ
data_base = 0x0010_0000

-- constants lie at 00200000h upward
unfoldable pub constants_base : ℕ
constants_base = 0x0020_0000

-- an area of so many bytes at a base holds all of an access of n bytes at address a
unfoldable pub holds : ℕ → ℕ → ℕ → ℕ → Bool
holds base len n a = nat_le base a && nat_le (a + n) (base + len)

-- where an access lies in such an area, or that it does not
unfoldable pub place_of : ℕ → ℕ → ℕ → ℕ → Option ℕ
place_of base len n a = if holds base len n a then Some (a - base) else None

-- the first address from a on that is not in such an area: its end if a is in it, else a itself; addresses wrap at 2^32
unfoldable pub first_outside : ℕ → ℕ → ℕ → ℕ
first_outside base len a = if holds base len 1 a then (base + len) % 2 ^ 32 else a

-- the same for a read: of the area that holds its first byte; where neither does, this byte itself
unfoldable pub first_unread : List ℕ → List ℕ → ℕ → ℕ
first_unread constants d a =
    if holds data_base (length d) 1 a then first_outside data_base (length d) a else first_outside constants_base (length constants) a

-- the bytes of an access that an area at a base holds
unfoldable pub part_of : ℕ → List ℕ → ℕ → ℕ → List ℕ
part_of base area n a = take n (drop (a - base) area)

-- what a read comes to: its bytes, or the first address that is outside
pub data Read : Type 0 where
  part : List ℕ → Read
  outside : ℕ → Read

-- a read of n bytes: a part of whichever of data and constants holds it
unfoldable pub read_of : List ℕ → List ℕ → ℕ → ℕ → Read
read_of constants d n a =
    if holds data_base (length d) n a then part (part_of data_base d n a)
    else (if holds constants_base (length constants) n a then part (part_of constants_base constants n a) else outside (first_unread constants d a))

-- the bytes that were read, none where neither area holds them
unfoldable pub held : Read → List ℕ
held (part bytes) = bytes
held (outside a) = []

-- what a load comes to: the number, or the first address that is outside
pub data Loaded : Type 0 where
  Value : ℕ → Loaded
  Outside : ℕ → Loaded

-- what a store comes to: done, or the first address that is outside
pub data Stored : Type 0 where
  Done : Stored
  Outside : ℕ → Stored

-- the number that was read, the low byte first
unfoldable pub numbered : Read → Loaded
numbered (part bytes) = Value (little_endian bytes)
numbered (outside a) = Loaded.Outside a

-- a load of a number of the size
unfoldable pub load_of : List ℕ → List ℕ → Size → ℕ → Loaded
load_of constants d w a = numbered (read_of constants d (bytes w) a)

-- whether a store is done: to data only
unfoldable pub stored_of : List ℕ → Size → ℕ → Stored
stored_of d w a = if holds data_base (length d) (bytes w) a then Done else Stored.Outside (first_outside data_base (length d) a)

-- the data after a store of a number of the size, the low byte first
unfoldable pub store_of : List ℕ → Size → ℕ → ℕ → List ℕ
store_of d w a v = if holds data_base (length d) (bytes w) a then sets d (a - data_base) (bytes_of (bytes w) v) else d
