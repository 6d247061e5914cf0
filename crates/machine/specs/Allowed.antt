-- Which accesses are allowed, and which byte of another is the first outside, as whole numbers: the words of the promises about reads and writes. Assumes nothing.
use Rattle.std.specs.Prelude.{◌≡◌, List, ℕ, ◌+◌, ◌<◌, ◌≤◌, length}
use Rattle.machine.specs.Memory.{data_base, constants_base}

-- an access of n bytes at address a lies wholly in an area of so many bytes at a base
pub record Lies (base len n a : ℕ) : Type 0 where
  pub low : base ≤ a
  pub high : a + n ≤ base + len

-- a read lies wholly in data or wholly in constants
pub data Readable (constants d : List ℕ) (n a : ℕ) : Type 0 where
  in_data : Lies data_base (length d) n a → Readable constants d n a
  in_constants : Lies constants_base (length constants) n a → Readable constants d n a

-- a write lies wholly in data
abbrev pub Writable : List ℕ → ℕ → ℕ → Type 0
Writable d n a = Lies data_base (length d) n a

-- b is the first address from a on that is not in an area of so many bytes at a base: it lies outside, and all before it lie inside
pub record First (base len a b : ℕ) : Type 0 where
  pub onward : a ≤ b
  pub outside : Lies base len 1 b → ⊥
  pub before : (c : ℕ) → a ≤ c → c < b → Lies base len 1 c

-- b is the first address outside for a read at a: of the area that holds the byte at a, or a itself where neither does
pub data Unread (constants d : List ℕ) (a b : ℕ) : Type 0 where
  of_data : Lies data_base (length d) 1 a → First data_base (length d) a b → Unread constants d a b
  of_constants : Lies constants_base (length constants) 1 a → First constants_base (length constants) a b → Unread constants d a b
  of_neither : (Readable constants d 1 a → ⊥) → b ≡ a → Unread constants d a b

-- an access of n bytes at address a has a byte at b
pub record Among (n a b : ℕ) : Type 0 where
  pub low : a ≤ b
  pub high : b < a + n
