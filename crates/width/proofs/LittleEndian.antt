-- Parts of a list of bytes, byte by byte, and the numbers that they stand for. Assumes nothing.
use mathlib.Core.Path.{◌≡◌}
use mathlib.Core.List.{List, [], ◌∷◌}
use Prim.Native.Nat.{ℕ, suc, ◌+◌, ◌*◌, ◌≤◌, ◌<◌}
use native.Mathlib.Numerals.{add-one, add-two, add-three}
use native.Mathlib.Omega.{arith}
use lib.ListN.{length, get_or, take, drop}
use lib.Seq.{drop-cons}
use Rattle.width.specs.LittleEndian.{little_endian}

-- a part begins with the byte at its place
pub part_cons : (l : List ℕ) (i n : ℕ) → i < length l → take (suc n) (drop i l) ≡ get_or l i 0 ∷ take n (drop (suc i) l)
part_cons l i n h = rw (drop-cons l i 0 h)

module _ (l : List ℕ) (i : ℕ) where
  pub one : i + 1 ≤ length l → take 1 (drop i l) ≡ get_or l i 0 ∷ []
  one h = part_cons l i 0 (omega arith)

  two : i + 2 ≤ length l → take 2 (drop i l) ≡ get_or l i 0 ∷ get_or l (i + 1) 0 ∷ []
  two h = rw (add-one i, part_cons l i 1 (omega arith), part_cons l (suc i) 0 (omega arith))

  four : i + 4 ≤ length l
      → take 4 (drop i l) ≡ get_or l i 0 ∷ get_or l (i + 1) 0 ∷ get_or l (i + 2) 0 ∷ get_or l (i + 3) 0 ∷ []
  four h =
      rw (
        add-one i,
        add-two i,
        add-three i,
        part_cons l i 3 (omega arith),
        part_cons l (suc i) 2 (omega arith),
        part_cons l (suc (suc i)) 1 (omega arith),
        part_cons l (suc (suc (suc i))) 0 (omega arith),
      )

  pub number_one : i + 1 ≤ length l → little_endian (take 1 (drop i l)) ≡ get_or l i 0
  unfolding little_endian
  number_one h = rw (one h) (omega arith)

  pub number_two : i + 2 ≤ length l → little_endian (take 2 (drop i l)) ≡ get_or l i 0 + 256 * get_or l (i + 1) 0
  unfolding little_endian
  number_two h = rw (two h) (omega arith)

  pub number_four : i + 4 ≤ length l
      → little_endian (take 4 (drop i l)) ≡ get_or l i 0 + 256 * get_or l (i + 1) 0 + 65536 * (get_or l (i + 2) 0 + 256 * get_or l (i + 3) 0)
  unfolding little_endian
  number_four h = rw (four h) (omega arith)
