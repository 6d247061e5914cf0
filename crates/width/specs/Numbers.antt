-- Numbers at a size: an integer's rest, the signed meaning, extension, byte reversal. Assumes nothing.
use Rattle.std.specs.Prelude.{◌≡◌, Bool, ◌||◌, ℕ, ◌+◌, ◌-◌, ◌*◌, ◌/◌, ◌%◌, ◌^◌, ◌<◌, ℤ, pos, negsuc, neg_ℤ, if◌then◌else◌, nat_le, nat_lt, ◌==◌}
use Rattle.std.proofs.Math.IntN.{sub_ℕ}
use Rattle.std.specs.Int.Signed.{lt_z, le_z}
use Rattle.width.specs.declared.Size.{Size}
use Rattle.width.specs.Sizes.{modulus, half}

-- a truth value as a number
unfoldable pub bit : Bool → ℕ
bit b = if b then 1 else 0

-- r is the truth value b as a number
pub record Bit (b : Bool) (r : ℕ) : Type 0 where
  pub is : r ≡ bit b
  pub below : r < 2

-- one bit of a number
unfoldable pub bit_at : ℕ → ℕ → Bool
bit_at k n = n / 2 ^ k % 2 == 1

-- an integer's rest modulo m: the one number below m that differs from it by a multiple of m
unfoldable pub residue : ℕ → ℤ → ℕ
residue m (pos n) = n % m
residue m (negsuc n) = m - 1 - n % m

-- an integer's rest at a size
unfoldable pub rest : Size → ℤ → ℕ
rest w z = residue (modulus w) z

-- r is the number v, and one of the size
pub record Is (w : Size) (v r : ℕ) : Type 0 where
  pub is : r ≡ v
  pub below : r < modulus w

-- an integer that is none of the numbers 0 to m - 1
unfoldable pub beyond : ℕ → ℤ → Bool
beyond m z = lt_z z (pos 0) || le_z (pos m) z

-- what a number means as a signed one, where h is the least number whose sign bit is set
unfoldable pub meaning : ℕ → ℕ → ℤ
meaning h v = if nat_lt v h then pos v else sub_ℕ v (h + h)

-- what a number of a size means as a signed one
unfoldable pub signed : Size → ℕ → ℤ
signed w v = meaning (half w) v

-- an integer that is no signed number of the size
unfoldable pub outside : Size → ℤ → Bool
outside w z = lt_z z (neg_ℤ (pos (half w))) || le_z (pos (half w)) z

-- the sign bit
unfoldable pub negative : Size → ℕ → Bool
negative w v = nat_le (half w) v

-- r is how far the signed meaning lies above the lowest signed number of the size
pub record Ranked (w : Size) (v r : ℕ) : Type 0 where
  pub meant : signed w v ≡ sub_ℕ r (half w)
  pub below : r < 2 ^ 32

-- a number of one size, extended by sign to another
unfoldable pub sign_extended : Size → Size → ℕ → ℕ
sign_extended from to v = rest to (signed from v)

-- 003 "CWD/CDQ": a number with each bit the sign bit
unfoldable pub sign_filled : Size → ℕ → ℕ
sign_filled w v = if negative w v then modulus w - 1 else 0

-- 003 "BSWAP": the four bytes in the opposite order
unfoldable pub reversed : ℕ → ℕ
reversed v = v % 2 ^ 8 * 2 ^ 24 + v / 2 ^ 8 % 2 ^ 8 * 2 ^ 16 + v / 2 ^ 16 % 2 ^ 8 * 2 ^ 8 + v / 2 ^ 24 % 2 ^ 8
