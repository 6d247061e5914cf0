-- Signed numbers by sign and magnitude, for the contracts of private functions alone. Assumes nothing.
use Rattle.std.specs.Prelude.{◌≡◌, ℕ, ◌*◌, ◌<◌, ◌≤◌, Bool, ℤ, pos, neg_ℤ, if◌then◌else◌}
use Rattle.width.specs.declared.Size.{Size}
use Rattle.width.specs.Sizes.{modulus}
use Rattle.product.specs.declared.Signed.{Signed}

-- the integer with this sign and this magnitude
unfoldable pub with_sign : Bool → ℕ → ℤ
with_sign negative n = if negative then neg_ℤ (pos n) else pos n

-- the integer that a sign and a magnitude give
abbrev pub integer : Signed → ℤ
integer r = with_sign r.negative r.magnitude

-- r is the integer z, and its magnitude is at most h
pub record Represents (z : ℤ) (h : ℕ) (r : Signed) : Type 0 where
  pub is : integer r ≡ z
  pub most : r.magnitude ≤ h

-- r is the number v, and one of twice the size
pub record Twice (w : Size) (v r : ℕ) : Type 0 where
  pub is : r ≡ v
  pub below : r < modulus w * modulus w
