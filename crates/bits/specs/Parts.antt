-- What the parts of a bit's address give, each with its bound, for the contracts of private functions alone. Assumes nothing.
use Rattle.std.specs.Prelude.{◌≡◌, ℕ, ◌*◌, ◌/◌, ◌^◌, ◌≤◌}
use Rattle.std.proofs.Math.IntN.{sub_ℕ}
use Rattle.width.specs.declared.Size.{Size}
use Rattle.width.specs.Sizes.{bits, bytes}
use Rattle.width.specs.Numbers.{signed}

-- r is how far a number's signed meaning lies below it, a multiple of the size's bits
pub record Below (w : Size) (v r : ℕ) : Type 0 where
  pub meant : signed w v ≡ sub_ℕ v r
  pub multiple : r ≡ r / bits w * bits w
  pub top : r ≤ 2 ^ 32

-- r is how many bytes the units take that n bits fill
pub record Units (w : Size) (n r : ℕ) : Type 0 where
  pub is : r ≡ bytes w * (n / bits w)
  pub below : r ≤ n
