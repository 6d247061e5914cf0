-- What the parts of a shift give, each with its bound, for the contracts of private functions alone. Assumes nothing.
use Rattle.std.specs.Prelude.{◌≡◌, Bool, ℕ, ◌+◌, ◌^◌, ◌<◌}
use Rattle.width.specs.declared.Size.{Size}
use Rattle.width.specs.Sizes.{bits}
use Rattle.shift.specs.Values.{turned_right, with_carry}

-- r is x turned right by k, a number of b bits
pub record Turned (b k x r : ℕ) : Type 0 where
  pub is : r ≡ turned_right b k x
  pub below : r < 2 ^ b

-- r is v with CF above its top bit
pub record Carried (w : Size) (c : Bool) (v r : ℕ) : Type 0 where
  pub is : r ≡ with_carry w c v
  pub below : r < 2 ^ (bits w + 1)
