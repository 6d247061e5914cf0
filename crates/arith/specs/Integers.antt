-- Integers as differences of two naturals, for the contracts of private functions alone. Assumes nothing.
use Rattle.std.specs.Prelude.{◌≡◌, ℤ, ◌^◌, ◌<◌, ◌≤◌}
use Rattle.std.proofs.Math.IntN.{sub_ℕ}
use Rattle.arith.specs.declared.integers.Integer.{Integer}

-- the integer that stands as a difference
abbrev pub integer : Integer → ℤ
integer r = sub_ℕ r.plus r.minus

-- r is the integer z, as a difference of small numbers
pub record Means (z : ℤ) (r : Integer) : Type 0 where
  pub is : z ≡ integer r
  pub plus_bound : r.plus < 2 ^ 34
  pub minus_bound : r.minus ≤ 2 ^ 33
