-- `value` meets its contract. Assumes nothing.
use mathlib.Core.Path.{◌∙◌}
use Rattle.arith.specs.Sums.{value_of}
use Rattle.arith.proofs.integers.value.Goals as goal

pub returns : goal.returns
unfolding value_of
returns g c = record { is = c.low.ensures.is ∙ rw c.of_numbers.ensures.is; below = c.low.ensures.below }
