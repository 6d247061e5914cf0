-- `adjusts` meets its contract. Assumes nothing.
use Rattle.arith.specs.Sums.{adjusts}
use Rattle.arith.proofs.integers.adjusts.Goals as goal

pub returns : goal.returns
unfolding adjusts
returns g c = rw (c.beyond.ensures, c.of_numbers.ensures.is)
