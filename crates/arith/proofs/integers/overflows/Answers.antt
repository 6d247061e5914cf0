-- `overflows` meets its contract. Assumes nothing.
use Rattle.arith.specs.Sums.{overflows}
use Rattle.arith.proofs.integers.overflows.Goals as goal

pub returns : goal.returns
unfolding overflows
returns g c = rw (c.outside.ensures, c.of_signed.ensures.is)
