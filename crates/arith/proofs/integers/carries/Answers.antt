-- `carries` meets its contract. Assumes nothing.
use Rattle.arith.specs.Sums.{carries}
use Rattle.arith.proofs.integers.carries.Goals as goal

pub returns : goal.returns
unfolding carries
returns g c = rw (c.beyond.ensures, c.modulus.ensures, c.of_numbers.ensures.is)
