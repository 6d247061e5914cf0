-- `shift::Number::through_right` meets its contract: the count modulo the bits and CF. Assumes nothing.
use Rattle.shift.specs.Values.{through_right}
use Rattle.shift.proofs.Number.through_right.Goals as goal

pub returns : goal.returns
unfolding through_right
returns c =
    rw (c.through.ensures, c.of_bits_and_carry.ensures.is)
