-- `shift::shift_value` meets its contract: the operand and the count are taken at their sizes first. Assumes nothing.
use Rattle.shift.specs.Values.{masked, shift_value}
use Rattle.shift.proofs.shift_value.Goals as goal

pub returns : goal.returns
unfolding shift_value masked
returns c =
    rw (c.new.ensures.same_size, c.new.ensures.lowest) at c.shifted.ensures
