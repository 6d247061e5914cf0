-- `shift::Number::through_left` meets its contract: left is right by the rest of the bits. Assumes nothing.
use native.Mathlib.Omega.{arith}
use Rattle.shift.proofs.Turns.{few}
use Rattle.shift.specs.Values.{turned_left, through_left}
use Rattle.shift.proofs.Number.through_left.Goals as goal

pub overflow_add-bits : goal.overflow_add-bits
overflow_add-bits c =
    let sizes = few c.args.self.size in omega arith

pub returns : goal.returns
unfolding turned_left through_left
returns c =
    rw (c.through.ensures, c.of_bits_and_carry.ensures.is, c.bits.ensures)
