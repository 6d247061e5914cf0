-- `shift::Number::through` meets its contract: a turn of the size's bits and CF. Assumes nothing.
use native.Mathlib.Omega.{arith}
use borrow.Author.Rules.{rules}
use Rattle.shift.proofs.Turns.{few}
use Rattle.shift.proofs.Number.through.Goals as goal

pub overflow_add-bits : goal.overflow_add-bits
overflow_add-bits c =
    let sizes = few c.args.self.size in omega arith

pub turned_right-requires : goal.turned_right-requires
turned_right-requires c =
    let sizes = few c.args.self.size
    in
    rw c.bits.ensures (record { b_bound = omega arith; k_le_b = search rules; x_bound = c.with_carry.ensures.below })

pub returns : goal.returns
returns c =
    rw (c.turned_right.ensures.is, c.with_carry.ensures.is, c.bits.ensures)
