-- `shift::Number::shifted` meets its contract: an instruction an arm. Assumes nothing.
use Rattle.shift.specs.Values.{turned_left, shifted}
use Rattle.width.specs.Numbers.{residue, rest}
use Rattle.shift.proofs.Number.shifted.Goals as goal

pub returns-in-Rol : goal.returns-in-Rol
unfolding shifted turned_left
returns-in-Rol c =
    rw c.in-Rol.is
    (rw (c.of_bits.ensures.is, c.bits.ensures) at c.rotated.ensures)

pub returns-in-Ror : goal.returns-in-Ror
unfolding shifted
returns-in-Ror c =
    rw (c.in-Ror.is, ← c.of_bits-in-Ror.ensures.is) c.rotated-in-Ror.ensures

pub returns-in-Rcl : goal.returns-in-Rcl
unfolding shifted rest residue
returns-in-Rcl c =
    rw (c.in-Rcl.is, ← c.through_left.ensures) c.low.ensures

pub returns-in-Rcr : goal.returns-in-Rcr
unfolding shifted rest residue
returns-in-Rcr c =
    rw (c.in-Rcr.is, ← c.through_right.ensures) c.low-in-Rcr.ensures

pub returns-in-Shl : goal.returns-in-Shl
unfolding shifted
returns-in-Shl c =
    rw c.in-Shl.is c.shifted_left.ensures

pub returns-in-Shr : goal.returns-in-Shr
unfolding shifted
returns-in-Shr c =
    rw c.in-Shr.is c.shifted_right.ensures

pub returns-in-Sar : goal.returns-in-Sar
unfolding shifted
returns-in-Sar c =
    rw c.in-Sar.is c.shifted_right_signed.ensures
