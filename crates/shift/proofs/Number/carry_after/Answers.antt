-- `shift::Number::carry_after` meets its contract: an instruction an arm. Assumes nothing.
use Rattle.shift.specs.Changes.{carry_after}
use Rattle.shift.specs.Values.{shifted}
use Rattle.shift.proofs.Number.carry_after.Goals as goal

pub returns-in-Rol : goal.returns-in-Rol
unfolding carry_after
returns-in-Rol c =
    rw (c.bit_at.ensures, c.from.ensures, c.requires.r_value, c.in-Rol.is)

pub returns-in-Ror : goal.returns-in-Ror
unfolding carry_after
returns-in-Ror c =
    rw (c.negative.ensures, c.requires.r_value, c.in-Ror.is)

pub returns-in-Rcl : goal.returns-in-Rcl
unfolding carry_after
returns-in-Rcl c =
    rw (
      c.in-Rcl.is,
      c.bit_at-in-Rcl.ensures,
      c.through_left.ensures,
      c.bits.ensures,
    )

pub returns-in-Rcr : goal.returns-in-Rcr
unfolding carry_after
returns-in-Rcr c =
    rw (
      c.in-Rcr.is,
      c.bit_at-in-Rcr.ensures,
      c.through_right.ensures,
      c.bits-in-Rcr.ensures,
    )

pub returns-in-Shl : goal.returns-in-Shl
unfolding carry_after shifted
returns-in-Shl c =
    rw (
      c.in-Shl.is,
      c.unless_all_out.ensures,
      c.negative-in-Shl.ensures,
      c.shifted_left.ensures.is,
    )

pub returns-in-Shr : goal.returns-in-Shr
unfolding carry_after shifted
returns-in-Shr c =
    rw (
      c.in-Shr.is,
      c.unless_all_out-in-Shr.ensures,
      c.bit_at-in-Shr.ensures,
      c.from-in-Shr.ensures,
      c.shifted_right.ensures.is,
    )

pub returns-in-Sar : goal.returns-in-Sar
unfolding carry_after shifted
returns-in-Sar c =
    rw (c.in-Sar.is, c.bit_at-in-Sar.ensures, c.from-in-Sar.ensures, c.shifted_right_signed.ensures.is)
