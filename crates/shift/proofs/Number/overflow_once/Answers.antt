-- `shift::Number::overflow_once` meets its contract: an instruction an arm. Assumes nothing.
use native.Mathlib.Omega.{arith}
use Rattle.shift.proofs.Turns.{few}
use Rattle.shift.specs.Changes.{overflow_once}
use Rattle.shift.proofs.Number.overflow_once.Goals as goal

pub overflow_sub-bits : goal.overflow_sub-bits
overflow_sub-bits c =
    let sizes = few c.args.self.size in omega arith

pub returns-in-Rol : goal.returns-in-Rol
unfolding overflow_once
returns-in-Rol c =
    rw (c.in-Rol.is, c.negative-top.ensures)

pub returns-in-Ror : goal.returns-in-Ror
unfolding overflow_once
returns-in-Ror c =
    simp (
      c.in-Ror.is,
      c.bit_at-second.ensures,
      c.from.ensures,
      c.bits.ensures,
      c.negative-top.ensures,
    )

pub returns-in-Rcl : goal.returns-in-Rcl
unfolding overflow_once
returns-in-Rcl c =
    rw (c.in-Rcl.is, c.negative-top.ensures)

pub returns-in-Rcr : goal.returns-in-Rcr
unfolding overflow_once
returns-in-Rcr c =
    simp (
      c.in-Rcr.is,
      c.bit_at-second.ensures,
      c.from.ensures,
      c.bits.ensures,
      c.negative-top.ensures,
    )

pub returns-in-Shl : goal.returns-in-Shl
unfolding overflow_once
returns-in-Shl c =
    rw (c.in-Shl.is, c.negative-top.ensures)

pub returns-in-Shr : goal.returns-in-Shr
unfolding overflow_once
returns-in-Shr c =
    rw c.in-Shr.is c.negative.ensures

pub returns-in-Sar : goal.returns-in-Sar
unfolding overflow_once
returns-in-Sar c =
    rw c.in-Sar.is
