-- `sangolid::sangolid_check` meets its contract: an answer area of another length is refused, any other block is judged. Assumes nothing.
use mathlib.Core.Path.{refl}
use Rattle.sangolid.proofs.Bounds.{value_fits}
use Rattle.sangolid.proofs.States.{checks_judged}
use Rattle.sangolid.specs.Interface.{misfit, unfit}
use Rattle.sangolid.proofs.sangolid_check.Goals as goal

pub returns-then-answer-ne1 : goal.returns-then-answer-ne1
unfolding misfit
returns-then-answer-ne1 c = unfit c.if-answer-ne1.true

pub overflow_cast-answer : goal.overflow_cast-answer
overflow_cast-answer c = record { fits = rw c.in-Ok.is at (value_fits c.check.ensures) }

pub overflow_cast-answer-in-Err : goal.overflow_cast-answer-in-Err
overflow_cast-answer-in-Err c = record { fits = rw c.offset.ensures (rw c.in-Err.is at (value_fits c.check.ensures)) }

pub returns-in-Ok : goal.returns-in-Ok
returns-in-Ok c = checks_judged c.if-answer-ne1.false (rw c.in-Ok.is at c.check.ensures) refl refl

pub returns-in-Err : goal.returns-in-Err
returns-in-Err c = checks_judged c.if-answer-ne1.false (rw c.in-Err.is at c.check.ensures) c.number.ensures c.offset.ensures
