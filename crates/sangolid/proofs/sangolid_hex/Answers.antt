-- `sangolid::sangolid_hex` meets its contract: an answer area of another length is refused, any other file is read. Assumes nothing.
use mathlib.Core.Path.{refl}
use Rattle.sangolid.proofs.States.{unhexes_read}
use Rattle.sangolid.specs.Interface.{misfit, unfit_answer}
use Rattle.sangolid.proofs.sangolid_hex.Goals as goal

pub returns-then-answer-ne1 : goal.returns-then-answer-ne1
unfolding misfit
returns-then-answer-ne1 c = unfit_answer c.if-answer-ne1.true

pub returns-in-Ok : goal.returns-in-Ok
returns-in-Ok c = unhexes_read c.if-answer-ne1.false (rw c.in-Ok.is at c.read.ensures) refl refl c.word_of.ensures

pub returns-in-Err : goal.returns-in-Err
returns-in-Err c = unhexes_read c.if-answer-ne1.false (rw c.in-Err.is at c.read.ensures) c.number.ensures refl c.word_of-in-Err.ensures
