-- `grammar::parts::escapes_after` meets its contract, case by case.
-- Assumes nothing.
use Rattle.grammar.specs.Decoding.{escapes}
use Rattle.grammar.proofs.parts.escapes_after.Goals as goal

pub returns-in-Absent : goal.returns-in-Absent
unfolding escapes
returns-in-Absent c = rw c.in-Absent.is

pub returns-in-F2 : goal.returns-in-F2
unfolding escapes
returns-in-F2 c = rw c.in-F2.is

pub returns-in-F3 : goal.returns-in-F3
unfolding escapes
returns-in-F3 c = rw c.in-F3.is
