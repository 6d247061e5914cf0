-- `vector_run::judging::compare_numbers` meets its contract: the numbers still to come decide. Assumes nothing.
use Rattle.vector_run.proofs.Comparing.{Comparing}
use Rattle.vector_run.proofs.judging.compare_numbers.Given as goal

abbrev pub invariant-loop-i : goal.invariant-loop-i
invariant-loop-i l = Comparing l.line l.told l.first l.i
