-- `vector_run::judging::compare_numbers` meets its contract: the numbers still to come decide. Assumes nothing.
use Rattle.std.proofs.Common.{sym, ◌∙◌, arith}
use Rattle.vector_run.proofs.Comparing.{compare_begins, compare_goes, compare_stops, compare_ends}
use Rattle.vector_run.proofs.judging.compare_numbers.Goals as goal

pub loop-i-init : goal.loop-i-init
loop-i-init c = compare_begins _ _ _

pub returns-then-from-number_64 : goal.returns-then-from-number_64
returns-then-from-number_64 c =
    sym (compare_stops c.loop-i.invariant (omega arith) (λ e. c.if-from-number_64.true (c.from.ensures ∙ e ∙ sym c.number_64.ensures)))

pub loop-i-preserved : goal.loop-i-preserved
loop-i-preserved c = compare_goes c.loop-i.invariant (omega arith) (sym c.from.ensures ∙ c.if-from-number_64.false ∙ c.number_64.ensures)

pub returns : goal.returns
returns c = sym (compare_ends c.loop-i.invariant (omega arith))
