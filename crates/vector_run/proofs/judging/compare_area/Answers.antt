-- `vector_run::judging::compare_area` meets its contract: the area is that of the field, or not. Assumes nothing.
use Rattle.std.proofs.Common.{sym, ◌∙◌}
use Rattle.vector_run.proofs.Comparing.{area_same, area_other}
use Rattle.vector_run.proofs.judging.compare_area.Goals as goal

pub returns-then-holds : goal.returns-then-holds
returns-then-holds c = sym (area_same _ 31 _ c.field.ensures (sym c.holds.ensures ∙ c.if-holds.true))

pub returns-else-holds : goal.returns-else-holds
returns-else-holds c = sym (area_other _ 31 _ c.field.ensures (sym c.holds.ensures ∙ c.if-holds.false))
