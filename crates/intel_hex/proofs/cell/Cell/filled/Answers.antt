-- `intel_hex::cell::Cell::filled` meets its contract. Assumes nothing.
use mathlib.Core.Path.{sym, ◌∙◌}
use Rattle.intel_hex.proofs.Cells.{filled_some, filled_none}
use Rattle.intel_hex.proofs.cell.Cell.filled.Goals as goal

pub returns-then-is_given : goal.returns-then-is_given
returns-then-is_given c = filled_some _ _ c.self.view_is (sym c.is_given.ensures ∙ c.if-is_given.true)

pub returns-else-is_given : goal.returns-else-is_given
returns-else-is_given c = filled_none _ (sym c.is_given.ensures ∙ c.if-is_given.false)
