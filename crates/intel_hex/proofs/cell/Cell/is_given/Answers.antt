-- `intel_hex::cell::Cell::is_given` meets its contract. Assumes nothing.
use Rattle.intel_hex.proofs.Cells.{some_cell}
use Rattle.intel_hex.proofs.cell.Cell.is_given.Goals as goal

pub returns : goal.returns
returns c = rw (← c.self.view_is) (some_cell _)
