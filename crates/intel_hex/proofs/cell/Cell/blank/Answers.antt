-- `intel_hex::cell::Cell::blank` meets its contract. Assumes nothing.
use mathlib.Core.Path.{refl}
use Rattle.intel_hex.specs.Cells.{word_of, cell_of}
use Rattle.intel_hex.proofs.cell.Cell.blank.Goals as goal

pub invariant_of-result : goal.invariant_of-result
unfolding word_of cell_of
invariant_of-result c = refl

pub returns : goal.returns
unfolding cell_of
returns c = refl
