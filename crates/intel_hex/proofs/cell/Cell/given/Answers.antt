-- `intel_hex::cell::Cell::given` meets its contract. Assumes nothing.
use native.Mathlib.Omega.{arith}
use Rattle.intel_hex.proofs.Cells.{given_cell, given_word}
use Rattle.intel_hex.proofs.cell.Cell.given.Goals as goal

pub invariant_of-result : goal.invariant_of-result
invariant_of-result c = given_word c.from.result (omega arith)

pub returns : goal.returns
returns c = rw c.from.ensures (given_cell c.args.byte (omega arith))
