-- `intel_hex::line::pairs` meets its contract: those counted and those still to come are all. Assumes nothing.
use mathlib.Core.Path.{◌≡◌}
use Prim.Native.Nat.{◌+◌, ◌≤◌}
use lib.ListN.{length}
use Rattle.intel_hex.specs.Reading.{pairs_in}
use Rattle.intel_hex.proofs.line.pairs.Given as goal

abbrev pub invariant-loop-left : goal.invariant-loop-left
invariant-loop-left l = (l.n + length l.left ≤ length l.text) × (l.n + pairs_in l.left ≡ pairs_in l.text)

abbrev pub decreases-loop-left : goal.decreases-loop-left
decreases-loop-left l = length l.left
