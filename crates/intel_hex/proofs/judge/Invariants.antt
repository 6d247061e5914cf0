-- `intel_hex::judge` meets its contract: the lines split off so far stand. Assumes nothing.
use Rattle.intel_hex.proofs.Passing.{Passing}
use Rattle.intel_hex.proofs.judge.Given as goal

abbrev pub invariant-loop-before : goal.invariant-loop-before
invariant-loop-before l = Passing l.text l.size l.file l.image.cells l.before-iterator.iter.rest.now l.before-iterator.count
