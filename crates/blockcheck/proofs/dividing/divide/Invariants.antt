-- What holds in the loops of `blockcheck::dividing::divide`.
use Prim.Native.Nat.{◌-◌}
use lib.ListN.{length}
use Rattle.blockcheck.proofs.Extents.{Dividing}
use Rattle.blockcheck.proofs.dividing.divide.Given as goal

abbrev pub invariant-loop-at : goal.invariant-loop-at
invariant-loop-at l = Dividing l.code l.marks l.at l.count

abbrev pub decreases-loop-at : goal.decreases-loop-at
decreases-loop-at l = length l.code - l.at
