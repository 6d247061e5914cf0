-- What holds in the loops of `blockcheck::landing::first_astray`.
use Rattle.blockcheck.proofs.Seeking.{Seeking}
use Rattle.blockcheck.proofs.landing.first_astray.Given as goal

abbrev pub invariant-loop-at : goal.invariant-loop-at
invariant-loop-at l = Seeking l.code l.marks l.at
