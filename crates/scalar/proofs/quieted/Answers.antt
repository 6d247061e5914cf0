-- `scalar::quieted` meets its contract by definition. Assumes nothing.
use mathlib.Core.Path.{refl}
use Rattle.scalar.specs.Singles.{quieted}
use Rattle.scalar.proofs.quieted.Goals as goal

pub returns : goal.returns
unfolding quieted
returns c = refl
