-- `blockcheck::landing::leads_to` meets its contract, by computing. Assumes nothing.
use mathlib.Core.Path.{refl}
use Rattle.blockcheck.specs.Blocks.{target_of, code_base}
use Rattle.blockcheck.proofs.landing.leads_to.Goals as goal

pub returns : goal.returns
unfolding target_of code_base
returns c = rw c.from.ensures refl
