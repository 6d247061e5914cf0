-- `blockcheck::landing::arrives` meets its contract: no displacement, or by its target. Assumes nothing.
use mathlib.Core.Path.{sym, ◌∙◌}
use Rattle.blockcheck.proofs.Seeking.{arrives_as}
use Rattle.blockcheck.specs.Blocks.{no_displacement}
use Rattle.blockcheck.specs.Passes.{holds}
use Rattle.blockcheck.proofs.landing.arrives.Goals as goal

pub returns-in-None : goal.returns-in-None
returns-in-None c starts shows = rw (sym c.relative_of.ensures ∙ c.in-None.is) (holds no_displacement)

pub returns-in-Some : goal.returns-in-Some
returns-in-Some c starts shows =
    rw (sym c.relative_of.ensures ∙ c.in-Some.is)
    (arrives_as (rw c.leads_to.ensures at (c.lands.ensures starts shows)))
