-- `blockcheck::dividing::mark_of` meets its contract: by whether there is a displacement. Assumes nothing.
use mathlib.Core.Path.{sym, ◌∙◌}
use Rattle.blockcheck.specs.Passes.{mark_of}
use Rattle.blockcheck.proofs.dividing.mark_of.Goals as goal

pub returns-in-None : goal.returns-in-None
unfolding mark_of
returns-in-None c = rw (sym c.relative_of.ensures ∙ c.in-None.is)

pub returns-in-Some : goal.returns-in-Some
unfolding mark_of
returns-in-Some c = rw (sym c.relative_of.ensures ∙ c.in-Some.is)
