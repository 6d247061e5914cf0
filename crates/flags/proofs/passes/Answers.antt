-- `flags::passes` meets its contract. Assumes nothing.
use mathlib.Core.Path.{sym, ◌∙◌}
use Rattle.flags.specs.Word.{passes}
use Rattle.flags.proofs.passes.Goals as goal

pub returns-then-bit_at : goal.returns-then-bit_at
unfolding passes
returns-then-bit_at c = rw (rw c.from.ensures at (sym c.bit_at.ensures ∙ c.if-bit_at.true))

pub returns-else-bit_at : goal.returns-else-bit_at
unfolding passes
returns-else-bit_at c = rw (rw c.from.ensures at (sym c.bit_at.ensures ∙ c.if-bit_at.false)) c.if-bit_at.false
