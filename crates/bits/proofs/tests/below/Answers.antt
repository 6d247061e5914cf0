-- `bits::tests::below` meets its contract: the two ranges of a signed meaning. Assumes nothing.
use mathlib.Core.Path.{sym, ◌∙◌}
use Rattle.bits.proofs.Units.{below_clear, below_set}
use Rattle.bits.proofs.tests.below.Goals as goal

pub returns-then-negative : goal.returns-then-negative
returns-then-negative c =
    rw c.modulus.ensures (below_set _ _ (sym c.negative.ensures ∙ c.if-negative.true))

pub returns-else-negative : goal.returns-else-negative
returns-else-negative c =
    below_clear _ _ (sym c.negative.ensures ∙ c.if-negative.false)
