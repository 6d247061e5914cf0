-- `Size::rank` meets its contract: the two ranges of a signed meaning. Assumes nothing.
use Rattle.std.proofs.Common.{rules}
use Rattle.width.proofs.Widths.{ranked_low, ranked_high}
use Rattle.width.proofs.Size.rank.Goals as goal

pub returns-then-v-h : goal.returns-then-v-h
returns-then-v-h c = rw (c.from.ensures, c.from-then-v-h.ensures, c.half-h.ensures) (ranked_low _ _ (rw c.half-h.ensures at c.if-v-h.true))

pub returns-else-v-h : goal.returns-else-v-h
returns-else-v-h c =
    rw (c.from-else-v-h.ensures, c.half-h.ensures)
    (ranked_high _ _ (search rules) (rw c.half-h.ensures at c.if-v-h.false))
