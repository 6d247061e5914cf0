-- `Size::outside` meets its contract: the law of a difference, on both sides of zero. Assumes nothing.
use borrow.Author.Tests.{lt-ltb, le-ltb}
use Rattle.width.proofs.Widths.{outside_of}
use Rattle.width.proofs.Size.outside.Goals as goal

pub returns-then-p-q : goal.returns-then-p-q
returns-then-p-q c = rw (outside_of, lt-ltb _ _ c.if-p-q.true, c.from-h.ensures, c.half.ensures)

pub returns-else-p-q : goal.returns-else-p-q
returns-else-p-q c = rw (outside_of, le-ltb _ _ c.if-p-q.false, c.from-h.ensures, c.half.ensures)
