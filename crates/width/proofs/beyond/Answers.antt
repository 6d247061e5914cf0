-- `width::beyond` meets its contract: below zero, or m at least. Assumes nothing.
use borrow.Author.Tests.{lt-ltb, le-ltb}
use Rattle.width.proofs.Differences.{beyond_of}
use Rattle.width.proofs.beyond.Goals as goal

pub returns-then-p-q : goal.returns-then-p-q
returns-then-p-q c = rw (beyond_of, lt-ltb _ _ c.if-p-q.true)

pub returns-else-p-q : goal.returns-else-p-q
returns-else-p-q c = rw (beyond_of, le-ltb _ _ c.if-p-q.false)
