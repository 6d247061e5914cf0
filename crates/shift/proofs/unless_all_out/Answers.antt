-- `shift::unless_all_out` meets its contract: by the test against the bits. Assumes nothing.
use borrow.Author.Tests.{lt-ltb, le-ltb}
use Rattle.shift.specs.Changes.{unless_all_out}
use Rattle.shift.proofs.unless_all_out.Goals as goal

pub returns-then-k-bits : goal.returns-then-k-bits
unfolding unless_all_out
returns-then-k-bits c =
    rw (← c.bits.ensures, lt-ltb _ _ c.if-k-bits.true)

pub returns-else-k-bits : goal.returns-else-k-bits
unfolding unless_all_out
returns-else-k-bits c =
    rw (← c.bits.ensures, le-ltb _ _ c.if-k-bits.false, c.undefined.ensures)
