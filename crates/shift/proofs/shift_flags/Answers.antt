-- `shift::shift_flags` meets its contract: count 0 changes nothing. Assumes nothing.
use borrow.Author.Tests.{eq-eqb, ne_eqb}
use Rattle.shift.specs.Changes.{shift_flags}
use Rattle.shift.specs.Values.{masked}
use Rattle.shift.proofs.shift_flags.Goals as goal

pub returns-then-k-eq0 : goal.returns-then-k-eq0
unfolding shift_flags masked
returns-then-k-eq0 c =
    rw (eq-eqb _ _ c.if-k-eq0.true)

pub returns-else-k-eq0 : goal.returns-else-k-eq0
unfolding shift_flags masked
returns-else-k-eq0 c =
    rw (ne_eqb _ _ c.if-k-eq0.false) (rw (c.new.ensures.same_size, c.new.ensures.lowest) at c.flags_after.ensures)
