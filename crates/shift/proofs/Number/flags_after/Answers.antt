-- `shift::Number::flags_after` meets its contract: by what each part gives, for count 1 and for every other. Assumes nothing.
use borrow.Author.Tests.{eq-eqb, ne_eqb}
use Rattle.shift.specs.Changes.{overflow_after, flags_after}
use Rattle.shift.proofs.Number.flags_after.Goals as goal

pub returns-then-k-eq1 : goal.returns-then-k-eq1
unfolding flags_after overflow_after
returns-then-k-eq1 c =
    rw (
      c.changed.ensures,
      c.overflow_once.ensures,
      eq-eqb _ _ c.if-k-eq1.true,
      c.carry_after-c.ensures,
      c.shifted-r.ensures.is,
    )

pub returns-else-k-eq1 : goal.returns-else-k-eq1
unfolding flags_after overflow_after
returns-else-k-eq1 c =
    rw (
      c.changed-else-k-eq1.ensures,
      c.undefined.ensures,
      ne_eqb _ _ c.if-k-eq1.false,
      c.carry_after-c.ensures,
      c.shifted-r.ensures.is,
    )
