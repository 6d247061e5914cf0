-- `bits::doubles::double_flags` meets its contract: count 0 changes none, over the width all are undefined. Assumes nothing.
use borrow.Author.Tests.{eq-eqb, ne_eqb, le-leb, lt-leb}
use Rattle.shift.specs.Values.{masked}
use Rattle.bits.specs.Doubles.{double_flags}
use Rattle.bits.proofs.doubles.double_flags.Goals as goal

pub returns-then-k-eq0 : goal.returns-then-k-eq0
unfolding double_flags masked
returns-then-k-eq0 c =
    rw (eq-eqb _ _ c.if-k-eq0.true)

pub returns-then-k-bits : goal.returns-then-k-bits
unfolding double_flags masked
returns-then-k-bits c =
    rw (
      ne_eqb _ _ c.if-k-eq0.false,
      ← c.bits.ensures,
      le-leb _ _ c.if-k-bits.true,
      ← (rw c.from-then-k-bits.ensures at c.low-then-k-bits.ensures.is),
      ← (rw c.from.ensures at c.low.ensures.is),
      c.flags_after.ensures,
    )

pub returns-else-k-bits : goal.returns-else-k-bits
unfolding double_flags masked
returns-else-k-bits c =
    rw (
      ne_eqb _ _ c.if-k-eq0.false,
      ← c.bits.ensures,
      lt-leb _ _ c.if-k-bits.false,
      c.all_undefined.ensures,
    )
