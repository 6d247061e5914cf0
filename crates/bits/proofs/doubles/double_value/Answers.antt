-- `bits::doubles::double_value` meets its contract: up to the width it is moved. Assumes nothing.
use borrow.Author.Tests.{le-leb, lt-leb}
use Rattle.shift.specs.Values.{masked}
use Rattle.bits.specs.Doubles.{double_value}
use Rattle.bits.proofs.doubles.double_value.Goals as goal

pub returns-then-k-bits : goal.returns-then-k-bits
unfolding double_value masked
returns-then-k-bits c =
    rw (
      ← c.bits.ensures,
      le-leb _ _ c.if-k-bits.true,
      ← (rw c.from-then-k-bits.ensures at c.low.ensures.is),
      ← (rw c.from.ensures at c.low-own.ensures.is),
    )
    c.double_moved.ensures

pub returns-else-k-bits : goal.returns-else-k-bits
unfolding double_value masked
returns-else-k-bits c =
    rw (← c.bits.ensures, lt-leb _ _ c.if-k-bits.false) (rw c.from.ensures at c.low-own.ensures)
