-- `bits::tests::unit_address` meets its contract: whole units on, and whole units back. Assumes nothing.
use Rattle.bits.proofs.Units.{unit_of}
use Rattle.bits.proofs.tests.unit_address.Goals as goal

pub returns : goal.returns
returns c =
    let a = c.args in
    rw (c.low.ensures.is, c.from-2.ensures)
    (unit_of a.w a.a a.offset _ _ _ c.below.ensures (rw c.from.ensures at c.units-on.ensures) c.units-back.ensures)
