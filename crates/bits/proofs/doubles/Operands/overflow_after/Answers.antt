-- `bits::doubles::Operands::overflow_after` meets its contract: for count 1 and for every other. Assumes nothing.
use borrow.Author.Tests.{eq-eqb, ne_eqb}
use Rattle.bits.specs.Doubles.{overflow_after}
use Rattle.bits.proofs.doubles.Operands.overflow_after.Goals as goal

pub returns-then-self-eq1 : goal.returns-then-self-eq1
unfolding overflow_after
returns-then-self-eq1 c =
    rw (eq-eqb _ _ c.if-self-eq1.true, ← c.negative-then-self-eq1.ensures, ← c.negative.ensures)

pub returns-else-self-eq1 : goal.returns-else-self-eq1
unfolding overflow_after
returns-else-self-eq1 c =
    rw (ne_eqb _ _ c.if-self-eq1.false, c.undefined.ensures)
