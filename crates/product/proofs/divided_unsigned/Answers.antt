-- `product::divided_unsigned` meets its contract: each answer by the tests that led to it. Assumes nothing.
use Rattle.std.proofs.Common.{eq-eqb, ne_eqb, le-leb}
use borrow.Author.Tests.{lt-leb}
use Rattle.product.specs.Divide.{divided_unsigned, divided}
use Rattle.product.proofs.divided_unsigned.Goals.{then-d-eq0-via-then-d-eq0, then-d-eq0-via-else-d-eq0+then-modulus-n}
use Rattle.product.proofs.divided_unsigned.Goals as goal

pub returns-then-d-eq0 : goal.returns-then-d-eq0
unfolding divided_unsigned divided
returns-then-d-eq0 c =
    elim c.then-d-eq0.branch [
      | then-d-eq0-via-then-d-eq0 w ↦ record { is = rw (eq-eqb _ _ w.if-d-eq0.true); below = tt }
      | then-d-eq0-via-else-d-eq0+then-modulus-n w ↦
          record {
            is = rw (ne_eqb _ _ w.if-d-eq0.false, ← w.modulus.ensures, le-leb _ _ w.if-modulus-n.true);
            below = tt;
          }
    ]

pub returns : goal.returns
unfolding divided_unsigned divided
returns c =
    let test = c
    in
    record {
      is =
          rw (
            ne_eqb _ _ test.if-d-eq0.false,
            ← test.modulus.ensures,
            lt-leb _ _ c.if-modulus-n.false,
            ← c.low.ensures.is,
            ← c.low-2.ensures.is,
          );
      below = (c.low.ensures.below, c.low-2.ensures.below);
    }
