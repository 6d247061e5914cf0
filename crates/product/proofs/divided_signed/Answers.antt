-- `product::divided_signed` meets its contract: each answer by the tests that led to it. Assumes nothing.
use Rattle.std.proofs.Common.{eq-eqb, ne_eqb}
use Rattle.product.proofs.Magnitudes.{size}
use Rattle.product.specs.Divide.{divided_signed, divided}
use Rattle.product.proofs.divided_signed.Goals as goal

pub returns-then-d-eq0 : goal.returns-then-d-eq0
unfolding divided_signed divided
returns-then-d-eq0 c =
    record { is = rw (size _ _, eq-eqb _ _ c.if-d-eq0.true); below = tt }

pub returns-then-outside : goal.returns-then-outside
unfolding divided_signed divided
returns-then-outside c =
    let divisor = c
    in
    record {
      is =
          rw (
            size _ _,
            ne_eqb _ _ divisor.if-d-eq0.false,
            ← c.quotient-q.ensures,
            ← c.outside.ensures,
            c.if-outside.true,
          );
      below = tt;
    }

pub returns : goal.returns
unfolding divided_signed divided
returns c =
    let test = c
    in
    record {
      is =
          rw (
            size _ _,
            ne_eqb _ _ test.if-d-eq0.false,
            ← test.quotient-q.ensures,
            ← test.outside.ensures,
            test.if-outside.false,
            ← c.remainder.ensures,
            ← c.rest.ensures.is,
            ← c.rest-2.ensures.is,
          );
      below = (c.rest.ensures.below, c.rest-2.ensures.below);
    }
