-- `product::imul` meets its contract: the product's rest modulo 2 ^ 64 has the same halves. Assumes nothing.
use Rattle.std.proofs.Common.{◌∙◌}
use Rattle.product.proofs.Squares.{same_halves}
use Rattle.product.proofs.imul.Goals as goal

pub returns : goal.returns
returns c =
    record {
      is =
          c.halves.ensures.is
          ∙ rw (c.complement.ensures, c.signed_product.ensures) (same_halves _ _);
      low_below = c.halves.ensures.low_below;
      high_below = c.halves.ensures.high_below;
    }
