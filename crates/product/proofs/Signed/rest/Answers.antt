-- `Signed::rest` meets its contract: 2 ^ 64 is a multiple of the modulus. Assumes nothing.
use Rattle.std.proofs.Common.{◌∙◌}
use Rattle.product.proofs.Squares.{low_half}
use Rattle.product.proofs.Signed.rest.Goals as goal

pub returns : goal.returns
returns c =
    record {
      is = c.low.ensures.is ∙ rw c.complement.ensures (low_half _ _);
      below = c.low.ensures.below;
    }
