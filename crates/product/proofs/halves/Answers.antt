-- `product::halves` meets its contract: the low half and what stands above it. Assumes nothing.
use Rattle.product.specs.Multiply.{halves}
use Rattle.product.proofs.halves.Goals as goal

pub returns : goal.returns
unfolding halves
returns c =
    record {
      is = rw (c.upper.ensures.is, c.low.ensures.is);
      low_below = c.low.ensures.below;
      high_below = c.upper.ensures.below;
    }
