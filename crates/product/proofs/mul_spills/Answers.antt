-- `product::mul_spills` meets its contract: the high half decides. Assumes nothing.
use Rattle.product.specs.Multiply.{unsigned_spills}
use Rattle.product.proofs.mul_spills.Goals as goal

pub returns : goal.returns
unfolding unsigned_spills
returns c =
    rw (← c.mul.ensures.is)
