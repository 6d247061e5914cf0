-- `product::imul_spills` meets its contract: the whole product decides. Assumes nothing.
use Rattle.product.specs.Multiply.{signed_spills}
use Rattle.product.proofs.imul_spills.Goals as goal

pub returns : goal.returns
unfolding signed_spills
returns c =
    rw (← c.signed_product.ensures) c.outside.ensures
