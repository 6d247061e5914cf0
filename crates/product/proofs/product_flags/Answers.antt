-- `product::product_flags` meets its contract. Assumes nothing.
use Rattle.flags.specs.Results.{all_undefined}
use Rattle.product.specs.Multiply.{product_flags}
use Rattle.product.proofs.product_flags.Goals as goal

pub returns : goal.returns
unfolding product_flags all_undefined
returns c = rw c.all_undefined.ensures
