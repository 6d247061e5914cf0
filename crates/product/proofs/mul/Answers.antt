-- `product::mul` meets its contract: the product of two numbers of 32 bits has 64. Assumes nothing.
use Rattle.std.proofs.Common.{arith}
use Rattle.product.proofs.Squares.{product_below}
use Rattle.product.specs.Multiply.{unsigned_product}
use Rattle.width.proofs.Widths.{numbers}
use Rattle.product.proofs.mul.Goals as goal

pub overflow_mul-taken : goal.overflow_mul-taken
overflow_mul-taken c =
    let nums = numbers c.args.w
    in
    record { fits = product_below _ _ (omega arith) (omega arith) }

pub returns : goal.returns
unfolding unsigned_product
returns c =
    rw (← c.taken-2.ensures.is, ← c.taken.ensures.is) c.halves.ensures
