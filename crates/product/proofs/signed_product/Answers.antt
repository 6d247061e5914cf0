-- `product::signed_product` meets its contract: magnitudes are multiplied, and signs compared. Assumes nothing.
use Rattle.std.proofs.Common.{sym, arith}
use Rattle.product.proofs.Magnitudes.{times}
use Rattle.product.proofs.Squares.{product_below}
use Rattle.product.specs.Multiply.{signed_product}
use Rattle.width.proofs.Widths.{numbers}
use Rattle.product.proofs.signed_product.Goals as goal

pub overflow_mul-result : goal.overflow_mul-result
overflow_mul-result c =
    let nums = numbers c.args.w
    in
    record { fits = product_below _ _ (omega arith) (omega arith) }

pub returns : goal.returns
unfolding signed_product
returns c =
    let x = c.operand-x
    in
    let y = c.operand-y
    in
    rw (← x.ensures.is, ← y.ensures.is) (sym (times _ _ _ _))
