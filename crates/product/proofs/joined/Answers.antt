-- `product::joined` meets its contract: two digits of the size are one number of twice the size. Assumes nothing.
use Rattle.std.proofs.Common.{arith}
use lib.Arith.{digits_lt}
use Rattle.product.proofs.Squares.{squares, product_below}
use Rattle.product.specs.Divide.{joined}
use Rattle.width.proofs.Widths.{numbers}
use Rattle.product.proofs.joined.Goals as goal

pub overflow_mul-result : goal.overflow_mul-result
overflow_mul-result c =
    let nums = numbers c.args.w
    in
    record { fits = product_below _ _ (omega arith) (omega arith) }

pub overflow_add-result : goal.overflow_add-result
overflow_add-result c =
    let twice = squares c.args.w
    in
    rw c.modulus.ensures
    (record { fits = omega (arith, digits_lt c.taken.ensures.below c.taken-2.ensures.below) })

pub returns : goal.returns
unfolding joined
returns c =
    rw c.modulus.ensures
    (record {
      is = rw (← c.taken-2.ensures.is, ← c.taken.ensures.is);
      below = digits_lt c.taken.ensures.below c.taken-2.ensures.below;
    })
