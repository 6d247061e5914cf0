-- `product::dividend` meets its contract: twice the size has two halves of its own. Assumes nothing.
use Rattle.std.proofs.Common.{arith}
use Rattle.product.proofs.Squares.{squares, product_below}
use Rattle.width.proofs.Widths.{numbers}
use Rattle.product.proofs.dividend.Goals as goal

pub overflow_mul-from : goal.overflow_mul-from
overflow_mul-from c =
    let nums = numbers c.args.w
    in
    record { fits = product_below _ _ (omega arith) (omega arith) }

pub meaning-requires : goal.meaning-requires
meaning-requires c =
    let twice = squares c.args.w
    in
    rw (c.from.ensures, c.half.ensures, c.modulus.ensures) (omega arith)

pub returns : goal.returns
returns c =
    rw
    (← c.joined.ensures.is, ← c.modulus.ensures, ← c.half.ensures, ← c.from.ensures)
    c.meaning.ensures
