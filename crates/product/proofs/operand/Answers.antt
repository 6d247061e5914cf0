-- `product::operand` meets its contract: a number of the size is below two halves. Assumes nothing.
use Rattle.std.proofs.Common.{arith}
use Rattle.width.proofs.Widths.{numbers}
use Rattle.width.specs.Numbers.{signed}
use Rattle.product.proofs.operand.Goals as goal

pub meaning-requires : goal.meaning-requires
meaning-requires c =
    let nums = numbers c.args.w in omega arith

pub returns : goal.returns
unfolding signed
returns c =
    rw (← c.taken.ensures.is, ← c.half.ensures, ← c.from.ensures) c.meaning.ensures
