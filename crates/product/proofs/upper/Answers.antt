-- `product::upper` meets its contract. Assumes nothing.
use Rattle.std.proofs.Common.{arith}
use Rattle.width.proofs.Widths.{numbers}
use Rattle.product.proofs.upper.Goals as goal

pub nonzero_div-n : goal.nonzero_div-n
nonzero_div-n c = let nums = numbers c.args.w in omega arith

pub returns : goal.returns
returns c = rw (← c.modulus.ensures) c.low.ensures
