-- `Size::sign_filled` meets its contract: all ones, or zero. Assumes nothing.
use Rattle.std.proofs.Common.{◌∙◌, arith}
use Rattle.width.specs.Numbers.{sign_filled}
use Rattle.width.proofs.Widths.{numbers, filled}
use Rattle.width.proofs.Size.sign_filled.Goals as goal

pub returns-then-negative : goal.returns-then-negative
unfolding sign_filled
returns-then-negative c =
    rw (← c.negative.ensures, c.if-negative.true)
    (record { is = c.low.ensures.is ∙ filled _; below = c.low.ensures.below })

pub returns-else-negative : goal.returns-else-negative
unfolding sign_filled
returns-else-negative c = let nums = numbers c.args.self in rw (← c.negative.ensures, c.if-negative.false) (omega arith)
