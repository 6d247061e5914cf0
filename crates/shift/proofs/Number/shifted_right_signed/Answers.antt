-- `shift::Number::shifted_right_signed` meets its contract: both signs, by their laws. Assumes nothing.
use mathlib.Core.Path.{sym, ◌∙◌}
use Prim.Native.Nat.{◌-◌}
use native.Mathlib.Omega.{arith}
use lib.Pow.{shr_le}
use borrow.Author.Rules.{rules}
use Rattle.shift.proofs.Signs.{clear, set}
use Rattle.width.proofs.Widths.{numbers}
use Rattle.shift.proofs.Number.shifted_right_signed.Goals as goal

pub overflow_cast-ones : goal.overflow_cast-ones
overflow_cast-ones c =
    let nums = numbers c.args.self.size in omega arith

pub overflow_sub-result-then-negative : goal.overflow_sub-result-then-negative
overflow_sub-result-then-negative c =
    let a = c.args in omega (arith, shr_le (c.modulus.result - 1 - a.self.value) a.k)

pub returns-then-negative : goal.returns-then-negative
returns-then-negative c =
    rw c.modulus.ensures
    (set _ _ _ (sym c.negative.ensures ∙ c.if-negative.true) (search rules))

pub returns-else-negative : goal.returns-else-negative
returns-else-negative c =
    clear _ _ _ (sym c.negative.ensures ∙ c.if-negative.false)
