-- `shift::Number::with_carry` meets its contract: CF set or clear. Assumes nothing.
use native.Mathlib.Omega.{arith}
use Rattle.shift.proofs.Turns.{doubled}
use Rattle.shift.specs.Values.{with_carry}
use Rattle.width.proofs.Widths.{numbers}
use Rattle.width.specs.Numbers.{bit}
use Rattle.shift.proofs.Number.with_carry.Goals as goal

pub overflow_add-result : goal.overflow_add-result
overflow_add-result c =
    let nums = numbers c.args.self.size in omega arith

pub returns-then-c : goal.returns-then-c
unfolding with_carry bit
returns-then-c c =
    let nums = numbers c.args.self.size
    in
    rw (c.if-c.true, c.modulus.ensures)
    (record { is = omega arith; below = omega (arith, doubled c.args.self.size) })

pub returns-else-c : goal.returns-else-c
unfolding with_carry bit
returns-else-c c =
    let nums = numbers c.args.self.size
    in
    rw c.if-c.false (record { is = omega arith; below = omega (arith, doubled c.args.self.size) })
