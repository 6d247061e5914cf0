-- `shift::Number::rotated` meets its contract: a turn of the size's bits. Assumes nothing.
use native.Mathlib.Omega.{arith}
use borrow.Author.Rules.{rules}
use Rattle.shift.proofs.Turns.{few}
use Rattle.width.proofs.Widths.{numbers}
use Rattle.width.specs.Sizes.{modulus}
use Rattle.shift.proofs.Number.rotated.Goals as goal

pub turned_right-requires : goal.turned_right-requires
unfolding modulus
turned_right-requires c =
    let sizes = few c.args.self.size
    in
    rw (c.bits.ensures, c.from.ensures) (record { b_bound = omega arith; k_le_b = search rules; x_bound = c.args.self.below })

pub overflow_cast-result : goal.overflow_cast-result
unfolding modulus
overflow_cast-result c =
    let nums = numbers c.args.self.size
    in
    omega (arith, rw c.bits.ensures at c.turned_right.ensures.below)

pub returns : goal.returns
unfolding modulus
returns c =
    let t = rw (c.bits.ensures, c.from.ensures) at c.turned_right.ensures in record { is = t.is; below = t.below }
