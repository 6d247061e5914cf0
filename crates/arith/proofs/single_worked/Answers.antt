-- `arith::single_worked` meets its contract: an operation an arm. Assumes nothing.
use mathlib.Core.Path.{refl, ◌∙◌}
use native.Mathlib.Omega.{arith}
use Rattle.width.proofs.Widths.{numbers, filled}
use Rattle.arith.specs.Single.{single_value, single_flags}
use Rattle.arith.specs.Binary.{difference_flags}
use Rattle.arith.proofs.single_worked.Goals as goal

pub overflow_sub-value : goal.overflow_sub-value
overflow_sub-value c =
    let w = c.args.w
    in
    omega (arith, c.low.ensures.is ∙ filled w, numbers w)

pub returns-in-Inc : goal.returns-in-Inc
unfolding single_value single_flags
returns-in-Inc c = rw c.in-Inc.is (rw c.unpack.ensures at c.worked.ensures)

pub returns-in-Dec : goal.returns-in-Dec
unfolding single_value single_flags
returns-in-Dec c = rw c.in-Dec.is (rw c.unpack-in-Dec.ensures at c.worked-in-Dec.ensures)

pub returns-in-Not : goal.returns-in-Not
unfolding single_value single_flags
returns-in-Not c =
    let w = c.args.w
    in
    rw (c.in-Not.is, c.low-in-Not.ensures.is, c.from.ensures, c.low.ensures.is, filled w)
    (record { is = refl; means = refl })

pub returns-in-Neg : goal.returns-in-Neg
unfolding single_value single_flags difference_flags
returns-in-Neg c = rw c.in-Neg.is c.carried.ensures
