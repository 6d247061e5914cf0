-- `Subtract::of_numbers` meets its contract: a difference of naturals. Assumes nothing.
use native.Mathlib.Omega.{arith}
use Rattle.width.proofs.Truths.{truth}
use Rattle.arith.proofs.Sums.{difference_natural}
use Rattle.arith.proofs.integers.SubtractSum.of_numbers.Goals as goal

pub returns : goal.returns
returns c =
    let t = truth c.args.c in
    rw (c.from.ensures, c.from-2.ensures, c.from-3.ensures, t.is)
    (record { is = difference_natural _ _ _; plus_bound = omega arith; minus_bound = omega arith })
