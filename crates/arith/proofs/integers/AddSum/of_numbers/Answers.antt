-- `Add::of_numbers` meets its contract: a sum of naturals. Assumes nothing.
use native.Mathlib.Omega.{arith}
use Rattle.width.proofs.Truths.{truth}
use Rattle.arith.proofs.Sums.{sum_natural}
use Rattle.arith.proofs.integers.AddSum.of_numbers.Goals as goal

pub returns : goal.returns
returns c =
    let t = truth c.args.c in
    rw (c.from.ensures, c.from-2.ensures, c.from-3.ensures, t.is)
    (record { is = sum_natural _ _ _; plus_bound = omega arith; minus_bound = omega arith })
