-- `Add::of_signed` meets its contract: the ranks' sum, less twice the half. Assumes nothing.
use native.Mathlib.Omega.{arith}
use Rattle.width.proofs.Truths.{truth}
use Rattle.width.proofs.Widths.{numbers}
use Rattle.arith.proofs.Sums.{sum_ranked}
use Rattle.arith.proofs.integers.AddSum.of_signed.Goals as goal

pub returns : goal.returns
returns c =
    let t = truth c.args.c in
    let nums = numbers c.args.w in
    rw (c.from.ensures, t.is, c.modulus.ensures)
    (record { is = sum_ranked _ _ _ _ _ _ c.rank-x.ensures c.rank-y.ensures; plus_bound = omega arith; minus_bound = omega arith })
