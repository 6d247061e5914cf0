-- `Subtract::of_signed` meets its contract: the ranks' difference. Assumes nothing.
use native.Mathlib.Omega.{arith}
use Rattle.width.proofs.Truths.{truth}
use Rattle.arith.proofs.Sums.{difference_ranked}
use Rattle.arith.proofs.integers.SubtractSum.of_signed.Goals as goal

pub returns : goal.returns
returns c =
    let t = truth c.args.c in
    rw (c.from.ensures, t.is)
    (record { is = difference_ranked _ _ _ _ _ _ c.rank-x.ensures c.rank-y.ensures; plus_bound = omega arith; minus_bound = omega arith })
