-- At first all is as at entry, and no site is kept. Assumes nothing.
use Rattle.std.proofs.Common.{◌≡◌, ◌-◌, refl, arith}
use Rattle.run.proofs.Sites.{none_kept}
use Rattle.run.proofs.steps.Goals as goal

pub loop-n-init : goal.loop-n-init
loop-n-init c = let e : c.args.budget - 0 ≡ c.args.budget = omega arith in (rw e, refl, refl, none_kept _)
