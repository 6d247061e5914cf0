-- `blockcheck::judge` meets its contract: by how far the code is cut, and where displacements lead. Assumes nothing.
use mathlib.Core.Path.{ap, ◌∙◌}
use lib.ListN.{replicate}
use Rattle.std.proofs.lemmas.Result.{err_from_is_err_and}
use Rattle.blockcheck.proofs.Concluding.{concluded_refused, concluded_astray, concluded_good}
use Rattle.blockcheck.proofs.judge.Goals as goal

pub divide-requires : goal.divide-requires
divide-requires c = c.fill.ensures.after (λ y e. e) ∙ ap (λ n. replicate n 0) c.requires.1

pub returns-in_err-count : goal.returns-in_err-count
returns-in_err-count c =
    let p = err_from_is_err_and c.from_residual.result c.from_residual.ensures.1 in
    rw (p.1, p.2) (concluded_refused c.requires.0 c.in_err-count.ensures)

pub returns-in-Some : goal.returns-in-Some
returns-in-Some c = concluded_astray c.requires.0 c.in_ok-count.ensures (rw c.in-Some.is at c.first_astray.ensures)

pub returns-in-None : goal.returns-in-None
returns-in-None c = concluded_good c.requires.0 c.in_ok-count.ensures (rw c.in-None.is at c.first_astray.ensures)
