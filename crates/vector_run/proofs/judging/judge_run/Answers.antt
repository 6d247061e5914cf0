-- `vector_run::judging::judge_run` meets its contract: the constants fit their room. Assumes nothing.
use Rattle.std.proofs.lemmas.Result.{err_from_is_err_and}
use Rattle.vector_run.proofs.Found.{run_unfit, run_found}
use Rattle.vector_run.proofs.judging.judge_run.Goals as goal

pub returns-in_err-size : goal.returns-in_err-size
returns-in_err-size c =
    let exit = err_from_is_err_and c.from_residual.result c.from_residual.ensures.1 in
    run_unfit _ _ _ c.in_err-size.ensures.unfit.0 (rw (exit.1, exit.2, c.in_err-size.ensures.unfit.1))

pub returns : goal.returns
returns c = run_found _ _ _ c.room-constants.result c.in_ok-size.ensures.fits c.room-constants.ensures c.judge_lent.ensures
