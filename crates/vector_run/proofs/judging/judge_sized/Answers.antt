-- `vector_run::judging::judge_sized` meets its contract: both areas fit their rooms. Assumes nothing.
use Rattle.std.proofs.lemmas.Result.{err_from_is_err_and}
use Rattle.vector_run.proofs.Found.{sized_no_code, sized_no_area, sized_found}
use Rattle.vector_run.proofs.judging.judge_sized.Goals as goal

pub returns-in_err-code_size : goal.returns-in_err-code_size
returns-in_err-code_size c =
    let exit = err_from_is_err_and c.from_residual.result c.from_residual.ensures.1 in
    sized_no_code _ c.in_err-code_size.ensures.unfit.0 (rw (exit.1, exit.2, c.in_err-code_size.ensures.unfit.1))

pub returns-in_err-area_size : goal.returns-in_err-area_size
returns-in_err-area_size c =
    let exit = err_from_is_err_and c.from_residual-in_err-area_size.result c.from_residual-in_err-area_size.ensures.1 in
    sized_no_area _ c.in_err-area_size.ensures.unfit.0 (rw (exit.1, exit.2, c.in_err-area_size.ensures.unfit.1))

pub returns : goal.returns
returns c =
    sized_found _ c.room-code.result c.room-area.result c.in_ok-code_size.ensures.fits c.in_ok-area_size.ensures.fits c.room-code.ensures c.room-area.ensures
    c.judge_filled.ensures
