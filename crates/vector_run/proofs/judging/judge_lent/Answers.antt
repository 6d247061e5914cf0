-- `vector_run::judging::judge_lent` meets its contract: what the call over filled constants gives is compared. Assumes nothing.
use Rattle.vector_run.proofs.Found.{lent_found}
use Rattle.vector_run.proofs.judging.judge_lent.Goals as goal

pub returns : goal.returns
returns c =
    lent_found _ _ _ _ c.field.ensures c.fill.ensures c.state_before-state.ensures c.number_64.ensures c.sangolid_run-number.ensures
    c.compare_run.ensures
