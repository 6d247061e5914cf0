-- `vector_run::judging::compare_answer` meets its contract: the number, the answer and the area, one after another. Assumes nothing.
use Rattle.std.proofs.Common.{sym, ◌∙◌, [], ◌∷◌}
use Rattle.std.proofs.lemmas.Result.{err_from_is_err_and}
use Rattle.vector_run.specs.Findings.{answer_told, numbers_from}
use Rattle.vector_run.proofs.Comparing.{told_first, told_later}
use Rattle.vector_run.proofs.judging.compare_answer.Goals as goal

pub returns-in_err-compare_numbers : goal.returns-in_err-compare_numbers
unfolding answer_told numbers_from
returns-in_err-compare_numbers c =
    let exit = err_from_is_err_and c.from_residual.result c.from_residual.ensures.1 in
    rw (exit.1, exit.2) (sym (told_first _ (numbers_from 17 (c.args.number ∷ [])) _ (sym c.compare_numbers.ensures ∙ c.in_err-compare_numbers.was)))

pub returns-in_err-compare_numbers-2 : goal.returns-in_err-compare_numbers-2
unfolding answer_told numbers_from
returns-in_err-compare_numbers-2 c =
    let exit = err_from_is_err_and c.from_residual-in_err-compare_numbers-2.result c.from_residual-in_err-compare_numbers-2.ensures.1 in
    rw (exit.1, exit.2)
    (sym (told_later _ (numbers_from 17 (c.args.number ∷ [])) _ (sym c.compare_numbers.ensures ∙ c.in_ok-compare_numbers.was) ∙ told_first _ (numbers_from 19 (c.args.value ∷ [])) _ (sym c.compare_numbers-2.ensures ∙ c.in_err-compare_numbers-2.was)))

pub returns : goal.returns
unfolding answer_told numbers_from
returns c =
    c.compare_area.ensures
    ∙ sym (told_later _ (numbers_from 17 (c.args.number ∷ [])) _ (sym c.compare_numbers.ensures ∙ c.in_ok-compare_numbers.was) ∙ told_later _ (numbers_from 19 (c.args.value ∷ [])) _ (sym c.compare_numbers-2.ensures ∙ c.in_ok-compare_numbers-2.was))
