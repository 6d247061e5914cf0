-- `vector_run::judging::compare_run` meets its contract: the numbers, the machine, the singles and the data, the first that differs. Assumes nothing.
use Rattle.std.proofs.Common.{◌≡◌, length, sym, ◌∙◌, rules}
use Rattle.std.proofs.lemmas.Result.{err_from_is_err_and}
use Rattle.vector_run.proofs.Comparing.{told_first, told_later, run_parts}
use Rattle.vector_run.proofs.judging.compare_run.Goals as goal

pub returns-in_err-compare_numbers : goal.returns-in_err-compare_numbers
returns-in_err-compare_numbers c =
    let exit = err_from_is_err_and c.from_residual.result c.from_residual.ensures.1 in
    let long : length c.args.state.now ≡ 20 = search rules in
    rw (exit.1, exit.2, run_parts c.args.number c.args.state.now c.args.area.now long)
    (sym (told_first _ _ _ (sym c.compare_numbers.ensures ∙ c.in_err-compare_numbers.was)))

pub returns-in_err-compare_numbers-2 : goal.returns-in_err-compare_numbers-2
returns-in_err-compare_numbers-2 c =
    let exit = err_from_is_err_and c.from_residual-in_err-compare_numbers-2.result c.from_residual-in_err-compare_numbers-2.ensures.1 in
    let long : length c.args.state.now ≡ 20 = search rules in
    rw (exit.1, exit.2, run_parts c.args.number c.args.state.now c.args.area.now long)
    (sym (told_later _ _ _ (sym c.compare_numbers.ensures ∙ c.in_ok-compare_numbers.was) ∙ told_first _ _ _ (sym c.compare_numbers-2.ensures ∙ c.in_err-compare_numbers-2.was)))

pub returns-in_err-compare_numbers-3 : goal.returns-in_err-compare_numbers-3
returns-in_err-compare_numbers-3 c =
    let exit = err_from_is_err_and c.from_residual-in_err-compare_numbers-3.result c.from_residual-in_err-compare_numbers-3.ensures.1 in
    let long : length c.args.state.now ≡ 20 = search rules in
    rw (exit.1, exit.2, run_parts c.args.number c.args.state.now c.args.area.now long)
    (sym (told_later _ _ _ (sym c.compare_numbers.ensures ∙ c.in_ok-compare_numbers.was)
    ∙ told_later _ _ _ (sym c.compare_numbers-2.ensures ∙ c.in_ok-compare_numbers-2.was)
    ∙ told_first _ _ _ (sym c.compare_numbers-3.ensures ∙ c.in_err-compare_numbers-3.was)))

pub returns : goal.returns
returns c =
    let long : length c.args.state.now ≡ 20 = search rules in
    rw (run_parts c.args.number c.args.state.now c.args.area.now long)
    (c.compare_area.ensures
    ∙ sym (told_later _ _ _ (sym c.compare_numbers.ensures ∙ c.in_ok-compare_numbers.was)
    ∙ told_later _ _ _ (sym c.compare_numbers-2.ensures ∙ c.in_ok-compare_numbers-2.was)
    ∙ told_later _ _ _ (sym c.compare_numbers-3.ensures ∙ c.in_ok-compare_numbers-3.was)))
