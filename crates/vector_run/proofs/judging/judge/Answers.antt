-- `vector_run::judging::judge` meets its contract: by the form of the line. Assumes nothing.
use Rattle.std.proofs.Common.{sym, ◌∙◌}
use Rattle.text.specs.Ascii.{ascii}
use Rattle.vector_run.specs.Cases.{is_run, is_check, is_hex}
use Rattle.vector_run.specs.Findings.{of_run, of_check, of_hex, of_none}
use Rattle.vector_run.proofs.judging.judge.Goals as goal

pub returns-then-has_form : goal.returns-then-has_form
unfolding is_run ascii
returns-then-has_form c = of_run (sym c.has_form.ensures ∙ c.if-has_form.true) c.judge_sized.ensures

pub returns-then-has_form-2 : goal.returns-then-has_form-2
unfolding is_run is_check ascii
returns-then-has_form-2 c =
    of_check (sym c.has_form.ensures ∙ c.if-has_form.false) (sym c.has_form-else-has_form.ensures ∙ c.if-has_form-2.true) c.judge_sized-then-has_form-2.ensures

pub returns-then-has_form-3 : goal.returns-then-has_form-3
unfolding is_run is_check is_hex ascii
returns-then-has_form-3 c =
    of_hex (sym c.has_form.ensures ∙ c.if-has_form.false) (sym c.has_form-else-has_form.ensures ∙ c.if-has_form-2.false)
    (sym c.has_form-else-has_form-2.ensures ∙ c.if-has_form-3.true) c.judge_sized-then-has_form-3.ensures

pub returns-else-has_form-3 : goal.returns-else-has_form-3
unfolding is_run is_check is_hex ascii
returns-else-has_form-3 c =
    of_none (sym c.has_form.ensures ∙ c.if-has_form.false) (sym c.has_form-else-has_form.ensures ∙ c.if-has_form-2.false)
    (sym c.has_form-else-has_form-2.ensures ∙ c.if-has_form-3.false)
