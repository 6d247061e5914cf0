-- `intel_hex::judging::judge_line` meets its contract: after an end record, no record, or a record. Assumes nothing.
use mathlib.Core.Path.{◌≡◌, ap, sym, ◌∙◌}
use mathlib.Core.Bool.{false, false≢true}
use mathlib.Core.List.{List}
use Prim.Native.Nat.{ℕ}
use borrow.Author.Rules.{rules}
use Rattle.std.specs.Prelude.{Option, None, Some, MatchOption, ok_or, Err, is_ok}
use Rattle.intel_hex.specs.Reading.{IsNoRecord, JudgesFrom}
use Rattle.intel_hex.specs.declared.fault.Fault.{Fault as Refusal}
use Rattle.intel_hex.specs.declared.judging.File.{File}
use Rattle.intel_hex.proofs.Judgements.{error_or, judged_after_end, judged_malformed}
use Rattle.intel_hex.proofs.judging.judge_line.Goals as goal

-- a line that is not read is malformed
unread : {A : Type 0} (P : A → Type 0) (size : ℕ) (file : File) (image : List (Option ℕ)) (line : List ℕ) → file.ended ≡ false → (read : Option A)
    → MatchOption read (IsNoRecord line) P → (why : Refusal) → ok_or read Refusal.Malformed ≡ Err why → JudgesFrom size file image line (Err why) image
unread {A} P size file image line unended None none why e =
    let same : why ≡ Refusal.Malformed = sym (ap (error_or {A = A} Refusal.Malformed) e) in
    rw same (judged_malformed size file image line unended none)
unread P size file image line unended (Some line_read) is why e = absurd (false≢true (sym (ap is_ok e)))

pub returns-then-file : goal.returns-then-file
returns-then-file c = judged_after_end c.args.size c.args.file c.args.image.now.cells c.args.bytes.now c.if-file.true

pub returns-in_err-line : goal.returns-in_err-line
returns-in_err-line c =
    let h = unread _ c.args.size c.args.file c.args.image.now.cells c.args.bytes.now c.if-file.false c.read.result c.read.ensures c.in_err-line.field-0.0 (sym c.ok_or.ensures.value ∙ c.in_err-line.was) in
    search rules
