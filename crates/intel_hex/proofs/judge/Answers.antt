-- `intel_hex::judge` meets its contract: the lines split off so far stand. Assumes nothing.
use mathlib.Core.Path.{◌≡◌, ap, sym, ◌∙◌}
use mathlib.Core.Bool.{false≢true}
use Prim.Native.Nat.{ℕ, ◌+◌}
use borrow.Author.Rules.{rules}
use Rattle.std.specs.Prelude.{Result, Ok, Err, is_ok, MatchResult, IsErrAnd}
use Rattle.intel_hex.specs.declared.fault.Fault.{Fault as Refusal}
use Rattle.intel_hex.specs.declared.fault.Refused.{Refused}
use Rattle.intel_hex.specs.declared.judging.File.{File}
use Rattle.intel_hex.proofs.Judgements.{value_or, error_or}
use Rattle.intel_hex.proofs.Lining.{first_line}
use Rattle.intel_hex.proofs.Passing.{passes_begin, passes_go, passes_stop, passes_end}
use Rattle.intel_hex.proofs.judge.Goals as goal

module _ (Q : Refusal → Refused → Type 0) where
  -- a line has no fault where none is handed on
  goes_on : (judged : Result File Refusal) (told : Result File Refused) → MatchResult judged (λ x. told ≡ Ok x) (λ e. IsErrAnd told (Q e)) → (file : File)
      → told ≡ Ok file → judged ≡ Ok file
  goes_on (Ok x) told is file e = ap (λ (f : File). Ok f) (ap (value_or x) (sym is ∙ e))
  goes_on (Err e) (Ok x) is file f = absurd is
  goes_on (Err e) (Err r) is file f = absurd (false≢true (ap is_ok f))

  -- a fault is handed on with its line
  stops : (line : ℕ) → ((e : Refusal) (r : Refused) → Q e r → r ≡ record { fault = e; line = line }) → (judged : Result File Refusal) (told : Result File Refused)
      → MatchResult judged (λ x. told ≡ Ok x) (λ e. IsErrAnd told (Q e)) → (why : Refused) → told ≡ Err why → (judged ≡ Err why.fault) × (why.line ≡ line)
  stops line says (Ok x) told is why e = absurd (false≢true (sym (ap is_ok (sym is ∙ e))))
  stops line says (Err e) (Ok x) is why f = absurd is
  stops line says (Err e) (Err r) is why f =
      let same : why ≡ record { fault = e; line = line } = sym (ap (error_or r) f) ∙ says e r is in
      (ap (λ (w : Refused). Err w.fault) (sym same), ap (λ (w : Refused). w.line) same)

pub loop-before-init : goal.loop-before-init
loop-before-init c =
    rw (c.into_iter-before-iterator.ensures.into_iter_gives, c.enumerate-before-items.ensures.source, c.enumerate-before-items.ensures.count, c.split_inclusive.ensures.rest)
    (passes_begin c.args.text.now c.args.size c.args.image.now.cells c.requires)

pub loop-before-preserved : goal.loop-before-preserved
loop-before-preserved c =
    let steps = c.in-Some.ensures.steps in
    let first = first_line _ c.loop-before.before-iterator.iter.rest.now c.in-Some.bytes.now c.next.new.self.iter.rest.now _ _ (λ a r f k. search rules) steps.0.0 steps.0.1 steps.0.2 in
    let judged = goes_on _ c.judge_line.result c.map_err.result c.map_err.ensures.cases c.in_ok-file.file c.in_ok-file.was in
    rw steps.2 (passes_go c.loop-before.invariant _ first (rw judged at c.judge_line.ensures))

pub returns-in_err-file : goal.returns-in_err-file
returns-in_err-file c =
    let steps = c.in-Some.ensures.steps in
    let first = first_line _ c.loop-before.before-iterator.iter.rest.now c.in-Some.bytes.now c.next.new.self.iter.rest.now _ _ (λ a r f k. search rules) steps.0.0 steps.0.1 steps.0.2 in
    let (judged, place) = stops _ (c.in-Some.before + 1) (λ e r k. search rules) c.judge_line.result c.map_err.result c.map_err.ensures.cases c.in_err-file.field-0.0 c.in_err-file.was in
    let h = passes_stop c.loop-before.invariant _ first c.in_err-file.field-0.0 (place ∙ ap (λ (n : ℕ). n + 1) steps.1) (rw judged at c.judge_line.ensures) in
    search rules

pub returns : goal.returns
returns c = passes_end c.loop-before.invariant c.in-None.ensures.steps.0.0
