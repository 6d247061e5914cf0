-- States and answers written whole, and what a call comes to. Assumes nothing.
use mathlib.Core.Path.{◌≡◌, refl, ap, ◌∙◌}
use mathlib.Core.List.{List, [], ◌∷◌, ◌++◌, append-nil}
use Prim.Native.Nat.{ℕ, ◌+◌, ◌^◌, ◌<◌}
use native.Mathlib.Omega.{arith}
use lib.ListN.{length, drop, set}
use lib.Seq.{sets, sets-eq, drop-length}
use borrow.Author.Tests.{eq-eqb, ne_eqb}
use Rattle.blockcheck.specs.Blocks.{Judged}
use Rattle.intel_hex.specs.Files.{Outcome}
use Rattle.run.specs.declared.Lent.{Lent}
use Rattle.run.specs.declared.Ran as Code
use Rattle.run.specs.Steps.{Fixed}
use Rattle.run.specs.Runs.{Ran, told, Runs, run_of}
use Rattle.sangolid.specs.Interface.{misfit, lent_of, state_of, called, call_of, Calls, Checks, judged, word_of, Unhexes, unhexed}
use Rattle.sangolid.proofs.Bounds.{steps_fit}

-- an area as long as what is written over it holds nothing else
sets_whole : (vs l : List ℕ) → length l ≡ length vs → sets l 0 vs ≡ vs
sets_whole vs l e =
    let long : 0 + length vs ≡ length l = omega arith in
    sets-eq vs l 0 (omega arith) ∙ ap (λ (k : ℕ). vs ++ drop k l) long ∙ ap (λ (r : List ℕ). vs ++ r) (drop-length l) ∙ append-nil vs

module _ (state : List ℕ) (fixed : Fixed) (d : List ℕ) (budget : ℕ) where
  -- a state of another length: 90, and nothing is changed
  pub misfit_changes_nothing : (length state ≡ 20 → ⊥) → call_of state fixed d budget ≡ record { number = misfit; state = state; area = d }
  unfolding call_of
  misfit_changes_nothing wrong = rw (ne_eqb _ _ wrong)

  -- so a call returns
  pub calls_misfit : (length state ≡ 20 → ⊥) → Calls (call_of state fixed d budget) 90 state d
  unfolding misfit
  calls_misfit wrong = rw (misfit_changes_nothing wrong) (record { is = refl; state_left = refl; area_left = refl })

  -- the run's number, with the state written whole
  pub calls_run : length state ≡ 20 → {l : Lent} {r : Code.Ran} {later after : List ℕ} → l ≡ lent_of state → Runs (run_of fixed l d budget) r after
      → later ≡ state_of (told r)
      → Calls (call_of state fixed d budget) (told r).number later after
  unfolding call_of called
  calls_run long lending runs writing =
      rw (eq-eqb _ _ long, ← lending) (record { is = ap (λ (r : Ran). r.number) runs.is; state_left = writing ∙ ap state_of runs.is; area_left = runs.left })

-- the steps that a run hands back fit a word
pub ran_fits : (fixed : Fixed) (l : Lent) (d : List ℕ) (budget : ℕ) {r : Code.Ran} {after : List ℕ} → Runs (run_of fixed l d budget) r after
    → r.steps < 2 ^ 32
unfolding told
ran_fits fixed l d budget runs = let same = ap (λ (r : Ran). r.steps) runs.is in rw same (steps_fit fixed l d budget)

-- a check's answer is written whole
pub checks_judged : {code marks answer after : List ℕ} {n number v value : ℕ} → length answer ≡ 1 → Judged code marks number value after
    → n ≡ number
    → v ≡ value
    → Checks code marks answer n after (set answer 0 v)
checks_judged {answer} {v} long judging numbered worth = rw (sets_whole (v ∷ []) answer long, numbered, worth) (judged long judging)

-- a hex file's answer is written whole
pub unhexes_read : {text code answer after : List ℕ} {n number v value w : ℕ} → length answer ≡ 1 → Outcome text code number value after → n ≡ number
    → v ≡ value
    → w ≡ word_of v
    → Unhexes text code answer n after (set answer 0 w)
unhexes_read {answer} {w} long outcome numbered worth word = rw (sets_whole (w ∷ []) answer long, numbered, word, worth) (unhexed long outcome)
