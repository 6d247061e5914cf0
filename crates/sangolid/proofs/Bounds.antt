-- What a call hands back fits its words: the steps of a run, and the count or the offset of a check. Assumes nothing.
use mathlib.Core.Path.{◌≡◌, refl, ap}
use mathlib.Core.Bool.{Bool, true, false, cond, not, ◌||◌}
use mathlib.Core.List.{List}
use Prim.Native.Nat.{ℕ, zero, suc, ◌+◌, ◌^◌, ◌<◌, ◌≤◌}
use native.Mathlib.Omega.{arith}
use lib.Dec.{ltb, eqb}
use lib.ListN.{length, length-append}
use borrow.Author.Tests.{eqb-true, ltb-false}
use Rattle.flags.specs.Word.{passes}
use Rattle.machine.specs.declared.registers.Machine.{Machine}
use Rattle.blockcheck.proofs.Cuts.{pieces_within, astray_within}
use Rattle.blockcheck.specs.Blocks.{Judged, bad_length, bad_marks, cut_at, unknown_at, astray_at, accepted}
use Rattle.run.specs.declared.Lent.{Lent}
use Rattle.run.specs.Steps.{Fixed, step_of, Moved}
use Rattle.run.specs.Runs.{Ended, on_moved, run_from, refusal, refusal_of, opened, taken, refused, run_of}

-- where both ways take no more steps, so does a step
moved_within : (moved : Moved) (most : ℕ) (go : Machine → List ℕ → Ended) (end : ℕ → ℕ → Ended)
    → ((m : Machine) (d : List ℕ) → (go m d).steps ≤ most) → ((n a : ℕ) → (end n a).steps ≤ most) → (on_moved moved go end).steps ≤ most
unfolding on_moved
moved_within (Moved.next m d) most go end h k = h m d
moved_within (Moved.stop n a) most go end h k = k n a

-- a run of steps takes no more than its budget
steps_within : (fixed : Fixed) (b : ℕ) (m : Machine) (d : List ℕ) (k : ℕ) → (run_from fixed b m d k).steps ≤ k + b
unfolding run_from
steps_within fixed zero m d k = omega arith
steps_within fixed (suc b) m d k =
    moved_within (step_of fixed m d) (k + suc b) _ _ (λ m' d'. omega (arith, steps_within fixed b m' d' (suc k))) (λ n a. omega arith)

-- of the five refusals the last leaves the budget allowed
allowed : (a b c w : Bool) (budget : ℕ) → ◌≡◌ {A = ℕ} (cond a 10 (cond b 11 (cond c 15 (cond w 12 (cond (ltb 1_000_000 budget) 13 0))))) 0 → budget ≤ 1_000_000
allowed true b c w budget h = omega arith
allowed false true c w budget h = omega arith
allowed false false true w budget h = omega arith
allowed false false false true budget h = omega arith
allowed false false false false budget h = by (ltb 1_000_000 budget) refl h
  where
    by : (t : Bool) → ltb 1_000_000 budget ≡ t → ◌≡◌ {A = ℕ} (cond t 13 0) 0 → budget ≤ 1_000_000
    by true e z = omega arith
    by false e z = ltb-false 1_000_000 budget e

-- a budget that is not refused
budget_within : (fixed : Fixed) (d : List ℕ) (word budget : ℕ) → refusal_of fixed d word budget ≡ 0 → budget ≤ 1_000_000
unfolding refusal
budget_within fixed d word budget h =
    allowed (eqb (length fixed.code) 0 || ltb 65_536 (length fixed.code)) (ltb 65_536 (length d)) (ltb 65_536 (length fixed.constants)) (not (passes word)) budget h

-- a refused run takes no steps
outcome_fits : (b : Bool) (e : Ended) (l : Lent) (d : List ℕ) (n : ℕ) → (b ≡ true → e.steps < 2 ^ 32)
    → (cond b (taken e) (refused l d n)).ran.steps < 2 ^ 32
unfolding taken refused
outcome_fits true e l d n h = h refl
outcome_fits false e l d n h = omega arith

-- the steps of a run fit a word
pub steps_fit : (fixed : Fixed) (l : Lent) (d : List ℕ) (budget : ℕ) → (run_of fixed l d budget).ran.steps < 2 ^ 32
unfolding run_of
steps_fit fixed l d budget =
    outcome_fits (eqb (refusal_of fixed d l.word budget) 0) (run_from fixed budget (opened l) d 0) l d _
    (λ t. omega (
      arith,
      steps_within fixed budget (opened l) d 0,
      budget_within fixed d l.word budget (eqb-true _ _ t),
    ))

-- the count or the offset of a check fits a word
pub value_fits : {code marks after : List ℕ} {number value : ℕ} → Judged code marks number value after → value < 2 ^ 32
value_fits (bad_length wrong) = omega arith
value_fits (bad_marks sized wrong) = omega arith
value_fits (cut_at sized long reached some prefix) = omega (arith, sized.most, simp length-append at (ap length reached.joined))
value_fits (unknown_at sized long reached begins prefix) = omega (arith, sized.most, simp length-append at (ap length reached.joined))
value_fits (astray_at sized long {pieces} cut {i} astray) = omega (arith, sized.most, astray_within _ 0 i cut astray)
value_fits (accepted sized long cut good) = omega (arith, sized.most, pieces_within cut)
