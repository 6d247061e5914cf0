-- Accepted code, started at a start, never meets an unknown or cut-off instruction, as long as it is guided. Assumes nothing.
use mathlib.Core.Path.{◌≡◌, refl}
use mathlib.Core.Bool.{Bool, true, false, not, ◌||◌}
use mathlib.Core.List.{List}
use Prim.Native.Nat.{ℕ, zero, suc, ◌+◌}
use native.Mathlib.Omega.{arith}
use lib.Dec.{ltb, eqb}
use lib.ListN.{length}
use Rattle.flags.specs.Word.{passes}
use Rattle.machine.specs.declared.registers.Machine.{Machine}
use Rattle.blockcheck.specs.Blocks.{code_base, Judged}
use Rattle.blockcheck.specs.Starts.{Start, Acceptable}
use Rattle.blockcheck.proofs.Starts.{zero_is_start}
use Rattle.blockcheck.proofs.Verdicts.{accepted_acceptable}
use Rattle.run.specs.declared.Lent.{Lent}
use Rattle.run.specs.Steps.{Fixed, Moved, next}
use Rattle.run.specs.Runs.{Ended, HandedBack, on_moved, run_from, refusal, refusal_of, opened, taken, refused, run_of}
use Rattle.safety.specs.Guidance.{Landed, at_start, indirect_at, Guided, Readable}
use Rattle.effect.proofs.Choosing.{chosen}
use Rattle.safety.proofs.Landings.{early, late}
use Rattle.safety.proofs.Landings.{Safe, goes, halts, step_safe}

-- what is so with a truth value and without it is so
decided : {P : Type 0} (b : Bool) → (b ≡ true → P) → (b ≡ false → P) → P
decided true x y = x refl
decided false x y = y refl

-- where a run takes a safe step, its number is readable if that of the rest is, and that of a stop
onward : {code : List ℕ} {m : Machine} {moved : Moved} → Safe code m moved → (go : Machine → List ℕ → Ended) (end : ℕ → ℕ → Ended)
    → ((m' : Machine) (d' : List ℕ) → moved ≡ next m' d' → (indirect_at code m ≡ false → Landed code m'.eip) → Readable (go m' d').number)
    → ((n a : ℕ) → Readable n → Readable (end n a).number)
    → Readable (on_moved moved go end).number
unfolding on_moved
onward (goes direct) go end rest last = rest _ _ refl direct
onward (halts {n} {a} readable) go end rest last = last n a readable

-- a guided run of acceptable code from a landed address gives neither 3 nor 4
guided_readable : (fixed : Fixed) → Acceptable fixed.code → (b k : ℕ) (m : Machine) (d : List ℕ) → Landed fixed.code m.eip → Guided fixed b m d
    → Readable (run_from fixed b m d k).number
unfolding run_from Guided
guided_readable fixed ok zero k m d landed guided = early 0 (omega arith)
guided_readable fixed ok (suc b) k m d landed guided =
    onward (step_safe fixed ok m d landed) _ _
    (λ m' d' e direct. guided_readable fixed ok b (suc k) m' d' (decided (indirect_at fixed.code m) (guided m' d' e).0 direct) (guided m' d' e).1)
    (λ n a readable. readable)

-- a run is refused with neither
refusal_readable : (fixed : Fixed) (d : List ℕ) (word budget : ℕ) → Readable (refusal_of fixed d word budget)
unfolding refusal
refusal_readable fixed d word budget =
    let by_budget = chosen Readable (ltb 1_000_000 budget) (late 13 (omega arith)) (early 0 (omega arith)) in
    let by_word_lem = chosen Readable (not (passes word)) (late 12 (omega arith)) by_budget in
    let by_constants = chosen Readable (ltb 65_536 (length fixed.constants)) (late 15 (omega arith)) by_word_lem in
    let by_data = chosen Readable (ltb 65_536 (length d)) (late 11 (omega arith)) by_constants in
    chosen Readable (eqb (length fixed.code) 0 || ltb 65_536 (length fixed.code)) (late 10 (omega arith)) by_data

module _ (fixed : Fixed) {marks after : List ℕ} {count : ℕ} (judged : Judged fixed.code marks 0 count after) where
  -- from a landed address, no number of steps of accepted code gives 3 or 4
  pub never_unreadable : (m : Machine) (d : List ℕ) → Landed fixed.code m.eip → (b k : ℕ) → Guided fixed b m d
      → Readable (run_from fixed b m d k).number
  never_unreadable m d landed b k guided = guided_readable fixed (accepted_acceptable judged) b k m d landed guided

  module _ (l : Lent) (d : List ℕ) (budget : ℕ) (guided : Guided fixed budget (opened l) d) where
    -- no run of accepted code that starts at a start gives 3 or 4
    pub run_from_start : (s : ℕ) → Start fixed.code s → l.eip ≡ code_base + s → Readable (run_of fixed l d budget).ran.number
    unfolding run_of taken refused opened
    run_from_start s start at =
        chosen (λ (o : HandedBack). Readable o.ran.number) (eqb (refusal_of fixed d l.word budget) 0)
        (never_unreadable (opened l) d (at_start start at) budget 0 guided)
        (refusal_readable fixed d l.word budget)

    -- in particular none that starts at the code's first byte
    pub run_from_first : l.eip ≡ code_base → Readable (run_of fixed l d budget).ran.number
    run_from_first at = run_from_start 0 (zero_is_start (accepted_acceptable judged)) (omega arith)
