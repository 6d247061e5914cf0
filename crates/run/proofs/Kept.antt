-- A step keeps the number of registers and of singles and the data's length, and so does a run. Assumes nothing.
use mathlib.Core.Path.{◌≡◌, refl, ◌∙◌}
use mathlib.Core.Bool.{Bool, true, false, cond}
use mathlib.Core.List.{List}
use Prim.Native.Nat.{ℕ, zero, suc, ◌-◌}
use lib.Dec.{eqb}
use lib.ListN.{length}
use Rattle.machine.specs.declared.registers.Machine.{Machine}
use Rattle.machine.specs.Registers.{with_xmm}
use Rattle.grammar.specs.Decoding.{decode_of}
use Rattle.grammar.specs.Answers.{Found}
use Rattle.std.specs.Prelude.{Ok, Err}
use Rattle.grammar.specs.declared.instruction.Fault.{Fault}
use Rattle.blockcheck.specs.Blocks.{code_base}
use Rattle.plan.specs.Plans.{plan_of}
use Rattle.effect.proofs.Ways.{regs_kept}
use Rattle.effect.proofs.Choosing.{chosen}
use Rattle.run.specs.declared.Lent.{Lent}
use Rattle.run.specs.Steps.{Fixed, Moved, next, stop, home, inside, executed, step_of}
use Rattle.run.proofs.Planned.{Comes, goes_on, planned_comes}
use Rattle.run.specs.Runs.{Ended, on_moved, run_from, refusal_of, opened, closed, taken, refused, run_of, Kept}

-- what a step moves to keeps both
pub data Keeps (m : Machine) (d : List ℕ) : Moved → Type 0 where
  moves : {m' : Machine} {d' : List ℕ} → Kept m d m' d' → Keeps m d (next m' d')
  stops : {n a : ℕ} → Keeps m d (stop n a)

executed_keeps : (fixed : Fixed) (f : Found) (m : Machine) (d : List ℕ) → Keeps m d (executed fixed f m d)
unfolding executed with_xmm
executed_keeps fixed (Ok i) m d = from (planned_comes fixed.constants (plan_of m.eip i) m d)
  where
    from : {a : ℕ} {v : Moved} → Comes (plan_of m.eip i) m a d v → Keeps m d v
    from {a} (goes_on r s xmm k l) = moves (record { registers = regs_kept (plan_of m.eip i).operation m (plan_of m.eip i) a r s; singles = k; long = l })
    from (Comes.stops n low high) = stops
executed_keeps fixed (Err Fault.Cut) m d = stops
executed_keeps fixed (Err Fault.Unknown) m d = stops

-- a step keeps both
pub step_keeps : (fixed : Fixed) (m : Machine) (d : List ℕ) → Keeps m d (step_of fixed m d)
unfolding step_of
step_keeps fixed m d =
    chosen (Keeps m d) (eqb m.eip home) stops
    (chosen (Keeps m d) (inside fixed.code m.eip) (executed_keeps fixed (decode_of fixed.code (m.eip - code_base)) m d) stops)

-- and so do the steps of a run
pub run_keeps : (fixed : Fixed) (b : ℕ) (m : Machine) (d : List ℕ) (k : ℕ) → Kept m d (run_from fixed b m d k).machine (run_from fixed b m d k).area
unfolding run_from on_moved
run_keeps fixed zero m d k = record { registers = refl; singles = refl; long = refl }
run_keeps fixed (suc b) m d k = by (step_of fixed m d) (step_keeps fixed m d) (λ m' d'. run_keeps fixed b m' d' (suc k))
  where
    go : Machine → List ℕ → Ended
    go m' d' = run_from fixed b m' d' (suc k)

    end : ℕ → ℕ → Ended
    end n a = record { machine = m; area = d; steps = k; number = n; address = a }

    by : (v : Moved) → Keeps m d v → ((m' : Machine) (d' : List ℕ) → Kept m' d' (go m' d').machine (go m' d').area)
        → Kept m d (on_moved v go end).machine (on_moved v go end).area
    by (next m' d') (moves kept) after =
        record {
          registers = (after m' d').registers ∙ kept.registers;
          singles = (after m' d').singles ∙ kept.singles;
          long = (after m' d').long ∙ kept.long;
        }
    by (stop n a) stops after = record { registers = refl; singles = refl; long = refl }

-- a run hands back as many registers and singles as it was lent
pub as_lent : (fixed : Fixed) (l : Lent) (d : List ℕ) (b : ℕ)
    → (length (run_of fixed l d b).ran.machine.regs ≡ length l.regs) × (length (run_of fixed l d b).ran.machine.xmm ≡ length l.xmm)
unfolding run_of taken refused opened closed
as_lent fixed l d b = by (eqb (refusal_of fixed d l.word b) 0)
  where
    back : Bool → Lent
    back t = (cond t (taken (run_from fixed b (opened l) d 0)) (refused l d (refusal_of fixed d l.word b))).ran.machine

    by : (t : Bool) → (length (back t).regs ≡ length l.regs) × (length (back t).xmm ≡ length l.xmm)
    by true = let kept = run_keeps fixed b (opened l) d 0 in (kept.registers, kept.singles)
    by false = (refl, refl)
