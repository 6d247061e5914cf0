-- Demand 2's law: n steps and then m, with the same code and constants throughout, end as n + m do, and the step counts add up. Assumes nothing.
use mathlib.Core.Path.{◌≡◌, refl, sym, ap, ◌∙◌}
use mathlib.Core.Bool.{Bool, true, false, cond, not, ◌||◌}
use mathlib.Core.List.{List}
use Prim.Native.Nat.{ℕ, zero, suc, ◌+◌, ◌<◌, ◌≤◌}
use native.Mathlib.Nat.{add-zero, zero-add, suc-add}
use native.Mathlib.Omega.{arith}
use lib.Dec.{eqb, ltb}
use lib.ListN.{length}
use borrow.Author.Tests.{ne_eqb, le-ltb}
use Rattle.flags.specs.Word.{word_of, passes}
use Rattle.flags.proofs.RoundTrips.{unpacked, word_passes}
use Rattle.machine.specs.declared.registers.Machine.{Machine}
use Rattle.run.specs.declared.Lent.{Lent}
use Rattle.run.specs.Steps.{Fixed, Moved, next, stop, step_of}
use Rattle.run.specs.Runs.{Ended, on_moved, run_from, refusal, refusal_of, opened, closed, taken, refused, run_of}
use Rattle.run.specs.Pausing.{Joined}
use Rattle.run.proofs.Kept.{run_keeps}

-- the same end, k steps more being done
abbrev later : ℕ → Ended → Ended
later k e =
    record {
      machine = e.machine;
      area = e.area;
      steps = k + e.steps;
      number = e.number;
      address = e.address;
    }

module _ (fixed : Fixed) where
  -- where the count starts changes nothing but the count
  counted : (b : ℕ) (m : Machine) (d : List ℕ) (k : ℕ) → run_from fixed b m d k ≡ later k (run_from fixed b m d 0)
  unfolding run_from on_moved
  counted zero m d k = rw (add-zero k)
  counted (suc b) m d k = by (step_of fixed m d) (λ m' d' j. counted b m' d' j)
    where
      go : ℕ → Machine → List ℕ → Ended
      go j m' d' = run_from fixed b m' d' j

      end : ℕ → ℕ → ℕ → Ended
      end j n a = record { machine = m; area = d; steps = j; number = n; address = a }

      twice : (e : Ended) → later (suc k) e ≡ later k (later 1 e)
      twice e = ap (λ (n : ℕ). record { machine = e.machine; area = e.area; steps = n; number = e.number; address = e.address }) (omega arith)

      by : (v : Moved) → ((m' : Machine) (d' : List ℕ) (j : ℕ) → go j m' d' ≡ later j (go 0 m' d'))
          → on_moved v (go (suc k)) (end k) ≡ later k (on_moved v (go 1) (end 0))
      by (next m' d') from = from m' d' (suc k) ∙ twice (go 0 m' d') ∙ sym (ap (later k) (from m' d' 1))
      by (stop n a) from = rw (add-zero k)

  -- n steps and then m, at least 1, as n + m
  joined : (n m : ℕ) → 0 < m → (M : Machine) (d : List ℕ) (k : ℕ)
      → run_from fixed (n + m) M d k
      ≡ run_from fixed m (run_from fixed n M d k).machine (run_from fixed n M d k).area (run_from fixed n M d k).steps
  unfolding run_from on_moved
  joined zero m h M d k = rw zero-add
  joined (suc n) m h M d k = rw suc-add (by (step_of fixed M d) refl (λ m' d'. joined n m h m' d' (suc k)))
    where
      end : ℕ → ℕ → Ended
      end n a = record { machine = M; area = d; steps = k; number = n; address = a }

      go : ℕ → Machine → List ℕ → Ended
      go b m' d' = run_from fixed b m' d' (suc k)

      again : (m : ℕ) → 0 < m → {j a : ℕ} → step_of fixed M d ≡ stop j a → end j a ≡ run_from fixed m M d k
      again zero h e = absurd (let z = h in omega arith)
      again (suc m) h e = rw e

      by : (v : Moved) → step_of fixed M d ≡ v
          → ((m' : Machine) (d' : List ℕ) → go (n + m) m' d' ≡ run_from fixed m (go n m' d').machine (go n m' d').area (go n m' d').steps)
          → on_moved v (go (n + m)) end
          ≡ run_from fixed m (on_moved v (go n) end).machine (on_moved v (go n) end).area (on_moved v (go n) end).steps
      by (next m' d') e from = from m' d'
      by (stop j a) e from = again m h e

-- a budget within the limit refuses nothing
within : (fixed : Fixed) (d : List ℕ) (w b : ℕ) → b ≤ 1_000_000 → refusal_of fixed d w b ≡ refusal_of fixed d w 0
unfolding refusal
within fixed d w b h = rw (le-ltb 1_000_000 b h)

-- what is not refused with one flags word is not with another that passes, and data as long
passing : (fixed : Fixed) (d d' : List ℕ) (w w' : ℕ) → length d' ≡ length d → refusal_of fixed d w 0 ≡ 0 → passes w' ≡ true → refusal_of fixed d' w' 0 ≡ 0
unfolding refusal
passing fixed d d' w w' long =
    rw long (by (eqb (length fixed.code) 0 || ltb 65_536 (length fixed.code)) (ltb 65_536 (length d)) (ltb 65_536 (length fixed.constants)) (passes w) (passes w'))
  where
    by : (x y u z z' : Bool) → ◌≡◌ {A = ℕ} (cond x 10 (cond y 11 (cond u 15 (cond (not z) 12 0)))) 0 → z' ≡ true
        → ◌≡◌ {A = ℕ} (cond x 10 (cond y 11 (cond u 15 (cond (not z') 12 0)))) 0
    by true y u z z' h e = h
    by false true u z z' h e = h
    by false false true z z' h e = h
    by false false false z z' h e = rw e

-- a machine that is handed back opens as it was
reopened : (m : Machine) → opened (closed m) ≡ m
unfolding opened closed
reopened m = rw (unpacked m.flags)

module _ (fixed : Fixed) (l : Lent) (d : List ℕ) (b : ℕ) (small : b ≤ 1_000_000) where
  -- a run that is not refused takes its steps
  runs : refusal_of fixed d l.word 0 ≡ 0 → run_of fixed l d b ≡ taken (run_from fixed b (opened l) d 0)
  unfolding run_of
  runs h = rw (within fixed d l.word b small, h)

  -- a run that is refused whatever the budget
  refuses : (refusal_of fixed d l.word 0 ≡ 0 → ⊥)
      → run_of fixed l d b ≡ refused l d (refusal_of fixed d l.word 0)
  unfolding run_of
  refuses h = rw (within fixed d l.word b small, ne_eqb _ _ h)

-- a refusal changes nothing: the machine and the data as handed in, 0 steps, address 0
pub refusal_changes_nothing : (fixed : Fixed) (l : Lent) (d : List ℕ) (b : ℕ)
    → (refusal_of fixed d l.word b ≡ 0 → ⊥)
    → run_of fixed l d b ≡ refused l d (refusal_of fixed d l.word b)
unfolding run_of
refusal_changes_nothing fixed l d b h = rw (ne_eqb (refusal_of fixed d l.word b) 0 h)

module _ (fixed : Fixed) (l : Lent) (d : List ℕ) (n m : ℕ) (some : 0 < m) (small : n + m ≤ 1_000_000) where
  -- what the first n steps end with
  abbrev first_end : Ended
  first_end = run_from fixed n (opened l) d 0

  -- neither part is refused
  both_taken : refusal_of fixed d l.word 0 ≡ 0
      → Joined (taken first_end) (run_of fixed (closed first_end.machine) first_end.area m) (run_of fixed l d (n + m))
  unfolding taken closed
  both_taken h =
      let e = first_end in
      let passed : refusal_of fixed e.area (word_of e.machine.flags) 0 ≡ 0
      = passing fixed d e.area l.word (word_of e.machine.flags) (run_keeps fixed n (opened l) d 0).long h (word_passes e.machine.flags) in
      rw (
        runs fixed l d (n + m) small h,
        runs fixed (closed e.machine) e.area m (omega arith) passed,
        reopened e.machine,
        joined fixed n m some (opened l) d 0,
        counted fixed m e.machine e.area e.steps,
      )
      (record { machine = refl; area = refl; number = refl; address = refl; steps = refl })

  -- n steps and then m, m at least 1 and n + m within the limit, end as n + m steps do, all three with the same code and constants
  pub law : Joined (run_of fixed l d n) (run_of fixed (run_of fixed l d n).ran.machine (run_of fixed l d n).area m) (run_of fixed l d (n + m))
  unfolding taken refused
  law = by (refusal_of fixed d l.word 0) refl
    where
      by : (r : ℕ) → refusal_of fixed d l.word 0 ≡ r
          → Joined (run_of fixed l d n) (run_of fixed (run_of fixed l d n).ran.machine (run_of fixed l d n).area m) (run_of fixed l d (n + m))
      by zero e = rw (runs fixed l d n (omega arith) e) (both_taken e)
      by (suc r) e =
          let away : refusal_of fixed d l.word 0 ≡ 0 → ⊥ = λ z. let q : suc r ≡ 0 = sym e ∙ z in omega arith in
          rw (refuses fixed l d n (omega arith) away)
          (rw (refuses fixed l d m (omega arith) away, refuses fixed l d (n + m) small away)
          (record { machine = refl; area = refl; number = refl; address = refl; steps = refl }))
