-- A run that ends with 5 gives the address of a byte that lies in neither area, and one that ends with 6 that of a byte that does not lie in data. Assumes nothing.
use mathlib.Core.Path.{◌≡◌, refl, sym, ◌∙◌}
use mathlib.Core.Bool.{Bool, true, false, cond, not, ◌||◌}
use mathlib.Core.List.{List}
use Prim.Native.Nat.{ℕ, zero, suc, ◌-◌, ◌≤◌}
use native.Mathlib.Omega.{arith}
use lib.Dec.{eqb, ltb}
use lib.ListN.{length}
use borrow.Author.Tests.{ne_eqb, ltb-false}
use Rattle.width.specs.declared.Size.{Size}
use Rattle.flags.specs.Word.{passes}
use Rattle.machine.specs.declared.registers.Machine.{Machine}
use Rattle.machine.specs.Memory.{Loaded, Stored, Done, load_of, stored_of}
use Rattle.machine.specs.Allowed.{Readable, in_data, in_constants, Writable}
use Rattle.machine.proofs.Outside.{unread_outside, load_given, store_given}
use Rattle.grammar.specs.Decoding.{decode_of}
use Rattle.grammar.specs.Answers.{Found}
use Rattle.std.specs.Prelude.{Ok, Err}
use Rattle.grammar.specs.declared.instruction.Fault.{Fault}
use Rattle.blockcheck.specs.Blocks.{code_base}
use Rattle.plan.specs.declared.Plan.{Plan}
use Rattle.effect.specs.Outcomes.{Outcome, Becomes, Writes, Sets, Faults, Effect, Reads}
use Rattle.effect.proofs.Choosing.{chosen}
use Rattle.run.specs.declared.Lent.{Lent}
use Rattle.run.specs.Steps.{Fixed, Moved, next, stop, home, inside, stored, committed, finished, performed, planned, executed, step_of}
use Rattle.run.specs.Runs.{Ended, on_moved, run_from, refusal, refusal_of, opened, taken, refused, run_of}
use Rattle.run.proofs.Kept.{Keeps, moves, step_keeps}
use Rattle.run.proofs.Reading.{performed_both}

-- what a number says of the byte at the address: with 5 it lies in neither area, with 6 not in data
data Apart (constants d : List ℕ) (number address : ℕ) : Type 0 where
  unread : number ≡ 5 → (Readable constants d 1 address → ⊥) → Apart constants d number address
  unwritten : number ≡ 6 → (Writable d 1 address → ⊥) → Apart constants d number address
  silent : (number ≡ 5 → ⊥) → (number ≡ 6 → ⊥) → Apart constants d number address

-- where data lie hangs on their length alone
as_long : (constants : List ℕ) {d d₀ : List ℕ} {n a : ℕ} → length d ≡ length d₀ → Apart constants d n a → Apart constants d₀ n a
as_long constants {d} {d₀} {n} {a} same (unread is away) = unread is (λ there. away (back there))
  where
    back : Readable constants d₀ 1 a → Readable constants d 1 a
    back (in_data l) = in_data (rw same l)
    back (in_constants l) = in_constants l
as_long constants same (unwritten is away) = unwritten is (λ there. away (rw same there))
as_long constants same (silent no_read no_write) = silent no_read no_write

-- what a step comes to, if it stops, is so
data Stops (constants d : List ℕ) : Moved → Type 0 where
  goes : {m : Machine} {d' : List ℕ} → Stops constants d (next m d')
  stops : (n : ℕ) {a : ℕ} → Apart constants d n a → Stops constants d (stop n a)

module _ (constants d : List ℕ) (long : length d ≤ 65_536) (long' : length constants ≤ 65_536) where
  -- so it is with a write
  stored_stops : (e : Effect) (answer : Stored) → stored_of d e.size e.address ≡ answer → Stops constants d (stored answer e d)
  unfolding stored
  stored_stops e Done is = goes
  stored_stops e (Stored.Outside b) is = stops 6 (unwritten refl (store_given d long e.size e.address b is).0.outside)

  -- with an effect
  committed_stops : (o : Outcome) (e : Effect) (m : Machine) → Stops constants d (committed o e m d)
  unfolding committed
  committed_stops Becomes e m = goes
  committed_stops Writes e m = stored_stops e _ refl
  committed_stops Sets e m = goes
  committed_stops Faults e m = stops 7 (silent (λ e. omega arith) (λ e. omega arith))

  -- with the effect of what was read
  finished_stops : (p : Plan) (m : Machine) (a r s : ℕ) → Stops constants d (finished p m a d r s)
  unfolding finished
  finished_stops p m a r s = committed_stops _ _ m

  -- with a read that is outside
  outside_stops : (w : Size) (a b : ℕ) → load_of constants d w a ≡ Loaded.Outside b → Stops constants d (stop 5 b)
  outside_stops w a b is = stops 5 (unread refl (unread_outside constants d long long' (load_given constants d long long' w a b is).0))

  -- with the reads, and then the effect
  performed_stops : (reads : Reads) (p : Plan) (m : Machine) (a : ℕ) → Stops constants d (performed constants reads p m a d)
  performed_stops reads p m a =
      performed_both (λ v _. Stops constants d v) constants d outside_stops reads p m m a (λ r s first. finished_stops p m a r s)

module _ (fixed : Fixed) (long' : length fixed.constants ≤ 65_536) where
  -- with what was found at EIP
  executed_stops : (f : Found) (m : Machine) (d : List ℕ) → length d ≤ 65_536 → Stops fixed.constants d (executed fixed f m d)
  unfolding executed planned
  executed_stops (Ok i) m d long = performed_stops fixed.constants d long long' _ _ m _
  executed_stops (Err Fault.Cut) m d long = stops 3 (silent (λ e. omega arith) (λ e. omega arith))
  executed_stops (Err Fault.Unknown) m d long = stops 4 (silent (λ e. omega arith) (λ e. omega arith))

  -- with a step
  step_stops : (m : Machine) (d : List ℕ) → length d ≤ 65_536 → Stops fixed.constants d (step_of fixed m d)
  unfolding step_of
  step_stops m d long =
      chosen (Stops fixed.constants d) (eqb m.eip home) (stops 1 (silent (λ e. omega arith) (λ e. omega arith)))
      (chosen (Stops fixed.constants d) (inside fixed.code m.eip) (executed_stops (decode_of fixed.code (m.eip - code_base)) m d long)
      (stops 2 (silent (λ e. omega arith) (λ e. omega arith))))

  -- with the steps of a run, and data of this length
  steps_apart : (b : ℕ) (m : Machine) (d d₀ : List ℕ) (k : ℕ) → length d ≡ length d₀ → length d₀ ≤ 65_536
      → Apart fixed.constants d₀ (run_from fixed b m d k).number (run_from fixed b m d k).address
  unfolding run_from on_moved
  steps_apart zero m d d₀ k same long = silent (λ e. omega arith) (λ e. omega arith)
  steps_apart (suc b) m d d₀ k same long =
      by (step_of fixed m d) (step_stops m d (rw same long)) (step_keeps fixed m d) (λ m' d' same'. steps_apart b m' d' d₀ (suc k) same' long)
    where
      go : Machine → List ℕ → Ended
      go m' d' = run_from fixed b m' d' (suc k)

      end : ℕ → ℕ → Ended
      end n a = record { machine = m; area = d; steps = k; number = n; address = a }

      by : (v : Moved) → Stops fixed.constants d v → Keeps m d v
          → ((m' : Machine) (d' : List ℕ) → length d' ≡ length d₀ → Apart fixed.constants d₀ (go m' d').number (go m' d').address)
          → Apart fixed.constants d₀ (on_moved v go end).number (on_moved v go end).address
      by (next m' d') goes (moves kept) after = after m' d' (kept.long ∙ same)
      by (stop n a) (stops _ apart) Keeps.stops after = as_long fixed.constants same apart

-- a run is refused with 10 or more, or has areas of at most 65,536 bytes
data Judges (data_length constants_length : ℕ) : ℕ → Type 0 where
  lets_pass : data_length ≤ 65_536 → constants_length ≤ 65_536 → Judges data_length constants_length 0
  refuses : (n : ℕ) → 10 ≤ n → Judges data_length constants_length n

judges : (code_length data_length constants_length word budget : ℕ)
    → Judges data_length constants_length (refusal code_length data_length constants_length word budget)
unfolding refusal
judges code_length data_length constants_length word budget =
    by (eqb code_length 0 || ltb 65_536 code_length) (ltb 65_536 data_length) (ltb 65_536 constants_length) (not (passes word)) (ltb 1_000_000 budget) refl refl
  where
    by : (t u v x y : Bool) → ltb 65_536 data_length ≡ u → ltb 65_536 constants_length ≡ v
        → Judges data_length constants_length (cond t 10 (cond u 11 (cond v 15 (cond x 12 (cond y 13 0)))))
    by true u v x y p q = refuses 10 (omega arith)
    by false true v x y p q = refuses 11 (omega arith)
    by false false true x y p q = refuses 15 (omega arith)
    by false false false true y p q = refuses 12 (omega arith)
    by false false false false true p q = refuses 13 (omega arith)
    by false false false false false p q = lets_pass (ltb-false _ _ p) (ltb-false _ _ q)

module _ (fixed : Fixed) (l : Lent) (d : List ℕ) (budget : ℕ) where
  -- so it is with a run
  run_apart : Apart fixed.constants d (run_of fixed l d budget).ran.number (run_of fixed l d budget).ran.address
  unfolding run_of taken refused
  run_apart = by (refusal_of fixed d l.word budget) (judges _ _ _ _ _)
    where
      by : (n : ℕ) → Judges (length d) (length fixed.constants) n
          → Apart fixed.constants d (cond (eqb n 0) (taken (run_from fixed budget (opened l) d 0)) (refused l d n)).ran.number
          (cond (eqb n 0) (taken (run_from fixed budget (opened l) d 0)) (refused l d n)).ran.address
      by zero (lets_pass long long') = steps_apart fixed long' budget (opened l) d d 0 refl long
      by n (refuses _ high) = rw (ne_eqb n 0 (omega arith)) (silent (λ e. omega arith) (λ e. omega arith))

  -- 5 gives a byte that lies in neither area
  pub five_outside : (run_of fixed l d budget).ran.number ≡ 5 → Readable fixed.constants d 1 (run_of fixed l d budget).ran.address → ⊥
  five_outside five there = by run_apart
    where
      by : Apart fixed.constants d (run_of fixed l d budget).ran.number (run_of fixed l d budget).ran.address → ⊥
      by (unread is away) = away there
      by (unwritten is away) = let z : ◌≡◌ {A = ℕ} 5 6 = sym five ∙ is in omega arith
      by (silent no_read no_write) = no_read five

  -- 6 gives a byte that does not lie in data
  pub six_outside : (run_of fixed l d budget).ran.number ≡ 6 → Writable d 1 (run_of fixed l d budget).ran.address → ⊥
  six_outside six there = by run_apart
    where
      by : Apart fixed.constants d (run_of fixed l d budget).ran.number (run_of fixed l d budget).ran.address → ⊥
      by (unread is away) = let z : ◌≡◌ {A = ℕ} 6 5 = sym six ∙ is in omega arith
      by (unwritten is away) = away there
      by (silent no_read no_write) = no_write six
