-- MOVS, STOS or LODS repeated from ECX = n and not stopped takes n steps, or 1 where n is 0. Assumes nothing.
use mathlib.Core.Path.{◌≡◌, refl, sym, ap, ◌∙◌}
use mathlib.Core.Logic.{◌↔◌, ⊎_elim}
use mathlib.Core.Bool.{cond}
use mathlib.Core.List.{List}
use Prim.Native.Nat.{ℕ, zero, suc, ◌+◌, ◌-◌, ◌<◌, ◌≤◌, ◌^◌}
use native.Mathlib.Omega.{arith}
use native.Mathlib.Nat.{eq-or-lt_of_le}
use lib.Dec.{eqb}
use lib.ListN.{length}
use borrow.Author.Tests.{ne_eqb}
use Rattle.width.specs.Sizes.{bits, modulus}
use Rattle.width.specs.Numbers.{residue, rest}
use Rattle.machine.specs.declared.registers.Machine.{Machine}
use Rattle.machine.specs.Registers.{register, with_eip, with_xmm}
use Rattle.grammar.specs.declared.instruction.Decoded.{Decoded}
use Rattle.grammar.proofs.Answered.{found_standing}
use Rattle.grammar.proofs.Eleven.{found_eleven}
use Rattle.blockcheck.specs.Blocks.{code_base}
use Rattle.sense.specs.declared.Strings.{Strings}
use Rattle.sense.specs.declared.Operation.{Operation}
use Rattle.plan.specs.declared.Plan.{Plan}
use Rattle.plan.specs.Plans.{next_of, plan_for, plan_of}
use Rattle.effect.specs.Outcomes.{Effect, Nothing}
use Rattle.effect.specs.Words.{becomes, onward}
use Rattle.effect.specs.Branches.{ecx}
use Rattle.effect.specs.Strings.{idle, string_reads, string_effect}
use Rattle.effect.specs.All.{reads_by, effect_by}
use Rattle.effect.proofs.Repeats.{none_left, counts, as_many, goes_on}
use Rattle.run.specs.Steps.{Fixed, next, committed, finished, performed, operand_address, planned, executed, step_of}
use Rattle.run.specs.Runs.{on_moved, run_from}
use Rattle.run.proofs.Planned.{planned_goes}
use Rattle.run.specs.Repetitions.{After, here, on, Repeating, Left, Over, steps_for}
use Rattle.run.proofs.Unreadable.{step_found}

-- a run with them in its budget has done them, and goes on from there
pub runs_on : {fixed : Fixed} {k : ℕ} {m m' : Machine} {d d' : List ℕ} → After fixed k m d m' d' → (b done : ℕ)
    → run_from fixed (k + b) m d done ≡ run_from fixed b m' d' (k + done)
unfolding run_from on_moved
runs_on here b done =
    let budget : 0 + b ≡ b = omega arith in
    let count : 0 + done ≡ done = omega arith in
    rw (budget, count)
runs_on {k = suc k} (on e more) b done =
    let budget : suc k + b ≡ suc (k + b) = omega arith in
    let count : suc k + done ≡ k + suc done = omega arith in
    rw (budget, e, count) (runs_on more b (suc done))

-- the plans of an instruction at one EIP are equal
pub same_plan : (m m' : Machine) (i : Decoded) → m'.eip ≡ m.eip → plan_of m'.eip i ≡ plan_of m.eip i
same_plan m m' i h = rw h

-- what a round that leaves ECX = n does: EIP moves on if ECX is now 0, else it stays
pub record Round (i : Decoded) (m m' : Machine) (n : ℕ) : Type 0 where
  pub count : register m' ecx ≡ n
  pub many : length m'.regs ≡ 8
  pub place : m'.eip ≡ cond (eqb n 0) (plan_of m.eip i).next m.eip

module _ {fixed : Fixed} {i : Decoded} {op : Strings} {m : Machine} (at : Repeating fixed i op m) where
  -- a machine with the same EIP is at the instruction too
  still : {m' : Machine} → m'.eip ≡ m.eip → length m'.regs ≡ 8 → Repeating fixed i op m'
  still {m'} place eight =
      record {
        place =
            record {
              away = λ e. at.place.away (sym place ∙ e);
              low = rw place at.place.low;
              high = rw place at.place.high;
            };
        found = rw place at.found;
        operation = rw place at.operation;
        plain = at.plain;
        prefix = rw place at.prefix;
        eight = eight;
      }

  -- the next instruction is at another place
  pub next_elsewhere : (plan_of m.eip i).next ≡ m.eip → ⊥
  unfolding plan_of plan_for next_of rest residue modulus bits
  next_elsewhere e =
      let some = (found_standing fixed.code (m.eip - code_base) i at.found).some in
      let few = found_eleven fixed.code (m.eip - code_base) i at.found in
      omega arith

  -- the effect is that of the string operation
  is_effect : (a r s : ℕ) → effect_by (plan_of m.eip i).operation m (plan_of m.eip i) a r s ≡ string_effect op m (plan_of m.eip i) r s
  unfolding effect_by
  is_effect a r s = ap (λ (o : Operation). effect_by o m (plan_of m.eip i) a r s) at.operation

  -- with ECX 0 nothing is read
  reads_nothing : (a : ℕ) → register m ecx ≡ 0 → reads_by (plan_of m.eip i).operation m (plan_of m.eip i) a ≡ Nothing
  unfolding reads_by string_reads idle
  reads_nothing a none =
      ap (λ (o : Operation). reads_by o m (plan_of m.eip i) a) at.operation ∙ simp (at.prefix, none)

  module _ (d : List ℕ) where
    -- the step is that of the plan
    is_planned : step_of fixed m d ≡ planned fixed.constants (plan_of m.eip i) m d
    unfolding executed
    is_planned = step_found fixed m d at.place ∙ rw at.found

    -- if ECX is 0, one step that only moves EIP on
    pub only_moves_on : register m ecx ≡ 0 → step_of fixed m d ≡ next (with_eip m (plan_of m.eip i).next) d
    unfolding planned performed finished committed becomes onward
    only_moves_on none =
        let p = plan_of m.eip i in
        let a = operand_address p m in
        is_planned ∙ rw (reads_nothing a none, is_effect a 0 0 ∙ none_left op m p 0 0 at.prefix none)

    -- otherwise a step that is not stopped does one round, ECX less 1
    pub one_round : {n : ℕ} {m' : Machine} {d' : List ℕ} → register m ecx ≡ suc n → register m ecx < 2 ^ 32
        → step_of fixed m d ≡ next m' d' → Round i m m' n
    unfolding register with_xmm
    one_round {n} count bound e =
        let p = plan_of m.eip i in
        let done = planned_goes fixed.constants p m d (sym is_planned ∙ e) in
        let r = done.r in
        let s = done.s in
        let is = done.is ∙ ap (λ (x : Effect). with_xmm x.machine done.xmm) (is_effect _ r s) in
        record {
          count = ap (λ (x : Machine). register x ecx) is ∙ counts op m p r s at.prefix n count bound at.eight;
          many = ap (λ (x : Machine). length x.regs) is ∙ as_many op m p r s at.prefix n count bound ∙ at.eight;
          place = ap (λ (x : Machine). x.eip) is ∙ goes_on op m p r s at.prefix n count bound at.plain;
        }

    -- one that is not the last leaves EIP at the instruction
    not_last : {m' : Machine} {d' : List ℕ} (n : ℕ) → register m ecx ≡ suc (suc n) → register m ecx < 2 ^ 32
        → step_of fixed m d ≡ next m' d' → Left fixed i op m m' (suc n)
    not_last n count bound e =
        let round = one_round count bound e in
        let place = rw (ne_eqb (suc n) 0 (λ z. omega arith)) at round.place in
        record { again = still place round.many; place = place; count = round.count }

module _ {fixed : Fixed} {i : Decoded} {op : Strings} where
  -- after k steps, fewer than n, from ECX = n
  rounds_left : {m m' : Machine} {d d' : List ℕ} {n k : ℕ} → Repeating fixed i op m → register m ecx ≡ n → n < 2 ^ 32
      → After fixed k m d m' d' → k < n → Left fixed i op m m' (n - k)
  rounds_left at count bound here h = record { again = at; place = refl; count = omega arith }
  rounds_left {d} {n} {k = suc k} at count bound (on e more) h =
      let one = not_last at d (n - 2) (omega arith) (omega arith) e in
      let later = rounds_left {n = n - 1} one.again (omega (arith, one.count)) (omega arith) more (omega arith) in
      record { again = later.again; place = later.place ∙ one.place; count = omega (arith, later.count) }

  -- after as many steps as ECX says, at least one
  rounds_over : {m m' : Machine} {d d' : List ℕ} {n : ℕ} → Repeating fixed i op m → register m ecx ≡ suc n → suc n < 2 ^ 32
      → After fixed (suc n) m d m' d' → Over i m m'
  rounds_over {d} at count bound (on e here) =
      let round = one_round at d count (omega arith) e in
      record { place = round.place; count = round.count }
  rounds_over {m} {d} {n = suc n} at count bound (on {m₁} e (on f more)) =
      let one = not_last at d n count (omega arith) e in
      let later = rounds_over one.again one.count (omega arith) (on f more) in
      record { place = later.place ∙ ap (λ (p : Plan). p.next) (same_plan m m₁ i one.place); count = later.count }

  -- after k of the steps for ECX = n, and not yet all, EIP is still at the instruction, with ECX = n - k
  pub stays_before : {m m' : Machine} {d d' : List ℕ} (n : ℕ) {k : ℕ} → Repeating fixed i op m → register m ecx ≡ n → n < 2 ^ 32
      → After fixed k m d m' d' → k < steps_for n → Left fixed i op m m' (n - k)
  unfolding steps_for
  stays_before zero at count bound here h = record { again = at; place = refl; count = count }
  stays_before zero at count bound (on e more) h = absurd (omega arith)
  stays_before (suc n) at count bound steps h = rounds_left at count bound steps h

  -- after them all the repetition is over
  pub over_after : {m m' : Machine} {d d' : List ℕ} (n : ℕ) → Repeating fixed i op m → register m ecx ≡ n → n < 2 ^ 32
      → After fixed (steps_for n) m d m' d' → Over i m m'
  unfolding steps_for register with_eip
  over_after {m} {m'} {d} zero at count bound (on e here) =
      let moved = only_moves_on at d count in
      let is : m' ≡ with_eip m (plan_of m.eip i).next = cc in
      record { place = ap (λ (x : Machine). x.eip) is; count = ap (λ (x : Machine). register x ecx) is ∙ count }
  over_after (suc n) at count bound steps = rounds_over at count bound steps

  -- so exactly these steps are taken at the instruction: up to them all, EIP is there exactly before the last is done
  pub exactly_steps : {m m' : Machine} {d d' : List ℕ} (n : ℕ) {k : ℕ} → Repeating fixed i op m → register m ecx ≡ n → n < 2 ^ 32
      → After fixed k m d m' d' → k ≤ steps_for n → (m'.eip ≡ m.eip) ↔ (k < steps_for n)
  exactly_steps n at count bound steps within = (
    λ still_there. ⊎_elim
        (λ all. absurd (next_elsewhere at (sym (over_after n at count bound (rw all at steps)).place ∙ still_there)))
        (λ fewer. fewer)
        (eq-or-lt_of_le within),
    λ fewer. (stays_before n at count bound steps fewer).place,
  )
