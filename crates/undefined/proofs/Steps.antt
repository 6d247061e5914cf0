-- No step depends on a flag that 003 leaves undefined after it, and such a flag comes out clear. Assumes nothing.
use mathlib.Core.Path.{◌≡◌, refl, sym, ap, ◌∙◌}
use mathlib.Core.List.{List, []}
use Prim.Native.Nat.{ℕ, ◌-◌}
use lib.Dec.{eqb}
use Rattle.flags.specs.declared.Flags.{Flags}
use Rattle.flags.specs.Undefined.{Flag, without, DifferOnlyIn}
use Rattle.machine.specs.declared.registers.Machine.{Machine}
use Rattle.machine.specs.Registers.{with_flags}
use Rattle.grammar.specs.Decoding.{decode_of}
use Rattle.grammar.specs.Answers.{Found}
use Rattle.std.specs.Prelude.{Ok, Err}
use Rattle.grammar.specs.declared.instruction.Fault.{Fault}
use Rattle.blockcheck.specs.Blocks.{code_base}
use Rattle.sense.specs.declared.Arithmetic.{Arithmetic}
use Rattle.sense.specs.declared.Operation.{Operation}
use Rattle.plan.specs.declared.Plan.{Plan}
use Rattle.plan.specs.Addresses.{effective_address}
use Rattle.plan.specs.Plans.{plan_of}
use Rattle.effect.specs.Outcomes.{Reads, Nothing, One, Two}
use Rattle.effect.specs.Arithmetic.{arithmetic_address, arithmetic_reads}
use Rattle.effect.specs.All.{address_by, reads_by, effect_by}
use Rattle.effect.proofs.Choosing.{chosen_both}
use Rattle.run.specs.Steps.{Fixed, Moved, next, stop, home, inside, committed, finished, performed, operand_address, planned, executed, step_of}
use Rattle.run.proofs.Reading.{First, performed_both}
use Rattle.undefined.specs.Undefined.{arithmetic_undefined, undefined_by, given, first_read, plan_undefined, found_undefined, step_undefined, Alike}
use Rattle.undefined.proofs.Unflagged.{address_same, operand_same}
use Rattle.undefined.proofs.Effects.{Settled, moves, stops, comes_to, comes_settled}

-- what the first read gives
first_given : (constants d : List ℕ) (reads : Reads) (r : ℕ) → First constants d reads r → first_read constants reads d ≡ r
unfolding given first_read
first_given constants d Nothing r is = sym is
first_given constants d (One w b) r is = ap given is
first_given constants d (Two w b c) r is = ap given is

-- the parts of the step of a plan whose operation computes
module _ (constants : List ℕ) (p : Plan) (m : Machine) (d : List ℕ) (op : Arithmetic) (e : p.operation ≡ Operation.Arithmetic op) where
  -- where its operand in memory is
  abbrev at : ℕ
  at = arithmetic_address op m p (effective_address m p.address)

  address_is : operand_address p m ≡ at
  unfolding address_by operand_address
  address_is = ap (λ o. address_by o m p (effective_address m p.address)) e

  reads_are : (a : ℕ) → reads_by p.operation m p a ≡ arithmetic_reads p a
  unfolding reads_by
  reads_are a = ap (λ o. reads_by o m p a) e

  undefined_are : plan_undefined constants p m d ≡ arithmetic_undefined op m p (first_read constants (arithmetic_reads p at) d)
  unfolding undefined_by plan_undefined
  undefined_are = rw (address_is, reads_are at) (ap (λ o. undefined_by o m p (first_read constants (arithmetic_reads p at) d)) e)

  planned_is : planned constants p m d ≡ performed constants (arithmetic_reads p at) p m at d
  unfolding planned
  planned_is = rw (address_is, reads_are at)

  finished_is : (a r s : ℕ) → finished p m a d r s ≡ comes_to op m p a d r
  unfolding effect_by finished comes_to
  finished_is a r s = ap (λ o. committed (effect_by o m p a r s).outcome (effect_by o m p a r s) m d) e

-- an operation that leaves no flag undefined
none_left : (constants : List ℕ) (p : Plan) (m : Machine) (d : List ℕ) (o : Operation) → p.operation ≡ o → ((r : ℕ) → undefined_by o m p r ≡ []) → plan_undefined constants p m d ≡ []
unfolding plan_undefined
none_left constants p m d o e none =
    let r = first_read constants (reads_by p.operation m p (operand_address p m)) d in ap (λ x. undefined_by x m p r) e ∙ none r

-- where no flag is left undefined
none_settled : (v : Moved) → Settled [] v v
unfolding without
none_settled (next m d) = moves refl
none_settled (stop n a) = stops

module _ (constants : List ℕ) (p : Plan) (m : Machine) (g : Flags) (d : List ℕ) where
  -- an operation that computes
  computed : (op : Arithmetic) → p.operation ≡ Operation.Arithmetic op → DifferOnlyIn (plan_undefined constants p m d) m.flags g
      → Settled (plan_undefined constants p m d) (planned constants p m d) (planned constants p (with_flags m g) d)
  computed op e h =
      let a = arithmetic_address op m p (effective_address m p.address) in
      let us = arithmetic_undefined op m p (first_read constants (arithmetic_reads p a) d) in
      let known : DifferOnlyIn us m.flags g = rw (undefined_are constants p m d op e) at h in
      rw (undefined_are constants p m d op e, planned_is constants p (with_flags m g) d op e, planned_is constants p m d op e, address_same m g p.address, operand_same op m g p (effective_address m p.address))
      (performed_both (Settled us) constants d (λ w b c is. stops) (arithmetic_reads p a) p m (with_flags m g) a
      (λ r s first. let is = first_given constants d (arithmetic_reads p a) r first in
      rw (finished_is constants p (with_flags m g) d op e a r s, finished_is constants p m d op e a r s, is) (comes_settled m g p a d op r (rw is at known))))

  -- one that leaves no flag undefined
  unflagged : plan_undefined constants p m d ≡ [] → DifferOnlyIn (plan_undefined constants p m d) m.flags g
      → Settled (plan_undefined constants p m d) (planned constants p m d) (planned constants p (with_flags m g) d)
  unfolding with_flags without DifferOnlyIn
  unflagged none h = let same : m.flags ≡ g = rw none at h in rw (none, ← same) (none_settled (planned constants p m d))

  -- any operation
  planned_settled : (o : Operation) → p.operation ≡ o → DifferOnlyIn (plan_undefined constants p m d) m.flags g
      → Settled (plan_undefined constants p m d) (planned constants p m d) (planned constants p (with_flags m g) d)
  unfolding undefined_by
  planned_settled (Operation.Arithmetic op) e h = computed op e h
  planned_settled (Operation.Move op) e h = unflagged (none_left constants p m d _ e (λ r. refl)) h
  planned_settled (Operation.Flagging op) e h = unflagged (none_left constants p m d _ e (λ r. refl)) h
  planned_settled (Operation.Stack op) e h = unflagged (none_left constants p m d _ e (λ r. refl)) h
  planned_settled (Operation.Branch op) e h = unflagged (none_left constants p m d _ e (λ r. refl)) h
  planned_settled (Operation.Strings op) e h = unflagged (none_left constants p m d _ e (λ r. refl)) h
  planned_settled Operation.MoveSingle e h = unflagged (none_left constants p m d _ e (λ r. refl)) h
  planned_settled (Operation.ComputeSingle op) e h = unflagged (none_left constants p m d _ e (λ r. refl)) h
  planned_settled Operation.CompareSingle e h = unflagged (none_left constants p m d _ e (λ r. refl)) h

-- what is found at EIP
executed_settled : (fixed : Fixed) (f : Found) (m : Machine) (g : Flags) (d : List ℕ) → DifferOnlyIn (found_undefined fixed f m d) m.flags g
    → Settled (found_undefined fixed f m d) (executed fixed f m d) (executed fixed f (with_flags m g) d)
unfolding with_flags found_undefined executed
executed_settled fixed (Ok i) m g d h = planned_settled fixed.constants (plan_of m.eip i) m g d _ refl h
executed_settled fixed (Err Fault.Cut) m g d h = stops
executed_settled fixed (Err Fault.Unknown) m g d h = stops

-- the machine with the other's flags
with_others : (m m' : Machine) → m'.regs ≡ m.regs → m'.xmm ≡ m.xmm → m'.eip ≡ m.eip → m' ≡ with_flags m m'.flags
unfolding with_flags
with_others m m' regs xmm eip = rw (sym regs, sym xmm, sym eip)

-- a step of two machines that differ only in flags that 003 leaves undefined after it
step_settled : (fixed : Fixed) (m m' : Machine) (d : List ℕ) → Alike (step_undefined fixed m d) m m'
    → Settled (step_undefined fixed m d) (step_of fixed m d) (step_of fixed m' d)
unfolding with_flags step_undefined step_of
step_settled fixed m m' d h =
    let us = step_undefined fixed m d in
    rw (with_others m m' h.regs h.xmm h.eip)
    (chosen_both (Settled us) (eqb m.eip home) stops
    (chosen_both (Settled us) (inside fixed.code m.eip) (executed_settled fixed (decode_of fixed.code (m.eip - code_base)) m m'.flags d h.flags) stops))

-- it comes to the same, flags and all
pub step_regardless : (fixed : Fixed) (m m' : Machine) (d : List ℕ) → Alike (step_undefined fixed m d) m m'
    → step_of fixed m' d ≡ step_of fixed m d
step_regardless fixed m m' d h = same (step_settled fixed m m' d h)
  where
    same : {us : List Flag} {v v' : Moved} → Settled us v v' → v' ≡ v
    same (moves h) = refl
    same stops = refl

-- after a step that goes on, the flags that 003 leaves undefined are clear
pub step_clears : (fixed : Fixed) (m m' : Machine) (d d' : List ℕ) → step_of fixed m d ≡ next m' d'
    → without (step_undefined fixed m d) m'.flags ≡ m'.flags
unfolding DifferOnlyIn
step_clears fixed m m' d d' goes =
    clear (rw goes at (step_settled fixed m m d (record { regs = refl; xmm = refl; eip = refl; flags = refl })))
  where
    clear : {us : List Flag} {v : Moved} → Settled us (next m' d') v → without us m'.flags ≡ m'.flags
    clear (moves h) = h
