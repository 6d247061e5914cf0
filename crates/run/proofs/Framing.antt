-- A step of an instruction that is none of those on singles is the same whatever the singles are, and leaves them. Assumes nothing.
use mathlib.Core.Path.{◌≡◌, refl}
use mathlib.Core.Bool.{false}
use mathlib.Core.List.{List}
use Prim.Native.Nat.{ℕ, ◌-◌}
use lib.Dec.{eqb}
use Rattle.scalar.specs.declared.Xmm.{Xmm}
use Rattle.machine.specs.declared.registers.Machine.{Machine}
use Rattle.machine.specs.Memory.{Stored, Done, stored_of}
use Rattle.machine.specs.Registers.{with_xmm}
use Rattle.grammar.specs.Decoding.{decode_of}
use Rattle.grammar.specs.declared.instruction.Decoded.{Decoded}
use Rattle.grammar.specs.Answers.{Found}
use Rattle.std.specs.Prelude.{Ok, Err}
use Rattle.grammar.specs.declared.instruction.Fault.{Fault}
use Rattle.blockcheck.specs.Blocks.{code_base}
use Rattle.plan.specs.declared.Plan.{Plan}
use Rattle.plan.specs.Plans.{plan_of}
use Rattle.effect.specs.Outcomes.{Outcome, Becomes, Writes, Sets, Faults, Reads, Effect}
use Rattle.effect.specs.Framed.{framed}
use Rattle.effect.specs.Singles.{on_singles}
use Rattle.effect.specs.All.{reads_by, effect_by}
use Rattle.effect.proofs.Choosing.{chosen_both}
use Rattle.effect.proofs.Framing.{effective_framed, address_framed, reads_framed, framing, puts_none}
use Rattle.run.specs.Steps.{Fixed, stop, stored, committed, finished, performed, operand_address, planned, executed, home, inside, step_of}
use Rattle.run.specs.Beside.{Plain, beside}
use Rattle.run.proofs.Reading.{performed_both}

module _ (xmm : List Xmm) (m : Machine) (d : List ℕ) where
  -- a write
  stored_beside : (answer : Stored) (e : Effect) → stored answer (framed xmm e) d ≡ beside xmm (stored answer e d)
  unfolding stored framed beside
  stored_beside Done e = refl
  stored_beside (Stored.Outside b) e = refl

  -- an effect that puts no single
  committed_beside : (o : Outcome) (e : Effect) → (o ≡ Sets → ⊥) → committed o (framed xmm e) (with_xmm m xmm) d ≡ beside xmm (committed o e m d)
  unfolding with_xmm committed framed beside
  committed_beside Becomes e none = refl
  committed_beside Writes e none = stored_beside (stored_of d e.size e.address) e
  committed_beside Sets e none = absurd (none refl)
  committed_beside Faults e none = refl

  module _ (p : Plan) (other : on_singles p.operation ≡ false) where
    -- the effect of what was read
    finished_beside : (a r s : ℕ) → finished p (with_xmm m xmm) a d r s ≡ beside xmm (finished p m a d r s)
    unfolding finished framed
    finished_beside a r s =
        rw (framing p.operation other m xmm p a r s)
        (committed_beside (effect_by p.operation m p a r s).outcome (effect_by p.operation m p a r s) (puts_none p.operation other m p a r s))

    -- the reads, and then the effect
    performed_beside : (constants : List ℕ) (reads : Reads) (a : ℕ) → performed constants reads p (with_xmm m xmm) a d ≡ beside xmm (performed constants reads p m a d)
    unfolding beside
    performed_beside constants reads a =
        performed_both (λ v v'. v' ≡ beside xmm v) constants d (λ w b c is. refl) reads p m (with_xmm m xmm) a (λ r s first. finished_beside a r s)

    -- where the operand in memory is
    address_beside : operand_address p (with_xmm m xmm) ≡ operand_address p m
    unfolding operand_address
    address_beside = rw (effective_framed m xmm p.address) (address_framed m xmm p.operation p _)

    -- the step of the plan
    planned_beside : (constants : List ℕ) → planned constants p (with_xmm m xmm) d ≡ beside xmm (planned constants p m d)
    unfolding planned
    planned_beside constants =
        rw (address_beside, reads_framed m xmm p.operation p (operand_address p m))
        (performed_beside constants (reads_by p.operation m p (operand_address p m)) (operand_address p m))

module _ (fixed : Fixed) (xmm : List Xmm) (m : Machine) (d : List ℕ) where
  -- what is found at EIP
  executed_beside : (f : Found) → ((i : Decoded) → f ≡ Ok i → on_singles (plan_of m.eip i).operation ≡ false)
      → executed fixed f (with_xmm m xmm) d ≡ beside xmm (executed fixed f m d)
  unfolding with_xmm executed beside
  executed_beside (Ok i) plain = planned_beside xmm m d (plan_of m.eip i) (plain i refl) fixed.constants
  executed_beside (Err Fault.Cut) plain = refl
  executed_beside (Err Fault.Unknown) plain = refl

  -- the step of any other instruction does the same whatever the singles are, and leaves them as they are
  pub step_beside : Plain fixed m → step_of fixed (with_xmm m xmm) d ≡ beside xmm (step_of fixed m d)
  unfolding with_xmm step_of beside
  step_beside plain =
      chosen_both (λ v v'. v' ≡ beside xmm v) (eqb m.eip home) {x = stop 1 m.eip} refl
      (chosen_both (λ v v'. v' ≡ beside xmm v) (inside fixed.code m.eip) {y = stop 2 m.eip} (executed_beside (decode_of fixed.code (m.eip - code_base)) plain) refl)
