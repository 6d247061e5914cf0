-- MOVS, STOS and LODS repeated: where they stand, and how far a repetition has come. Assumes nothing.
use Rattle.std.specs.Prelude.{◌≡◌, false, List, ℕ, zero, suc, ◌-◌, length}
use Rattle.machine.specs.declared.registers.Machine.{Machine}
use Rattle.machine.specs.Registers.{register}
use Rattle.grammar.specs.declared.rule.Repeat.{Repeat}
use Rattle.grammar.specs.declared.instruction.Decoded.{Decoded}
use Rattle.std.specs.Prelude.{Ok}
use Rattle.grammar.specs.Decoding.{decode_of}
use Rattle.blockcheck.specs.Blocks.{code_base}
use Rattle.sense.specs.declared.Strings.{Strings}
use Rattle.sense.specs.declared.Operation.{Operation}
use Rattle.plan.specs.Plans.{plan_of}
use Rattle.effect.specs.Branches.{ecx}
use Rattle.effect.specs.Strings.{compares}
use Rattle.run.specs.Steps.{Fixed, next, step_of}
use Rattle.run.specs.Standing.{InCode}

-- so many steps, none of which stops, lead from a machine and data to others
pub data After (fixed : Fixed) : ℕ → Machine → List ℕ → Machine → List ℕ → Type 0 where
  here : {m : Machine} {d : List ℕ} → After fixed 0 m d m d
  on : {k : ℕ} {m m₁ m₂ : Machine} {d d₁ d₂ : List ℕ} → step_of fixed m d ≡ next m₁ d₁ → After fixed k m₁ d₁ m₂ d₂
      → After fixed (suc k) m d m₂ d₂

-- EIP is at MOVS, STOS or LODS under F3, in a machine of eight registers
pub record Repeating (fixed : Fixed) (i : Decoded) (op : Strings) (m : Machine) : Type 0 where
  pub place : InCode fixed.code m
  pub found : decode_of fixed.code (m.eip - code_base) ≡ Ok i
  pub operation : (plan_of m.eip i).operation ≡ Operation.Strings op
  pub plain : compares op ≡ false
  pub prefix : (plan_of m.eip i).repeat ≡ Repeat.F3
  pub eight : length m.regs ≡ 8

-- the repetition goes on: EIP is still at the instruction, with ECX = n
pub record Left (fixed : Fixed) (i : Decoded) (op : Strings) (m m' : Machine) (n : ℕ) : Type 0 where
  pub again : Repeating fixed i op m'
  pub place : m'.eip ≡ m.eip
  pub count : register m' ecx ≡ n

-- the repetition is over: EIP is at the next instruction, with ECX 0
pub record Over (i : Decoded) (m m' : Machine) : Type 0 where
  pub place : m'.eip ≡ (plan_of m.eip i).next
  pub count : register m' ecx ≡ 0

-- the steps that a repetition from ECX = n takes: n, or 1 where n is 0
unfoldable pub steps_for : ℕ → ℕ
steps_for zero = 1
steps_for (suc n) = suc n
