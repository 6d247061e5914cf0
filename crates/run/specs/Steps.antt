-- One step: the tests for 1 to 7 in their order, and what a step that finishes does. Assumes nothing.
use Rattle.std.specs.Prelude.{◌≡◌, Bool, ◌&&◌, List, ℕ, ◌+◌, ◌-◌, length, if◌then◌else◌, nat_le, nat_lt, ◌==◌, Result, Ok, Err}
use Rattle.machine.specs.declared.registers.Machine.{Machine}
use Rattle.grammar.specs.Decoding.{decode_of}
use Rattle.grammar.specs.Answers.{Found}
use Rattle.grammar.specs.declared.instruction.Fault.{Fault}
use Rattle.blockcheck.specs.Blocks.{code_base}
use Rattle.plan.specs.Plans.{plan_of}
use Rattle.effect.specs.Stops.{number_of, address_of}
use Rattle.run.specs.declared.step.Stopped.{Stopped}
pub use Rattle.effect.specs.Performing.{Moved, next, stop}
unfoldable pub use Rattle.effect.specs.Performing.{stored, committed, finished, loaded, performed, operand_address, planned}

-- what all steps of a run share, lent and never written: the code and the constants
pub record Fixed : Type 0 where
  pub code : List ℕ
  pub constants : List ℕ

-- the same by its parts
abbrev pub fixed_to : List ℕ → List ℕ → Fixed
fixed_to code constants = record { code = code; constants = constants }

-- a block that returns here has ended
unfoldable pub home : ℕ
home = 0xFFFF_0000

-- an address inside the code
unfoldable pub inside : List ℕ → ℕ → Bool
inside code a = nat_le code_base a && nat_lt a (code_base + length code)

-- 3: cut; 4: no such instruction
unfoldable pub executed : Fixed → Found → Machine → List ℕ → Moved
executed fixed (Ok i) m d = planned fixed.constants (plan_of m.eip i) m d
executed fixed (Err Fault.Cut) m d = stop 3 m.eip
executed fixed (Err Fault.Unknown) m d = stop 4 m.eip

-- 1: EIP is home; 2: EIP outside the code
unfoldable pub step_of : Fixed → Machine → List ℕ → Moved
step_of fixed m d =
    if m.eip == home then stop 1 m.eip
    else (if inside fixed.code m.eip then executed fixed (decode_of fixed.code (m.eip - code_base)) m d else stop 2 m.eip)

-- r and the data after are what the step comes to: the next machine and data, or the number and the address of a stop with machine and data as they were
abbrev pub Steps : Moved → Machine → List ℕ → Result Machine Stopped → List ℕ → Type 0
Steps moved m d (Ok m') after = moved ≡ next m' after
Steps moved m d (Err s) after = (moved ≡ stop (number_of s.stop) (address_of s.stop m.eip)) × (s.machine ≡ m) × (after ≡ d)
