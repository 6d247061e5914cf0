-- What stands at EIP, by the grammar. Assumes nothing.
use Rattle.std.specs.Prelude.{◌≡◌, List, ℕ, ◌-◌, ◌<◌, ◌≤◌, length, drop}
use Rattle.machine.specs.declared.registers.Machine.{Machine}
use Rattle.grammar.specs.Answers.{Begins, Prefix}
use Rattle.blockcheck.specs.Blocks.{code_base}
use Rattle.run.specs.Steps.{home}

-- EIP is inside the code, and not home
pub record InCode (code : List ℕ) (m : Machine) : Type 0 where
  pub away : m.eip ≡ home → ⊥
  pub low : code_base ≤ m.eip
  pub high : m.eip - code_base < length code

-- the bytes from EIP to the code's end
abbrev pub from_eip : List ℕ → Machine → List ℕ
from_eip code m = drop (m.eip - code_base) code

-- what 3 at the address a means: cut
pub record IsCut (code : List ℕ) (m : Machine) (a : ℕ) : Type 0 where
  pub place : InCode code m
  pub address : a ≡ m.eip
  pub prefix : Prefix (from_eip code m)

-- what 4 at the address a means: no such instruction
pub record IsUnknown (code : List ℕ) (m : Machine) (a : ℕ) : Type 0 where
  pub place : InCode code m
  pub address : a ≡ m.eip
  pub begins_with_none : Begins (from_eip code m) → ⊥
  pub no_prefix : Prefix (from_eip code m) → ⊥
