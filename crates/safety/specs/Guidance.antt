-- Where accepted code may be led: the words of the promise that it never meets an unknown or cut-off instruction. Assumes nothing.
use Rattle.std.specs.Prelude.{◌≡◌, Bool, true, false, List, ℕ, zero, suc, ◌+◌, ◌-◌}
use Rattle.machine.specs.declared.registers.Machine.{Machine}
use Rattle.grammar.specs.Decoding.{decode_of}
use Rattle.grammar.specs.Answers.{Found}
use Rattle.std.specs.Prelude.{Ok, Err}
use Rattle.grammar.specs.declared.instruction.Fault.{Fault}
use Rattle.blockcheck.specs.Blocks.{code_base}
use Rattle.blockcheck.specs.Starts.{Start}
use Rattle.plan.specs.Plans.{plan_of}
use Rattle.effect.specs.Ways.{indirect}
use Rattle.run.specs.Steps.{Fixed, next, home, inside, step_of}

-- an address is a start's, the ending address (home) or outside the code
pub data Landed (code : List ℕ) (a : ℕ) : Type 0 where
  at_start : {s : ℕ} → Start code s → a ≡ code_base + s → Landed code a
  at_home : a ≡ home → Landed code a
  outside : inside code a ≡ false → Landed code a

-- what is found is a return, or a jump or call through a register or memory
unfoldable pub indirect_found : Found → Machine → Bool
indirect_found (Ok d) m = indirect (plan_of m.eip d).operation
indirect_found (Err Fault.Cut) m = false
indirect_found (Err Fault.Unknown) m = false

-- the instruction at EIP is one of these
unfoldable pub indirect_at : List ℕ → Machine → Bool
indirect_at code m = indirect_found (decode_of code (m.eip - code_base)) m

-- of the first b steps, each return and each jump or call through a register or memory lands on a start, at the ending address or outside the code
unfoldable pub Guided : Fixed → ℕ → Machine → List ℕ → Type 0
Guided fixed zero m d = Unit
Guided fixed (suc b) m d =
    (m' : Machine) (d' : List ℕ) → step_of fixed m d ≡ next m' d'
    → (indirect_at fixed.code m ≡ true → Landed fixed.code m'.eip) × Guided fixed b m' d'

-- a number that comes back is neither 3 (cut) nor 4 (no such instruction)
pub record Readable (number : ℕ) : Type 0 where
  pub not_cut : number ≡ 3 → ⊥
  pub not_unknown : number ≡ 4 → ⊥
