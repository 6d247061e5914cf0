-- A write at a constant's address. Assumes nothing.
use mathlib.Core.Path.{◌≡◌}
use mathlib.Core.List.{List}
use Prim.Native.Nat.{ℕ, ◌≤◌}
use lib.ListN.{length}
use Rattle.machine.specs.declared.registers.Machine.{Machine}
use Rattle.machine.specs.Memory.{constants_base}
use Rattle.machine.proofs.Allowed.{constants_unwritten}
use Rattle.effect.specs.Outcomes.{Writes, Effect}
use Rattle.run.specs.Steps.{stop, stored, committed}

-- a memory destination at a constant's address gives 6, with data of a length that is not refused
pub constants_give_6 : (e : Effect) (m : Machine) (d : List ℕ) → e.outcome ≡ Writes → length d ≤ 65_536 → constants_base ≤ e.address
    → committed e.outcome e m d ≡ stop 6 e.address
unfolding committed stored
constants_give_6 e m d writes long at = rw (writes, constants_unwritten d e.size e.address long at)
