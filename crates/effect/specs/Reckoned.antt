-- What an operation computes, as the code holds it: a value only where it is assigned. Assumes nothing.
use Rattle.std.specs.Prelude.{◌≡◌, ℕ, Option, Some, None, Result, Ok, Err, if◌then◌else◌}
use Rattle.machine.specs.declared.registers.Machine.{Machine}
use Rattle.machine.specs.Registers.{with_flags}
use Rattle.plan.specs.declared.Plan.{Plan}
use Rattle.effect.specs.Outcomes.{Effect, Computed}
use Rattle.effect.specs.Words.{becomes, faults, onward, assign}
use Rattle.effect.specs.declared.stop.Stop.{Stop}
use Rattle.effect.specs.declared.stop.Stop.TheVariants.{Divide}
use Rattle.effect.specs.declared.arithmetic.Reckoned.{Reckoned}

abbrev pub reckoned_as : Computed → Reckoned
reckoned_as c = record { flags = c.flags; value = if c.assigned then Some c.value else None }

-- DEST ← the value, where there is one, and the flags
unfoldable pub settled_with : Option ℕ → Reckoned → Machine → Plan → ℕ → Effect
settled_with (Some v) c m p a = assign p.destination a (with_flags (onward m p) c.flags) p.size v
settled_with None c m p a = becomes (with_flags (onward m p) c.flags)

unfoldable pub settled_by : Reckoned → Machine → Plan → ℕ → Effect
settled_by c m p a = settled_with c.value c m p a

-- the machine is the next one, or it is a divide error and stays
abbrev pub Comes : {A : Type 0} → Effect → Machine → Result A Stop → Machine → Type 0
Comes e old (Ok u) new = e ≡ becomes new
Comes e old (Err s) new = (s ≡ Divide) × (e ≡ faults old) × (new ≡ old)
