-- The step of a plan: its reads, its effect and its write, in this order. Assumes nothing.
use Rattle.std.specs.Prelude.{List, ℕ}
use Rattle.machine.specs.declared.registers.Machine.{Machine}
use Rattle.machine.specs.Registers.{with_single}
use Rattle.machine.specs.Memory.{Loaded, Value, Stored, Done, load_of, stored_of, store_of}
use Rattle.plan.specs.declared.Plan.{Plan}
use Rattle.plan.specs.Addresses.{effective_address}
use Rattle.effect.specs.Outcomes.{Outcome, Becomes, Writes, Sets, Faults, Effect, Reads, Nothing, One, Two}
use Rattle.effect.specs.All.{address_by, reads_by, effect_by}

-- what a step comes to: the next machine and data, or a number and an address, and then nothing has changed
pub data Moved : Type 0 where
  next : Machine → List ℕ → Moved
  stop : ℕ → ℕ → Moved

-- 6: the write, which comes last, is allowed or not
unfoldable pub stored : Stored → Effect → List ℕ → Moved
stored Done e d = next e.machine (store_of d e.size e.address e.value)
stored (Stored.Outside a) e d = stop 6 a

-- 7: a divide error, at EIP
unfoldable pub committed : Outcome → Effect → Machine → List ℕ → Moved
committed Becomes e m d = next e.machine d
committed Writes e m d = stored (stored_of d e.size e.address) e d
committed Sets e m d = next (with_single e.machine e.address e.value) d
committed Faults e m d = stop 7 m.eip

-- the effect of a plan with what was read, where a is where its operand in memory is
unfoldable pub finished : Plan → Machine → ℕ → List ℕ → ℕ → ℕ → Moved
finished p m a d r s = committed (effect_by p.operation m p a r s).outcome (effect_by p.operation m p a r s) m d

-- 5: a read is allowed or not
unfoldable pub loaded : Loaded → (ℕ → Moved) → Moved
loaded (Value v) go = go v
loaded (Loaded.Outside a) go = stop 5 a

-- reads come before the write, in their order
unfoldable pub performed : List ℕ → Reads → Plan → Machine → ℕ → List ℕ → Moved
performed constants Nothing p m a d = finished p m a d 0 0
performed constants (One w b) p m a d = loaded (load_of constants d w b) (λ r. finished p m a d r 0)
performed constants (Two w b c) p m a d =
    loaded (load_of constants d w b) (λ r. loaded (load_of constants d w c) (λ s. finished p m a d r s))

-- where a plan's operand in memory is
unfoldable pub operand_address : Plan → Machine → ℕ
operand_address p m = address_by p.operation m p (effective_address m p.address)

-- the step of a plan
unfoldable pub planned : List ℕ → Plan → Machine → List ℕ → Moved
planned constants p m d = let a = operand_address p m in performed constants (reads_by p.operation m p a) p m a d
