-- What a read, a load and a store answer, as the outcomes of accesses. Assumes nothing.
use Rattle.std.specs.Prelude.{◌≡◌, List, ℕ, Result, Ok, Err}
use Rattle.machine.specs.Memory.{Read, part, outside, Loaded, Value, Stored, Done}
use Rattle.machine.specs.declared.memory.Memory.{Memory}
use Rattle.machine.specs.declared.memory.Outside.{Outside}

-- what a read comes to, where `bytes` takes what it answers as bytes
abbrev pub shown : {A : Type 0} → (A → List ℕ) → Result A Outside → Read
shown bytes (Ok p) = part (bytes p)
shown bytes (Err o) = outside o.address

-- what a load comes to
abbrev pub loaded_as : Result ℕ Outside → Loaded
loaded_as (Ok v) = Value v
loaded_as (Err o) = Loaded.Outside o.address

-- what a store comes to
abbrev pub stored_as : {A : Type 0} → Result A Outside → Stored
stored_as (Ok u) = Done
stored_as (Err o) = Stored.Outside o.address

-- the same areas are lent: the constants as they were, and the data's own, whatever is in it
pub record SameAreas (old new : Memory) : Type 0 where
  pub constants : new.constants.now ≡ old.constants.now
  pub area : new.area.ghost_name ≡ old.area.ghost_name
