-- What a step in place does, beside what the rules say that it comes to. Assumes nothing.
use Rattle.std.specs.Prelude.{◌≡◌, List, ℕ, Result, Ok, Err}
use Rattle.machine.specs.declared.registers.Machine.{Machine}
use Rattle.machine.specs.Memory.{Loaded, Value, Stored, Done, load_of, stored_of, store_of}
use Rattle.width.specs.declared.Size.{Size}
use Rattle.sense.specs.declared.Operation.{Operation}
use Rattle.plan.specs.declared.Operand.{Operand}
use Rattle.plan.specs.declared.Plan.{Plan}
use Rattle.effect.specs.All.{address_by, reads_by, effect_by}
use Rattle.effect.specs.Outcomes.{Effect, Reads, Nothing, One, Two}
use Rattle.effect.specs.Performing.{Moved, next, stop, committed}
use Rattle.machine.specs.declared.memory.Memory.{Memory}
use Rattle.machine.specs.declared.memory.Outside.{Outside}
use Rattle.effect.specs.declared.stop.Stop.{Stop}
use Rattle.effect.specs.Stops.{number_of, address_of}

-- the machine and the data are those that it comes to; or all is as it was, and it comes to a stop with that number and address
abbrev pub Does : {A : Type 0} → Moved → Machine → List ℕ → Result A Stop → Machine → List ℕ → Type 0
Does moved old area (Ok u) new after = moved ≡ next new after
Does moved old area (Err e) new after = (moved ≡ stop (number_of e) (address_of e old.eip)) × (new ≡ old) × (after ≡ area)

-- what the reads of an instruction give: two numbers, 0 where there is none; or the first address outside
pub data Got : Type 0 where
  got : ℕ → ℕ → Got
  astray : ℕ → Got

abbrev pub first_got : Loaded → Got
first_got (Value r) = got r 0
first_got (Loaded.Outside b) = astray b

abbrev pub second_got : ℕ → Loaded → Got
second_got r (Value s) = got r s
second_got r (Loaded.Outside b) = astray b

abbrev pub both_got : Loaded → Loaded → Got
both_got (Value r) second = second_got r second
both_got (Loaded.Outside b) second = astray b

unfoldable pub got_of : List ℕ → List ℕ → Reads → Got
got_of constants d Nothing = got 0 0
got_of constants d (One w a) = first_got (load_of constants d w a)
got_of constants d (Two w a b) = both_got (load_of constants d w a) (load_of constants d w b)

-- an effect done: its write, or its single, or a divide error
unfoldable pub done : Effect → Machine → List ℕ → Moved
done e m d = committed e.outcome e m d

-- the effect of what was read
unfoldable pub did : Got → (ℕ → ℕ → Effect) → Machine → List ℕ → Moved
did (got r s) of m d = done (of r s) m d
did (astray b) of m d = stop 5 b

-- the reads and then the effect of what was read are done, in place
abbrev pub Performs : {A : Type 0} → Reads → (ℕ → ℕ → Effect) → Machine → Memory → Result A Stop → Machine → Memory → Type 0
Performs reads of old before result new after =
    Does (did (got_of before.constants.now before.area.now reads) of old before.area.now) old before.area.now result new after.area.now

-- an effect alone is done, in place
abbrev pub Commits : {A : Type 0} → Effect → Machine → Memory → Result A Stop → Machine → Memory → Type 0
Commits e old before result new after = Does (done e old before.area.now) old before.area.now result new after.area.now

-- what a fetch answers
abbrev pub got_as : Result ℕ Outside → Got
got_as (Ok r) = got r 0
got_as (Err o) = astray o.address

-- the write to an operand: allowed or not, and the data after it
unfoldable pub wrote : Operand → List ℕ → Size → ℕ → Stored
wrote (Operand.Register i) d w a = Done
wrote Operand.Memory d w a = stored_of d w a
wrote (Operand.Number n) d w a = Done

unfoldable pub written : Operand → List ℕ → Size → ℕ → ℕ → List ℕ
written (Operand.Register i) d w a v = d
written Operand.Memory d w a v = store_of d w a v
written (Operand.Number n) d w a v = d

-- what a write and the machine after it come to
abbrev pub landed : Stored → Machine → List ℕ → Moved
landed Done m d = next m d
landed (Stored.Outside b) m d = stop 6 b

-- an operation's reads and effect, where a is the effective address
unfoldable pub executed_of : Operation → List ℕ → List ℕ → Machine → Plan → ℕ → Moved
executed_of op constants d m p a =
    did (got_of constants d (reads_by op m p (address_by op m p a))) (λ r s. effect_by op m p (address_by op m p a) r s) m d
