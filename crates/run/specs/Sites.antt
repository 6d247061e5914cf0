-- What stands at an EIP, of the code alone, and the plans that are kept of it: for the private functions that keep them; nothing here need be believed. Assumes nothing.
use Rattle.std.specs.Prelude.{◌≡◌, List, ℕ, ◌-◌, Option, Some, None, Result, Ok, Err, if◌then◌else◌, ◌==◌, slice_index_or}
use Rattle.machine.specs.declared.registers.Machine.{Machine}
use Rattle.grammar.specs.Answers.{Found}
use Rattle.grammar.specs.declared.instruction.Fault.{Fault}
use Rattle.grammar.specs.Decoding.{decode_of}
use Rattle.blockcheck.specs.Blocks.{code_base}
use Rattle.plan.specs.declared.Plan.{Plan}
use Rattle.plan.specs.Plans.{plan_of}
use Rattle.effect.specs.declared.stop.Stop.{Stop}
use Rattle.effect.specs.declared.stop.Stop.TheVariants.{Home, OutsideCode, Cut, Unknown}
use Rattle.effect.specs.Stops.{number_of, address_of}
use Rattle.run.specs.declared.site.Site.{Site}
use Rattle.run.specs.Steps.{Moved, stop, planned, home, inside}

-- the plan of an instruction that was found at EIP, or why there is none
unfoldable pub plan_in : Found → ℕ → Result Plan Stop
plan_in (Ok i) eip = Ok (plan_of eip i)
plan_in (Err Fault.Cut) eip = Err Cut
plan_in (Err Fault.Unknown) eip = Err Unknown

-- the plan at EIP, or why a step there stops
unfoldable pub site_of : List ℕ → ℕ → Result Plan Stop
site_of code eip =
    if eip == home then Err Home else (if inside code eip then plan_in (decode_of code (eip - code_base)) eip else Err OutsideCode)

-- the step of that plan, or the stop
unfoldable pub stepped : Result Plan Stop → List ℕ → Machine → List ℕ → Moved
stepped (Ok p) constants m d = planned constants p m d
stepped (Err s) constants m d = stop (number_of s) (address_of s m.eip)

-- a kept site is that of its EIP
abbrev pub IsOf : List ℕ → Option Site → Type 0
IsOf code None = Unit {0}
IsOf code (Some s) = site_of code s.eip ≡ Ok s.plan

-- so is each that is kept
pub record Keeps (code : List ℕ) (kept : List (Option Site)) : Type 0 where
  pub each : (k : ℕ) → IsOf code (slice_index_or kept k None)
