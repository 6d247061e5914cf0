-- What a step at EIP comes to, by what stands there; no site is kept at first. Assumes nothing.
use Rattle.std.proofs.Common.{◌≡◌, ◌==◌, refl, ℕ, suc, zero, List, ◌-◌, Bool, true, false, cond, Ok, Err, Option, None, slice_index_or}
use lib.ListN.{replicate}
use Rattle.machine.specs.declared.registers.Machine.{Machine}
use Rattle.grammar.specs.Answers.{Found}
use Rattle.grammar.specs.declared.instruction.Fault.{Fault}
use Rattle.grammar.specs.Decoding.{decode_of}
use Rattle.blockcheck.specs.Blocks.{code_base}
use Rattle.effect.specs.declared.stop.Stop.TheVariants.{Home, OutsideCode}
use Rattle.run.specs.declared.site.Site.{Site}
use Rattle.run.specs.Steps.{fixed_to, stop, executed, step_of, home, inside}
use Rattle.run.specs.Sites.{plan_in, site_of, stepped, IsOf, Keeps}

found_is : (code constants : List ℕ) (f : Found) (m : Machine) (d : List ℕ)
    → executed (fixed_to code constants) f m d ≡ stepped (plan_in f m.eip) constants m d
unfolding executed plan_in stepped
found_is code constants (Ok i) m d = refl
found_is code constants (Err Fault.Cut) m d = refl
found_is code constants (Err Fault.Unknown) m d = refl

pub step_is : (code constants : List ℕ) (m : Machine) (d : List ℕ)
    → step_of (fixed_to code constants) m d ≡ stepped (site_of code m.eip) constants m d
unfolding step_of site_of stepped
step_is code constants m d = by (m.eip == home) (inside code m.eip) (decode_of code (m.eip - code_base))
  where
    by : (x y : Bool) (f : Found)
        → cond x (stop 1 m.eip) (cond y (executed (fixed_to code constants) f m d) (stop 2 m.eip))
        ≡ stepped (cond x (Err Home) (cond y (plan_in f m.eip) (Err OutsideCode))) constants m d
    by true y f = refl
    by false true f = found_is code constants f m d
    by false false f = refl

-- no site is kept at first
none_at : (code : List ℕ) (n k : ℕ) → IsOf code (slice_index_or (replicate {A = Option Site} n None) k None)
none_at code zero k = tt
none_at code (suc n) zero = tt
none_at code (suc n) (suc k) = none_at code n k

pub none_kept : (code : List ℕ) → Keeps code (replicate {A = Option Site} 64 None)
none_kept code = record { each = none_at code 64 }
