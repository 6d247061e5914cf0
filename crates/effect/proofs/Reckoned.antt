-- What is computed, settled. Assumes nothing.
use Rattle.std.proofs.Common.{◌≡◌, refl, ℕ, Bool, true, false, cond, Some, None}
use Rattle.machine.specs.declared.registers.Machine.{Machine}
use Rattle.plan.specs.declared.Plan.{Plan}
use Rattle.effect.specs.Outcomes.{Computed}
use Rattle.machine.specs.Registers.{with_flags}
use Rattle.effect.specs.Words.{becomes, onward, assign}
use Rattle.width.specs.declared.Size.{Size}
use Rattle.flags.specs.declared.Flags.{Flags}
use Rattle.arith.specs.declared.Binary.TheVariants.{And}
use Rattle.arith.specs.Binary.{binary_flags}
use Rattle.effect.specs.Arithmetic.{settled, test}
use Rattle.effect.specs.declared.arithmetic.Reckoned.{Reckoned}
use Rattle.effect.specs.Reckoned.{reckoned_as, settled_with, settled_by}

by : (t : Bool) (v : ℕ) (r : Reckoned) (m : Machine) (p : Plan) (a : ℕ)
    → cond t (assign p.destination a (with_flags (onward m p) r.flags) p.size v) (becomes (with_flags (onward m p) r.flags))
    ≡ settled_with (cond t (Some v) None) r m p a
unfolding settled_with
by true v r m p a = refl
by false v r m p a = refl

pub done_settled : (c : Computed) (m : Machine) (p : Plan) (a : ℕ) → settled c m p a ≡ settled_by (reckoned_as c) m p a
unfolding settled settled_by
done_settled c m p a = by c.assigned c.value (reckoned_as c) m p a

-- what TEST computes
pub tested : (w : Size) (a b : ℕ) (f : Flags) → test w a b f ≡ record { flags = binary_flags And w a b f; value = 0; assigned = false }
unfolding test
tested w a b f = refl
