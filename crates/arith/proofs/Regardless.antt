-- What ADD to CMP give does not depend on a flag that 003 leaves undefined there, and it comes out clear. Assumes nothing.
use mathlib.Core.Path.{◌≡◌, refl}
use Prim.Native.Nat.{ℕ}
use Rattle.width.specs.declared.Size.{Size}
use Rattle.flags.specs.declared.Flags.{Flags}
use Rattle.flags.specs.Results.{undefined_flag, resulting}
use Rattle.flags.specs.Undefined.{cleared, without, Regardless, Settles}
use Rattle.flags.proofs.Regardless.{Aside, regardless, settles}
use Rattle.arith.specs.declared.Binary.{Binary}
use Rattle.arith.specs.declared.Binary.TheVariants.{Add, Or, Adc, Sbb, And, Sub, Xor, Cmp}
use Rattle.arith.specs.Binary.{binary_value, logic_flags, binary_flags}
use Rattle.arith.specs.Undefined.{binary_undefined}

flags_aside : (op : Binary) (w : Size) (a b : ℕ) → Aside (binary_undefined op) (binary_flags op w a b)
unfolding undefined_flag resulting cleared without Aside logic_flags binary_flags binary_undefined
flags_aside Add w a b f = (refl, refl)
flags_aside Or w a b f = (refl, refl)
flags_aside Adc w a b f = (refl, refl)
flags_aside Sbb w a b f = (refl, refl)
flags_aside And w a b f = (refl, refl)
flags_aside Sub w a b f = (refl, refl)
flags_aside Xor w a b f = (refl, refl)
flags_aside Cmp w a b f = (refl, refl)

-- the flags
pub binary_settles : (op : Binary) (w : Size) (a b : ℕ) → Settles (binary_undefined op) (binary_flags op w a b)
binary_settles op w a b = settles (binary_undefined op) (binary_flags op w a b) (flags_aside op w a b)

-- CF is never left undefined
carry_kept : (op : Binary) (f : Flags) → (without (binary_undefined op) f).cf ≡ f.cf
unfolding cleared without binary_undefined
carry_kept Add f = refl
carry_kept Or f = refl
carry_kept Adc f = refl
carry_kept Sbb f = refl
carry_kept And f = refl
carry_kept Sub f = refl
carry_kept Xor f = refl
carry_kept Cmp f = refl

-- the value
pub value_regardless : (op : Binary) (w : Size) (a b : ℕ) → Regardless (binary_undefined op) (λ (f : Flags). binary_value op w a b f.cf)
value_regardless op w a b = regardless (binary_undefined op) (λ (f : Flags). binary_value op w a b f.cf) (λ f. rw (carry_kept op f))
