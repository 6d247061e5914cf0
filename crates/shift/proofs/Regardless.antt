-- What shifts and rotates give does not depend on a flag that 003 leaves undefined there, and it comes out clear. Assumes nothing.
use mathlib.Core.Path.{◌≡◌, refl}
use mathlib.Core.Bool.{Bool, true, false, cond}
use mathlib.Core.List.{[], ◌∷◌, ◌++◌}
use Prim.Native.Nat.{ℕ}
use lib.Dec.{ltb, eqb}
use lib.IntN.{pos}
use borrow.Author.Tests.{eq-eqb}
use Rattle.width.specs.declared.Size.{Size}
use Rattle.width.specs.Sizes.{bits}
use Rattle.width.specs.Numbers.{rest}
use Rattle.flags.specs.declared.Flags.{Flags}
use Rattle.flags.specs.Results.{undefined_flag, resulting}
use Rattle.flags.specs.Undefined.{CF, AF, OF, cleared, without, Regardless, Settles}
use Rattle.flags.proofs.Regardless.{Aside, regardless, settles, none_aside, both_aside, unless_aside, either_aside}
use Rattle.shift.specs.declared.Shift.{Shift}
use Rattle.shift.specs.declared.Shift.TheVariants.{Rol, Ror, Rcl, Rcr, Shl, Shr, Sar}
use Rattle.shift.specs.Values.{masked, shifted, shift_value}
use Rattle.shift.specs.Changes.{unless_all_out, carry_after, overflow_once, overflow_after, rotate_flags, changed, flags_after, shift_flags}
use Rattle.shift.specs.Undefined.{overflow_undefined, carry_undefined, others_undefined, shift_undefined}

-- OF, by any count but 1
overflow_aside : (op : Shift) (w : Size) (v k : ℕ) → eqb k 1 ≡ false → Aside (OF ∷ []) (flags_after op w v k)
unfolding undefined_flag resulting cleared without Aside overflow_after rotate_flags changed flags_after
overflow_aside Rol w v k e f = (refl, rw e)
overflow_aside Ror w v k e f = (refl, rw e)
overflow_aside Rcl w v k e f = (refl, rw e)
overflow_aside Rcr w v k e f = (refl, rw e)
overflow_aside Shl w v k e f = (refl, rw e)
overflow_aside Shr w v k e f = (refl, rw e)
overflow_aside Sar w v k e f = (refl, rw e)

-- AF by a shift, and CF by SHL and SHR by the width or more
others_aside : (op : Shift) (w : Size) (v k : ℕ) → Aside (others_undefined op w k) (flags_after op w v k)
unfolding undefined_flag resulting cleared without Aside shifted unless_all_out carry_after overflow_once overflow_after changed flags_after carry_undefined others_undefined
others_aside Rol w v k f = (refl, refl)
others_aside Ror w v k f = (refl, refl)
others_aside Rcl w v k f = (refl, refl)
others_aside Rcr w v k f = (refl, refl)
others_aside Shl w v k f =
    both_aside (AF ∷ []) (carry_undefined w k) (flags_after Shl w v k) (λ g. (refl, refl))
    (unless_aside (ltb k (bits w)) (CF ∷ []) (flags_after Shl w v k) (λ e g. (refl, rw e)))
    f
others_aside Shr w v k f =
    both_aside (AF ∷ []) (carry_undefined w k) (flags_after Shr w v k) (λ g. (refl, refl))
    (unless_aside (ltb k (bits w)) (CF ∷ []) (flags_after Shr w v k) (λ e g. (refl, rw e)))
    f
others_aside Sar w v k f = (refl, refl)

after_aside : (op : Shift) (w : Size) (v k : ℕ) → Aside (overflow_undefined k ++ others_undefined op w k) (flags_after op w v k)
unfolding overflow_undefined
after_aside op w v k =
    both_aside (overflow_undefined k) (others_undefined op w k) (flags_after op w v k)
    (unless_aside (eqb k 1) (OF ∷ []) (flags_after op w v k) (overflow_aside op w v k))
    (others_aside op w v k)

-- the flags
pub shift_settles : (op : Shift) (w : Size) (v count : ℕ) → Settles (shift_undefined op w count) (shift_flags op w v count)
unfolding shift_flags shift_undefined
shift_settles op w v count =
    settles (shift_undefined op w count) (shift_flags op w v count)
    (either_aside (eqb (masked count) 0) [] (overflow_undefined (masked count) ++ others_undefined op w (masked count)) (λ f. f)
    (flags_after op w (rest w (pos v)) (masked count))
    (none_aside (λ f. f))
    (after_aside op w (rest w (pos v)) (masked count)))

-- count 0 changes no flag
pub none_by_0 : (op : Shift) (w : Size) (v count : ℕ) (f : Flags) → masked count ≡ 0 → shift_flags op w v count f ≡ f
unfolding shift_flags
none_by_0 op w v count f h = rw (eq-eqb _ _ h)

-- a rotate never leaves CF undefined
carry_kept : (none once : Bool) (f : Flags) → (without (cond none [] (cond once [] (OF ∷ []) ++ [])) f).cf ≡ f.cf
unfolding cleared without
carry_kept true once f = refl
carry_kept false true f = refl
carry_kept false false f = refl

value_same : (op : Shift) (w : Size) (v count : ℕ) (f : Flags)
    → shift_value op w v count (without (shift_undefined op w count) f).cf ≡ shift_value op w v count f.cf
unfolding shifted shift_value overflow_undefined others_undefined shift_undefined
value_same Rol w v count f = refl
value_same Ror w v count f = refl
value_same Rcl w v count f = rw (carry_kept (eqb (masked count) 0) (eqb (masked count) 1) f)
value_same Rcr w v count f = rw (carry_kept (eqb (masked count) 0) (eqb (masked count) 1) f)
value_same Shl w v count f = refl
value_same Shr w v count f = refl
value_same Sar w v count f = refl

-- the value
pub value_regardless : (op : Shift) (w : Size) (v count : ℕ) → Regardless (shift_undefined op w count) (λ (f : Flags). shift_value op w v count f.cf)
value_regardless op w v count = regardless (shift_undefined op w count) (λ (f : Flags). shift_value op w v count f.cf) (value_same op w v count)
