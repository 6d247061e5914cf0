-- The flags after bit tests, bit scans and double shifts do not depend on those that 003 leaves undefined there, and these come out clear. Assumes nothing.
use mathlib.Core.Path.{◌≡◌, refl}
use mathlib.Core.List.{[], ◌∷◌, ◌++◌}
use Prim.Native.Nat.{ℕ, ◌<◌}
use lib.Dec.{leb, eqb}
use lib.IntN.{pos}
use native.Mathlib.Omega.{arith}
use borrow.Author.Tests.{lt-leb, eq-eqb, ne_eqb}
use Rattle.width.specs.declared.Size.{Size}
use Rattle.width.specs.Sizes.{bits}
use Rattle.width.specs.Numbers.{rest}
use Rattle.flags.specs.declared.Flags.{Flags}
use Rattle.flags.specs.Results.{undefined_flag, all_undefined, resulting}
use Rattle.flags.specs.Undefined.{AF, OF, status_flags, cleared, without, Settles}
use Rattle.flags.proofs.Regardless.{Aside, settles, none_aside, both_aside, unless_aside, either_aside, all_aside}
use Rattle.shift.specs.Values.{masked}
use Rattle.shift.specs.Undefined.{overflow_undefined}
use Rattle.bits.specs.declared.DoubleShift.{DoubleShift}
use Rattle.bits.specs.Tests.{test_flags}
use Rattle.bits.specs.Scans.{scan_flags}
use Rattle.bits.specs.Doubles.{overflow_after, flags_after, double_flags}
use Rattle.bits.specs.Undefined.{test_undefined, scan_undefined, double_undefined}

-- bit tests
pub test_settles : (w : Size) (v offset : ℕ) → Settles test_undefined (test_flags w v offset)
unfolding undefined_flag cleared without Aside test_flags test_undefined
test_settles w v offset = settles test_undefined (test_flags w v offset) (λ f. (refl, refl))

-- bit scans
pub scan_settles : (v : ℕ) → Settles scan_undefined (scan_flags v)
unfolding undefined_flag cleared without Aside scan_flags scan_undefined
scan_settles v = settles scan_undefined (scan_flags v) (λ f. (refl, refl))

-- a double shift by 1 to the width
after_aside : (op : DoubleShift) (w : Size) (d s k : ℕ) → Aside (overflow_undefined k ++ AF ∷ []) (flags_after op w d s k)
unfolding undefined_flag resulting cleared without Aside overflow_undefined overflow_after flags_after
after_aside op w d s k =
    both_aside (overflow_undefined k) (AF ∷ []) (flags_after op w d s k)
    (unless_aside (eqb k 1) (OF ∷ []) (flags_after op w d s k) (λ e f. (refl, rw e)))
    (λ f. (refl, refl))

-- double shifts
pub double_settles : (op : DoubleShift) (w : Size) (d s count : ℕ) → Settles (double_undefined w count) (double_flags op w d s count)
unfolding double_flags double_undefined
double_settles op w d s count =
    settles (double_undefined w count) (double_flags op w d s count)
    (either_aside (eqb (masked count) 0) [] _ (λ f. f) _ (none_aside (λ f. f))
    (either_aside (leb (masked count) (bits w)) (overflow_undefined (masked count) ++ AF ∷ []) status_flags
    (flags_after op w (rest w (pos d)) (rest w (pos s)) (masked count))
    all_undefined
    (after_aside op w (rest w (pos d)) (rest w (pos s)) (masked count))
    all_aside))

-- count 0 changes no flag
pub none_by_0 : (op : DoubleShift) (w : Size) (d s count : ℕ) (f : Flags) → masked count ≡ 0 → double_flags op w d s count f ≡ f
unfolding double_flags
none_by_0 op w d s count f h = rw (eq-eqb _ _ h)

-- a count over the width clears all six
pub all_over_width : (op : DoubleShift) (w : Size) (d s count : ℕ) (f : Flags) → bits w < masked count
    → double_flags op w d s count f ≡ without status_flags f
unfolding undefined_flag all_undefined status_flags cleared without double_flags
all_over_width op w d s count f h = rw (ne_eqb (masked count) 0 (λ (e : masked count ≡ 0). omega arith), lt-leb (masked count) (bits w) h)
