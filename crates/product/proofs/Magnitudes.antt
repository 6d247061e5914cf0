-- Laws of sign and magnitude: magnitudes are multiplied and divided, and the signs give the sign. Assumes nothing.
use Rattle.std.proofs.Common.{◌≡◌, ℕ, zero, suc, ◌*◌, ◌/◌, ◌%◌, Bool, true, false, ℤ, pos, negsuc, ◌*ℤ◌, neg_ℤ, nat_abs, refl, ap, ◌∙◌, mul-zero, zero-mul}
use native.Mathlib.Nat.{zero-div, div-zero, zero-mod}
use lib.IntN.{sub_ℕ}
use lib.Signed.{quot_z, rem_z}
use Rattle.width.proofs.Differences.{negated, natural}
use Rattle.flags.specs.Conditions.{differs}
use Rattle.product.specs.Magnitude.{with_sign}

-- an operation on integers that is one on magnitudes, negated where just one of the signs is negative
module _
    (on : ℕ → ℕ → ℕ)
    (onℤ : ℤ → ℤ → ℤ)
    (zero_left : (n : ℕ) → on 0 n ≡ 0)
    (zero_right : (n : ℕ) → on n 0 ≡ 0)
    (both_up : (m n : ℕ) → onℤ (pos m) (pos n) ≡ pos (on m n))
    (right_down : (m n : ℕ) → onℤ (pos m) (negsuc n) ≡ neg_ℤ (pos (on m (suc n))))
    (left_down : (m n : ℕ) → onℤ (negsuc m) (pos n) ≡ neg_ℤ (pos (on (suc m) n)))
    (both_down : (m n : ℕ) → onℤ (negsuc m) (negsuc n) ≡ pos (on (suc m) (suc n)))
  where
    -- the same by sign and magnitude
    signwise : (s t : Bool) (m n : ℕ) → onℤ (with_sign s m) (with_sign t n) ≡ with_sign (differs s t) (on m n)
    unfolding with_sign
    signwise false false m n = both_up m n
    signwise false true m zero = both_up m 0 ∙ rw (zero_right m)
    signwise false true m (suc n) = right_down m n
    signwise true false zero n = both_up 0 n ∙ rw (zero_left n)
    signwise true false (suc m) n = left_down m n
    signwise true true zero zero = both_up 0 0
    signwise true true zero (suc n) = right_down 0 n ∙ rw (zero_left (suc n))
    signwise true true (suc m) zero = left_down m 0 ∙ rw (zero_right (suc m))
    signwise true true (suc m) (suc n) = both_down m n

-- the product
pub times : (s t : Bool) (m n : ℕ) → with_sign s m *ℤ with_sign t n ≡ with_sign (differs s t) (m * n)
times = signwise ◌*◌ ◌*ℤ◌ zero-mul mul-zero (λ m n. refl) (λ m n. refl) (λ m n. refl) (λ m n. refl)

-- the quotient, truncated toward zero
pub quotient : (s t : Bool) (n d : ℕ) → quot_z (with_sign s n) (with_sign t d) ≡ with_sign (differs s t) (n / d)
quotient = signwise ◌/◌ quot_z zero-div div-zero (λ m n. refl) (λ m n. refl) (λ m n. refl) (λ m n. refl)

-- the magnitude
pub size : (s : Bool) (n : ℕ) → nat_abs (with_sign s n) ≡ n
unfolding with_sign
size false n = refl
size true zero = refl
size true (suc n) = refl

-- the remainder has the dividend's sign
pub remainder : (s t : Bool) (n d : ℕ) → rem_z (with_sign s n) (with_sign t d) ≡ with_sign s (n % d)
unfolding with_sign
remainder false t n d = rw (size t d)
remainder true t zero d = rw (size t d, zero-mod d)
remainder true t (suc n) d = rw (size t d)

-- a number above zero as a difference
pub above : (n : ℕ) → with_sign false n ≡ sub_ℕ n 0
unfolding with_sign
above n = natural n

-- a number below zero as a difference
pub under : (n : ℕ) → with_sign true n ≡ sub_ℕ 0 n
unfolding with_sign
under n = ap neg_ℤ (natural n) ∙ negated n 0
