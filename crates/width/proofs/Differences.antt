-- Laws of p - q over the integers, for naturals p and q. Assumes nothing.
use mathlib.Core.Path.{◌≡◌, sym, ap, ◌∙◌}
use mathlib.Core.Bool.{◌||◌}
use Prim.Native.Nat.{ℕ, zero, suc, ◌+◌, ◌-◌, ◌*◌, ◌/◌, ◌%◌, ◌<◌, ◌≤◌}
use native.Mathlib.Nat.{mod-lt, div-add-mod', add-mul, suc-mul, lt_of_mul-lt-mul_right, mul-add-mod_self_right, mod-eq_of_lt}
use native.Mathlib.Decide.{dec_le}
use native.Mathlib.Omega.{arith}
use lib.Dec.{ltb, leb}
use lib.IntN.{ℤ, pos, negsuc, neg_ℤ, sub_ℕ, ◌+ℤ◌, ◌-ℤ◌}
use borrow.Author.Tests.{lt-ltb, le-ltb}
use Rattle.width.specs.Numbers.{residue, beyond}

-- a difference is a natural or below zero
pub data Sign (p q : ℕ) : Type 0 where
  up : (d : ℕ) → p ≡ q + d → Sign p q
  down : (d : ℕ) → q ≡ p + suc d → Sign p q

pub sign : (p q : ℕ) → Sign p q
sign p q = by (dec_le q p)
  where
    by : Dec (q ≤ p) → Sign p q
    by (yes h) = up (p - q) (omega arith)
    by (no h) = down (q - suc p) (omega arith)

pub is_pos : (p q d : ℕ) → p ≡ q + d → sub_ℕ p q ≡ pos d
is_pos p q d h = rw (le-ltb p q (omega arith)) (ap pos (omega arith))

pub is_negsuc : (p q d : ℕ) → q ≡ p + suc d → sub_ℕ p q ≡ negsuc d
is_negsuc p q d h = rw (lt-ltb p q (omega arith)) (ap negsuc (omega arith))

-- two differences are one integer where the crossed sums are
pub same : (p q r s : ℕ) → p + s ≡ r + q → sub_ℕ p q ≡ sub_ℕ r s
same p q r s h = by (sign p q)
  where
    by : Sign p q → sub_ℕ p q ≡ sub_ℕ r s
    by (up d e) = is_pos p q d e ∙ sym (is_pos r s d (omega arith))
    by (down d e) = is_negsuc p q d e ∙ sym (is_negsuc r s d (omega arith))

pub negated : (p q : ℕ) → neg_ℤ (sub_ℕ p q) ≡ sub_ℕ q p
negated p q = by (sign p q)
  where
    by : Sign p q → neg_ℤ (sub_ℕ p q) ≡ sub_ℕ q p
    by (up zero e) = rw (is_pos p q zero e) (sym (is_pos q p zero (omega arith)))
    by (up (suc d) e) = rw (is_pos p q (suc d) e) (sym (is_negsuc q p d (omega arith)))
    by (down d e) = rw (is_negsuc p q d e) (sym (is_pos q p (suc d) (omega arith)))

pub added : (p q r s : ℕ) → sub_ℕ p q +ℤ sub_ℕ r s ≡ sub_ℕ (p + r) (q + s)
added p q r s = by (sign p q) (sign r s)
  where
    by : Sign p q → Sign r s → sub_ℕ p q +ℤ sub_ℕ r s ≡ sub_ℕ (p + r) (q + s)
    by (up d e) (up f g) = rw (is_pos p q d e, is_pos r s f g) (sym (is_pos (p + r) (q + s) (d + f) (omega arith)))
    by (up d e) (down f g) = rw (is_pos p q d e, is_negsuc r s f g) (same d (suc f) (p + r) (q + s) (omega arith))
    by (down d e) (up f g) = rw (is_negsuc p q d e, is_pos r s f g) (same f (suc d) (p + r) (q + s) (omega arith))
    by (down d e) (down f g) =
        rw (is_negsuc p q d e, is_negsuc r s f g)
        (sym (is_negsuc (p + r) (q + s) (suc (d + f)) (omega arith)))

pub subtracted : (p q r s : ℕ) → sub_ℕ p q -ℤ sub_ℕ r s ≡ sub_ℕ (p + s) (q + r)
subtracted p q r s = rw (negated r s) (added p q s r)

pub natural : (n : ℕ) → pos n ≡ sub_ℕ n 0
natural n = sym (is_pos n 0 n (omega arith))

-- counting back from a multiple of m: the rest is what is left of m
back : (m d k : ℕ) → 0 < m → d < k * m → (k * m - suc d) % m ≡ m - 1 - d % m
back m d k h b = rw (whole, mul-add-mod_self_right j m (m - 1 - d % m)) (mod-eq_of_lt (omega arith))
  where
    parts : d / m * m + d % m ≡ d
    parts = div-add-mod' d m

    small : d % m < m
    small = mod-lt d h

    fewer : d / m < k
    fewer = lt_of_mul-lt-mul_right m (omega (arith, parts))

    j : ℕ
    j = k - suc (d / m)

    k_is : k ≡ j + suc (d / m)
    k_is = omega (arith, fewer)

    turns : k * m ≡ j * m + (d / m * m + m)
    turns = ap (λ (n : ℕ). n * m) k_is ∙ add-mul j (suc (d / m)) m ∙ rw suc-mul

    whole : k * m - suc d ≡ j * m + (m - 1 - d % m)
    whole = omega (arith, parts, small, turns)

-- a difference's rest, from the same difference made a natural by a multiple of m
pub residue_of : (m p q k : ℕ) → 0 < m → q ≤ p + k * m → residue m (sub_ℕ p q) ≡ (p + k * m - q) % m
unfolding residue
residue_of m p q k h b = by (sign p q)
  where
    above : (d : ℕ) → p ≡ q + d → p + k * m - q ≡ k * m + d
    above d e = omega arith

    under : (d : ℕ) → q ≡ p + suc d → p + k * m - q ≡ k * m - suc d
    under d e = omega arith

    short : (d : ℕ) → q ≡ p + suc d → d < k * m
    short d e = omega arith

    by : Sign p q → residue m (sub_ℕ p q) ≡ (p + k * m - q) % m
    by (up d e) = rw (is_pos p q d e, above d e) (sym (mul-add-mod_self_right k m d))
    by (down d e) = rw (is_negsuc p q d e, under d e) (sym (back m d k h (short d e)))

-- an integer's rest is below the modulus
pub residue_below : (m : ℕ) (z : ℤ) → 0 < m → residue m z < m
unfolding residue
residue_below m (pos n) h = mod-lt n h
residue_below m (negsuc n) h = omega (arith, mod-lt n h)

-- a difference is none of the numbers below m if it is below zero, or m at least
pub beyond_of : (m p q : ℕ) → beyond m (sub_ℕ p q) ≡ (ltb p q || leb m (p - q))
unfolding beyond
beyond_of m p q = by (sign p q)
  where
    by : Sign p q → beyond m (sub_ℕ p q) ≡ (ltb p q || leb m (p - q))
    by (up d e) =
        rw (is_pos p q d e, le-ltb p q (omega arith), le-ltb d 0 (omega arith))
        (ap (leb m) (omega arith))
    by (down d e) = rw (is_negsuc p q d e, lt-ltb p q (omega arith))
