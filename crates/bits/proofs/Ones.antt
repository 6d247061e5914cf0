-- A bit scan finds the place of the lowest or the highest one, and there is only one such place. Assumes nothing.
use mathlib.Core.Path.{◌≡◌, refl, sym, ap, ◌∙◌}
use mathlib.Core.Bool.{true, false, true≢false}
use Prim.Native.Nat.{ℕ, zero, suc, ◌+◌, ◌-◌, ◌*◌, ◌/◌, ◌%◌, ◌^◌, ◌<◌, ◌≤◌}
use native.Mathlib.Nat.{div-one, div-eq_of_lt, lt_of_lt_of_le, pow-suc}
use native.Mathlib.Decide.{dec_lt}
use native.Mathlib.Numerals.{add-one, one-add}
use native.Mathlib.Omega.{arith}
use lib.Count.{count_leading_zeros, count_trailing_zeros, under, leading_top}
use lib.Dec.{eqb}
use lib.Pow.{pow_mono, shr_lt, high}
use borrow.Author.Tests.{eq-eqb, ne_eqb}
use Rattle.width.specs.Numbers.{bit_at}
use Rattle.bits.specs.declared.Scan.TheVariants.{Bsf, Bsr}
use Rattle.bits.specs.Scans.{Lowest, Highest, scan_value}
use Rattle.bits.proofs.Bits.{bit_of_high}

-- a number that is not 0 has fewer leading zeros than digits
pub leading_few : (v : ℕ) → (v ≡ 0 → ⊥) → v < 2 ^ 32 → count_leading_zeros 32 v ≤ 31
leading_few v h l = let top = leading_top 32 v (omega arith) l in omega (arith, top.1)

-- the lowest digit, and the others of a half
first : (v : ℕ) → bit_at 0 v ≡ eqb (v % 2) 1
unfolding bit_at
first v = ap (λ (n : ℕ). eqb (n % 2) 1) (div-one v)

next : (j v : ℕ) → bit_at (suc j) v ≡ bit_at j (v / 2)
next j v = ap (λ (n : ℕ). bit_at n v) (sym (one-add j)) ∙ sym (bit_of_high j 1 v)

-- the zeros below the lowest one of d digits are its place
lowest : (d v : ℕ) → 0 < v → v < 2 ^ d → Lowest v (count_trailing_zeros d v)
unfolding count_trailing_zeros
lowest zero v h l = absurd (omega arith)
lowest (suc d) v h l = by (v % 2) refl (λ p. lowest d (v / 2) p (shr_lt d 1 (rw (add-one d) l)))
  where
    zeros : (t : ℕ) → v % 2 ≡ 0 → Lowest (v / 2) t → (j : ℕ) → j < suc t → bit_at j v ≡ false
    zeros t e half zero i = first v ∙ ne_eqb (v % 2) 1 (λ f. omega arith)
    zeros t e half (suc j) i = next j v ∙ half.zeros j (omega arith)

    by : (r : ℕ)
        → v % 2 ≡ r
        → (0 < v / 2 → Lowest (v / 2) (count_trailing_zeros d (v / 2)))
        → Lowest v (under r (count_trailing_zeros d (v / 2)))
    by zero e half =
        let low = half (omega arith)
        in
        record { one = next (count_trailing_zeros d (v / 2)) v ∙ low.one; zeros = zeros (count_trailing_zeros d (v / 2)) e low }
    by (suc r) e half = record { one = first v ∙ eq-eqb (v % 2) 1 (omega arith); zeros = λ j i. absurd (omega arith) }

-- the one at the top of a number
top_one : (j v : ℕ) → 2 ^ j ≤ v → v < 2 ^ suc j → bit_at j v ≡ true
unfolding bit_at
top_one j v h l =
    let twice = pow-suc 2 j
    in
    let whole : 1 * 2 ^ j + (v - 2 ^ j) ≡ v = omega arith
    in
    let q : v / 2 ^ j ≡ 1 = rw whole at (high 1 j {lo = v - 2 ^ j} (omega arith)) in ap (λ (n : ℕ). eqb (n % 2) 1) q

-- there is none above
none_above : (i v : ℕ) → v < 2 ^ i → bit_at i v ≡ false
unfolding bit_at
none_above i v h = ap (λ (n : ℕ). eqb (n % 2) 1) (div-eq_of_lt h)

module _ (v : ℕ) (h : 0 < v) (l : v < 2 ^ 32) where
  -- BSF finds the place of the lowest one
  pub lowest_one : Lowest v (scan_value Bsf v)
  unfolding scan_value
  lowest_one = lowest 32 v h l

  -- BSR finds the place of the highest one
  pub highest_one : Highest v (scan_value Bsr v)
  unfolding scan_value
  highest_one =
      let top = leading_top 32 v h l
      in
      let place : 31 - count_leading_zeros 32 v ≡ top.0 = omega (arith, top.1)
      in
      rw place
      (record {
        one = top_one top.0 v top.2 top.3;
        zeros = λ i above. none_above i v (lt_of_lt_of_le top.3 (pow_mono above));
      })

-- of two places of a lowest one, neither is the lower
pub lowest_unique : (v j k : ℕ) → Lowest v j → Lowest v k → j ≡ k
lowest_unique v j k a b = by (dec_lt j k) (dec_lt k j)
  where
    by : Dec (j < k) → Dec (k < j) → j ≡ k
    by (yes h) i = absurd (true≢false (sym a.one ∙ b.zeros j h))
    by (no h) (yes i) = absurd (true≢false (sym b.one ∙ a.zeros k i))
    by (no h) (no i) = omega arith

-- of two places of a highest one, neither is the higher
pub highest_unique : (v j k : ℕ) → Highest v j → Highest v k → j ≡ k
highest_unique v j k a b = by (dec_lt j k) (dec_lt k j)
  where
    by : Dec (j < k) → Dec (k < j) → j ≡ k
    by (yes h) i = absurd (true≢false (sym b.one ∙ a.zeros k h))
    by (no h) (yes i) = absurd (true≢false (sym a.one ∙ b.zeros j i))
    by (no h) (no i) = omega arith
