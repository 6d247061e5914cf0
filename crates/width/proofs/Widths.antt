-- What the three sizes have in common, and the laws of rest and signed meaning at a size. Assumes nothing.
use mathlib.Core.Path.{◌≡◌, refl, sym, ap, ◌∙◌}
use mathlib.Core.Bool.{false, cond, or-false}
use Prim.Native.Nat.{ℕ, zero, suc, ◌+◌, ◌-◌, ◌*◌, ◌/◌, ◌^◌, ◌<◌, ◌≤◌}
use native.Mathlib.Omega.{arith}
use lib.Dec.{ltb, leb, leb-suc-suc}
use lib.IntN.{ℤ, pos, negsuc, neg_ℤ, nat_abs, sub_ℕ, ◌+ℤ◌}
use lib.Signed.{lt_z}
use borrow.Author.Tests.{lt-ltb, le-ltb}
use Rattle.width.specs.declared.Size.{Size}
use Rattle.width.specs.declared.Size.TheVariants.{Byte, Word, Dword}
use Rattle.width.specs.Sizes.{bits, modulus, half}
use Rattle.width.specs.Numbers.{residue, rest, meaning, signed, outside, Ranked, sign_extended}
use Rattle.width.proofs.Differences.{Sign, up, down, sign, is_pos, is_negsuc, same, added, residue_of, residue_below}

-- a size's numbers: with them its modulus and half are plain unknowns to arithmetic
pub record Numbers (w : Size) : Type 0 where
  pub two : modulus w ≡ half w + half w
  pub some : 0 < half w
  pub top : modulus w ≤ 2 ^ 32
  pub turns : 2 ^ 33 / modulus w * modulus w ≡ 2 ^ 33

pub numbers : (w : Size) → Numbers w
unfolding bits modulus half
numbers Byte = omega arith
numbers Word = omega arith
numbers Dword = omega arith

pub rest_below : (w : Size) (z : ℤ) → rest w z < modulus w
unfolding rest
rest_below w z = let nums = numbers w in residue_below (modulus w) z (omega arith)

-- 2 ^ 33, a multiple of each modulus, makes a difference a natural with the same rest
pub lifted : (w : Size) (p q : ℕ) → q ≤ p + 2 ^ 33 → rest w (pos (p + 2 ^ 33 - q)) ≡ rest w (sub_ℕ p q)
unfolding rest residue
lifted w p q h = sym (rw turns at (residue_of (modulus w) p q (2 ^ 33 / modulus w) (omega (arith, nums)) (rw turns h)))
  where
    nums : Numbers w
    nums = numbers w

    turns : 2 ^ 33 / modulus w * modulus w ≡ 2 ^ 33
    turns = nums.turns

-- the rank of a number whose sign bit is clear
pub ranked_low : (w : Size) (v : ℕ) → v < half w → Ranked w v (v + half w)
unfolding signed meaning
ranked_low w v h =
    let nums = numbers w
    in
    record {
      meant = rw (lt-ltb v (half w) h) (sym (is_pos (v + half w) (half w) v (omega arith)));
      below = omega arith;
    }

-- the rank of a number whose sign bit is set
pub ranked_high : (w : Size) (v : ℕ) → v < 2 ^ 32 → half w ≤ v → Ranked w v (v - half w)
unfolding signed meaning
ranked_high w v b h =
    record {
      meant = rw (le-ltb v (half w) h) (same v (half w + half w) (v - half w) (half w) (omega arith));
      below = omega arith;
    }

-- a number has one rank
pub rank_unique : (w : Size) (v : ℕ) {r s : ℕ} → Ranked w v r → Ranked w v s → r ≡ s
rank_unique w v a b = ap nat_abs (above _ ∙ ap (λ (z : ℤ). z +ℤ sub_ℕ (half w) 0) (sym a.meant ∙ b.meant) ∙ sym (above _))
  where
    -- a rank is what its number means, and half above
    above : (r : ℕ) → pos r ≡ sub_ℕ r (half w) +ℤ sub_ℕ (half w) 0
    above r = sym (added r (half w) (half w) 0 ∙ is_pos (r + half w) (half w + 0) r (omega arith))

-- extension by sign, from the rank
pub extended : (from to : Size) (v r : ℕ) → Ranked from v r → rest to (pos (r + 2 ^ 33 - half from)) ≡ sign_extended from to v
unfolding sign_extended
extended from to v r h =
    let nums = numbers from in rw h.meant (lifted to r (half from) (omega arith))

-- the size's largest number is the rest of any larger number of ones
pub filled : (w : Size) → rest w (pos 0xFFFF_FFFF) ≡ modulus w - 1
unfolding rest residue modulus bits
filled Byte = refl
filled Word = refl
filled Dword = refl

-- a difference is no signed number of the size if it lies further below zero than half, or half at least above
pub outside_of : (w : Size) (p q : ℕ) → outside w (sub_ℕ p q) ≡ cond (ltb p q) (ltb (half w) (q - p)) (leb (half w) (p - q))
unfolding outside
outside_of w p q = by (sign p q)
  where
    nums : Numbers w
    nums = numbers w

    below : (h d : ℕ) → 0 < h → lt_z (negsuc d) (neg_ℤ (pos h)) ≡ ltb h (suc d)
    below zero d e = absurd (omega arith)
    below (suc h) d e = sym (leb-suc-suc (suc h) d)

    above : (h d : ℕ) → 0 < h → lt_z (pos d) (neg_ℤ (pos h)) ≡ false
    above zero d e = absurd (omega arith)
    above (suc h) d e = refl

    by : Sign p q → outside w (sub_ℕ p q) ≡ cond (ltb p q) (ltb (half w) (q - p)) (leb (half w) (p - q))
    by (up d e) =
        rw (is_pos p q d e, le-ltb p q (omega arith), above (half w) d nums.some)
        (ap (leb (half w)) (omega arith))
    by (down d e) =
        rw (is_negsuc p q d e, lt-ltb p q (omega arith), below (half w) d nums.some, or-false)
        (ap (ltb (half w)) (omega arith))
