-- Laws of a number with a bit as given: that bit is, and no other changes. Assumes nothing.
use mathlib.Core.Path.{◌≡◌, refl, sym, ap, ◌∙◌}
use mathlib.Core.Bool.{Bool, true, false}
use Prim.Native.Nat.{ℕ, zero, suc, ◌+◌, ◌-◌, ◌*◌, ◌/◌, ◌%◌, ◌^◌, ◌<◌}
use native.Mathlib.Nat.{mod-lt, add_comm, add-mul, mul_comm, mul_assoc}
use native.Mathlib.Decide.{dec_lt}
use native.Mathlib.Omega.{arith}
use lib.Arith.{digits_lt, digits_mod}
use lib.Dec.{eqb}
use lib.Pow.{pow_pos, pow-add, split, mod-pow-add, high as high_of}
use Rattle.width.specs.declared.Size.{Size}
use Rattle.width.specs.Numbers.{bit, bit_at}
use Rattle.bits.specs.declared.BitTest.TheVariants.{Bt}
use Rattle.bits.specs.Tests.{selected, with_bit, bit_after, test_value}
use Rattle.bits.proofs.Bits.{bit_of_low, bit_of_high, in_low, in_high}

-- a binary digit is the number of its truth value
digit : (d : ℕ) → d < 2 → bit (eqb d 1) ≡ d
unfolding bit
digit zero h = refl
digit (suc zero) h = refl
digit (suc (suc d)) h = absurd (omega arith)

-- a number has each of its bits as it is
pub as_it_is : (k v : ℕ) → with_bit k v (bit_at k v) ≡ v
unfolding with_bit bit_at
as_it_is k v =
    let low : v % 2 ^ (k + 1) ≡ v / 2 ^ k % 2 * 2 ^ k + v % 2 ^ k = rw (add_comm k 1) (mod-pow-add v 1 k)
    in
    rw (digit (v / 2 ^ k % 2) (mod-lt (v / 2 ^ k) (omega arith))) (omega (arith, low, split v (k + 1)))

-- BT keeps the number
pub bt_keeps : (w : Size) (v offset : ℕ) → test_value Bt w v offset ≡ v
unfolding test_value bit_after
bt_keeps w v offset = as_it_is (selected w offset) v

-- a truth value, from the number of it
truth : (b : Bool) → (bit b < 2) × (eqb (bit b) 1 ≡ b)
unfolding bit
truth true = (omega arith, refl)
truth false = (omega arith, refl)

module _ (k v : ℕ) (b : Bool) where
  -- the bits above
  abbrev high : ℕ
  high = v / 2 ^ (k + 1)

  -- the bits from the given one on, and those below it
  from_it_on : with_bit k v b ≡ (high * 2 + bit b) * 2 ^ k + v % 2 ^ k
  unfolding with_bit
  from_it_on =
      let turns : high * 2 ^ (k + 1) ≡ high * 2 * 2 ^ k =
      ap (λ (n : ℕ). high * n) (pow-add 2 k 1 ∙ mul_comm (2 ^ k) 2) ∙ sym (mul_assoc high 2 (2 ^ k))
      in
      rw (add-mul (high * 2) (bit b) (2 ^ k)) (omega (arith, turns))

  -- the bits above it, and those from it down
  above_it : with_bit k v b ≡ high * 2 ^ (k + 1) + (bit b * 2 ^ k + v % 2 ^ k)
  unfolding with_bit
  above_it = omega arith

  -- which are k + 1
  pub few_left : bit b * 2 ^ k + v % 2 ^ k < 2 ^ (k + 1)
  few_left = rw (pow-add 2 k 1, mul_comm (2 ^ k) 2) (digits_lt (truth b).0 (mod-lt v (pow_pos k)))

  -- the bit is as given
  pub bit_given : bit_at k (with_bit k v b) ≡ b
  unfolding bit_at
  bit_given =
      rw (from_it_on, high_of (high * 2 + bit b) k (mod-lt v (pow_pos k)), digits_mod high (truth b).0) (truth b).1

  -- every other is as it was
  pub bit_others : (j : ℕ) → (j ≡ k → ⊥) → bit_at j (with_bit k v b) ≡ bit_at j v
  bit_others j other = by (dec_lt j k)
    where
      lower : j < k → bit_at j (with_bit k v b) ≡ bit_at j v
      lower h = rw from_it_on (in_low k (high * 2 + bit b) (mod-lt v (pow_pos k)) j h ∙ bit_of_low j k v h)

      upper : (i : ℕ) → bit_at (k + 1 + i) (with_bit k v b) ≡ bit_at (k + 1 + i) v
      upper i = rw above_it (in_high (k + 1) high few_left i ∙ bit_of_high i (k + 1) v)

      by : Dec (j < k) → bit_at j (with_bit k v b) ≡ bit_at j v
      by (yes h) = lower h
      by (no h) =
          let place : k + 1 + (j - (k + 1)) ≡ j = omega arith in rw place at (upper (j - (k + 1)))
