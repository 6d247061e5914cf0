-- Laws of the bits of a number, and of one that is made of a high and a low part. Assumes nothing.
use mathlib.Core.Path.{◌≡◌, sym, ap, ◌∙◌}
use Prim.Native.Nat.{ℕ, ◌+◌, ◌-◌, ◌*◌, ◌/◌, ◌%◌, ◌^◌, ◌<◌}
use native.Mathlib.Omega.{arith}
use lib.Dec.{eqb}
use lib.Pow.{high, low, field, mod-mod-pow, shr-shr}
use Rattle.width.specs.Numbers.{bit_at}

-- the low digits have the bits of the number
pub bit_of_low : (j k n : ℕ) → j < k → bit_at j (n % 2 ^ k) ≡ bit_at j n
unfolding bit_at
bit_of_low j k n h =
    ap (λ (x : ℕ). eqb x 1)
    (ap (λ (x : ℕ). n % 2 ^ x / 2 ^ j % 2) more ∙ ap (λ (x : ℕ). x % 2) (field n (k - j) j) ∙ one)
  where
    more : k ≡ k - j + j
    more = omega arith

    last : k - j ≡ k - j - 1 + 1
    last = omega arith

    one : n / 2 ^ j % 2 ^ (k - j) % 2 ≡ n / 2 ^ j % 2
    one = ap (λ (x : ℕ). n / 2 ^ j % 2 ^ x % 2) last ∙ mod-mod-pow (n / 2 ^ j) (k - j - 1) 1

-- and the others those from their place on
pub bit_of_high : (j k n : ℕ) → bit_at j (n / 2 ^ k) ≡ bit_at (k + j) n
unfolding bit_at
bit_of_high j k n = ap (λ (x : ℕ). eqb (x % 2) 1) (shr-shr n k j)

module _ (k hi : ℕ) {lo : ℕ} (h : lo < 2 ^ k) where
  -- below the place where two parts meet, a bit is one of the low part
  pub in_low : (j : ℕ) → j < k → bit_at j (hi * 2 ^ k + lo) ≡ bit_at j lo
  in_low j l = sym (bit_of_low j k (hi * 2 ^ k + lo) l) ∙ ap (bit_at j) (low hi k h)

  -- from there on, one of the high part
  pub in_high : (j : ℕ) → bit_at (k + j) (hi * 2 ^ k + lo) ≡ bit_at j hi
  in_high j = sym (bit_of_high j k (hi * 2 ^ k + lo)) ∙ ap (bit_at j) (high hi k h)
