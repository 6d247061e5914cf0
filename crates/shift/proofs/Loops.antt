-- The closed forms are 003's loops: one more turn or shift is one by 1 after the others. Assumes nothing.
use mathlib.Core.Path.{◌≡◌, refl, sym, ap, ◌∙◌}
use mathlib.Core.Bool.{Bool, true, false}
use Prim.Native.Nat.{ℕ, ◌+◌, ◌-◌, ◌*◌, ◌/◌, ◌%◌, ◌^◌, ◌<◌, ◌≤◌}
use native.Mathlib.Nat.{add_comm, add_assoc, add-mod, add-mul, mul_assoc, mul-add-mod_self_right, mul-add-div_right, sub-add_cancel, div-add-mod'}
use native.Mathlib.Omega.{arith}
use lib.Arith.{sub-sub_self}
use lib.Pow.{pow-add, shr-shr, shr_le, shr_lt, mod-pow-add, low as low_of, high as high_of}
use borrow.Author.Tests.{le-leb, lt-leb, leb-true, leb-false}
use Rattle.width.specs.declared.Size.{Size}
use Rattle.width.specs.Sizes.{modulus, half}
use Rattle.width.specs.Numbers.{residue, rest, negative}
use Rattle.width.proofs.Widths.{Numbers, numbers}
use Rattle.shift.specs.declared.Shift.TheVariants.{Shl, Shr, Sar}
use Rattle.shift.specs.Values.{turned_right, turned_left, shifted}
use Rattle.shift.proofs.Signs.{clear, set}
use Rattle.shift.proofs.Turns.{turned_below}

-- the bits below, the bits above and the one between them, gathered in the two orders
gathered : (p q s t : ℕ) → (q % 2 * s + p) * t + q / 2 ≡ (p * (t * 2) + q) % 2 * (s * t) + (p * (t * 2) + q) / 2
gathered p q s t =
    rw (
      ← mul_assoc p t 2,
      mul-add-mod_self_right (p * t) 2 q,
      mul-add-div_right {m = 2} (omega arith) (p * t) q,
      add-mul (q % 2 * s) p t,
      mul_assoc (q % 2) s t,
    )
    (add_assoc (q % 2 * (s * t)) (p * t) (q / 2))

module _ (b k x : ℕ) (h : k + 1 ≤ b) where
  -- one low bit more
  low : x % 2 ^ (k + 1) ≡ x / 2 ^ k % 2 * 2 ^ k + x % 2 ^ k
  low = rw (add_comm k 1) (mod-pow-add x 1 k)

  -- one high bit less
  high : x / 2 ^ (k + 1) ≡ x / 2 ^ k / 2
  high = sym (shr-shr x k 1)

  -- the place that a bit turned by one comes to
  top : 2 ^ (b - 1) ≡ 2 ^ k * 2 ^ (b - (k + 1))
  top = ap (λ (n : ℕ). 2 ^ n) (omega arith) ∙ pow-add 2 k (b - (k + 1))

  -- the place of the lowest bit after k rounds, from its place after one more
  twice : 2 ^ (b - k) ≡ 2 ^ (b - (k + 1)) * 2
  twice = ap (λ (n : ℕ). 2 ^ n) (omega arith) ∙ pow-add 2 (b - (k + 1)) 1

  -- ROR and RCR: each round turns by one bit
  pub turned_further : turned_right b (k + 1) x ≡ turned_right b 1 (turned_right b k x)
  unfolding turned_right
  turned_further = rw (low, high, top, twice) (gathered (x % 2 ^ k) (x / 2 ^ k) (2 ^ k) (2 ^ (b - (k + 1))))

-- turned right and left by one bit, a number is as it was
undone : (b y : ℕ) → 1 ≤ b → y < 2 ^ b → turned_left b 1 (turned_right b 1 y) ≡ y
unfolding turned_left turned_right
undone b y h l =
    let half : y / 2 < 2 ^ (b - 1) = shr_lt (b - 1) 1 (rw (sub-add_cancel h) l)
    in
    rw (low_of (y % 2) (b - 1) half, high_of (y % 2) (b - 1) half, sub-sub_self h) (div-add-mod' y 2)

-- ROL and RCL: each round turns by one bit
pub turned_left_further : (b k x : ℕ) → k + 1 ≤ b → x < 2 ^ b → turned_left b (k + 1) x ≡ turned_left b 1 (turned_left b k x)
unfolding turned_left
turned_left_further b k x h l =
    let less : b - (k + 1) + 1 ≡ b - k = omega arith
    in
    sym (undone b (turned_left b (k + 1) x) (omega arith) (turned_below b (b - (k + 1)) x (omega arith) l))
    ∙ ap (λ (n : ℕ). turned_left b 1 n) (sym (rw less at (turned_further b (b - (k + 1)) x (omega arith))))

-- a rest, doubled, has the rest of the double
doubled : (n m : ℕ) → n * 2 % m ≡ n % m * 2 % m
doubled n m = rw (twice n, twice (n % m)) (add-mod n n m)
  where
    twice : (a : ℕ) → a * 2 ≡ a + a
    twice a = omega arith

module _ (w : Size) (v k : ℕ) (c : Bool) where
  -- SHR: each round halves
  pub shr_further : shifted Shr w v (k + 1) c ≡ shifted Shr w (shifted Shr w v k c) 1 c
  unfolding shifted
  shr_further = sym (shr-shr v k 1)

  -- SHL: each round doubles
  pub shl_further : shifted Shl w v (k + 1) c ≡ shifted Shl w (shifted Shl w v k c) 1 c
  unfolding shifted rest residue
  shl_further = rw (pow-add 2 k 1, ← mul_assoc v (2 ^ k) 2) (doubled (v * 2 ^ k) (modulus w))

module _ (w : Size) (v k : ℕ) (c : Bool) (l : v < modulus w) where
  -- the size's numbers
  nums : Numbers w
  nums = numbers w

  -- one round more is a round by 1 after the others
  abbrev Further : Type 0
  Further = shifted Sar w v (k + 1) c ≡ shifted Sar w (shifted Sar w v k c) 1 c

  -- what v lacks to all ones
  abbrev lack : ℕ
  lack = modulus w - 1 - v

  -- v after k rounds, where its sign bit is set
  abbrev after : ℕ
  after = modulus w - 1 - lack / 2 ^ k

  -- of a number whose sign bit is clear
  further_clear : negative w v ≡ false → Further
  unfolding shifted negative
  further_clear e =
      let less : v / 2 ^ k < half w = omega (arith, shr_le v k, leb-false (half w) v e)
      in
      rw (← (clear w v (2 ^ k) e).is, ← (clear w v (2 ^ (k + 1)) e).is)
      (sym (shr-shr v k 1) ∙ (clear w (v / 2 ^ k) 2 (lt-leb (half w) (v / 2 ^ k) less)).is)

  -- of a number whose sign bit is set
  further_set : negative w v ≡ true → Further
  unfolding shifted negative
  further_set e =
      let some : half w ≤ after = omega (arith, nums, shr_le lack k, leb-true (half w) v e)
      in
      let back : lack / 2 ^ k ≡ modulus w - 1 - after = omega (arith, nums, shr_le lack k)
      in
      rw (← (set w v (2 ^ k) e l).is, ← (set w v (2 ^ (k + 1)) e l).is)
      (ap (λ (n : ℕ). modulus w - 1 - n) (sym (shr-shr lack k 1) ∙ ap (λ (n : ℕ). n / 2) back)
      ∙ (set w after 2 (le-leb (half w) after some) (omega (arith, nums))).is)

  -- SAR: each round halves the signed meaning, rounding down
  pub sar_further : shifted Sar w v (k + 1) c ≡ shifted Sar w (shifted Sar w v k c) 1 c
  sar_further = by (negative w v) refl
    where
      by : (n : Bool) → negative w v ≡ n → Further
      by false e = further_clear e
      by true e = further_set e
