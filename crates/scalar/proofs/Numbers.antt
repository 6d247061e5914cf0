-- Which bits are a NaN's, and singles of which neither is a NaN. Assumes nothing.
use mathlib.Core.Path.{◌≡◌, refl, sym}
use mathlib.Core.Bool.{Bool, true, false, cond, not, ◌&&◌, ◌||◌, true≢false}
use mathlib.Core.Logic.{◌⊎◌, inl, inr}
use Prim.Native.Nat.{ℕ, ◌%◌, ◌^◌, ◌<◌}
use native.Mathlib.Omega.{arith}
use lib.Dec.{T, ltb, eqb}
use lib.Ieee.{Float, binary32, lt, is_nan, nan_bits, of_bits, to_bits, of_fields, odd}
use lib.Ieee.Bits.{nan_bits_above}
use borrow.Author.Tests.{eqb-true, eqb-false}
use Rattle.flags.specs.declared.Flags.{Flags}
use Rattle.scalar.specs.Singles.{is_single_nan, is_zero, number, result_of, first_nan, rounded, chosen, answer, compared}

-- a NaN's bits without the sign are above the infinity's
pub nan_above : (b : ℕ) → ltb 0x7F80_0000 (b % 0x8000_0000) ≡ is_single_nan b
unfolding is_single_nan
nan_above b = sym (nan_bits_above binary32 b)

-- of a number the result's bits are its own
pub numbered : (x : Float) → is_nan x ≡ false → to_bits binary32 x ≡ result_of x
unfolding result_of
numbered x number = rw number refl

-- a zero is one of two
zeros : (a : ℕ) → a < 2 ^ 32 → a % 2 ^ 31 ≡ 0 → (a ≡ 0) ⊎ (a ≡ 2 ^ 31)
zeros a small e = by (eqb a 0) refl
  where
    by : (t : Bool) → eqb a 0 ≡ t → (a ≡ 0) ⊎ (a ≡ 2 ^ 31)
    by true is = inl (eqb-true a 0 is)
    by false is = let some = eqb-false a 0 is in inr (omega arith)

-- both of two tests pass
first : (x y : Bool) → (x && y) ≡ true → x ≡ true
first true y e = refl
first false y e = e

second : (x y : Bool) → (x && y) ≡ true → y ≡ true
second true y e = e
second false y e = absurd (true≢false (sym e))

-- in the other order too
turned : (x y : Bool) → (x && y) ≡ true → (y && x) ≡ true
turned true true e = refl
turned true false e = e
turned false y e = absurd (true≢false (sym e))

-- neither of two zeros lies below the other
level : (a b : ℕ) → a < 2 ^ 32 → b < 2 ^ 32 → (is_zero a && is_zero b) ≡ true → lt (number a) (number b) ≡ false
unfolding is_zero number of_bits of_fields odd lt
level a b small_a small_b both =
    by (zeros a small_a (eqb-true _ _ (first (is_zero a) (is_zero b) both))) (zeros b small_b (eqb-true _ _ (second (is_zero a) (is_zero b) both)))
  where
    by : (a ≡ 0) ⊎ (a ≡ 2 ^ 31) → (b ≡ 0) ⊎ (b ≡ 2 ^ 31) → lt (number a) (number b) ≡ false
    by (inl x) (inl y) = rw (x, y) refl
    by (inl x) (inr y) = rw (x, y) refl
    by (inr x) (inl y) = rw (x, y) refl
    by (inr x) (inr y) = rw (x, y) refl

-- bits that are no NaN's
pub no_nan : (b : ℕ) → is_single_nan b ≡ false → T (not (nan_bits binary32 b))
unfolding is_single_nan
no_nan b e = rw e tt

module _ (a b : ℕ) where
  -- a rounded operation where an operand is a NaN
  pub rounded_nan : (op : Float → Float → Float) → (is_single_nan a || is_single_nan b) ≡ true → {r : ℕ} → r ≡ first_nan a b → r ≡ rounded op a b
  unfolding rounded
  rounded_nan op some is = rw some is

  -- a choice where an operand is a NaN
  pub chosen_nan : (before : Float → Float → Bool) → (is_single_nan a || is_single_nan b) ≡ true → b ≡ chosen before a b
  unfolding chosen
  chosen_nan before some = rw (either (is_single_nan a) (is_single_nan b) (is_zero a && is_zero b) some) refl
    where
      either : (x y z : Bool) → (x || y) ≡ true → (x || y || z) ≡ true
      either true y z e = refl
      either false true z e = refl
      either false false z e = absurd (true≢false (sym e))

  module _ (first : is_single_nan a ≡ false) (second : is_single_nan b ≡ false) where
    -- a rounded operation on numbers
    pub rounded_number : (op : Float → Float → Float) {r : ℕ} → r ≡ result_of (op (number a) (number b)) → r ≡ rounded op a b
    unfolding rounded
    rounded_number op is = rw (first, second) is

    -- a choice of numbers, where neither of two zeros comes before the other
    chosen_number : (before : Float → Float → Bool) → ((is_zero a && is_zero b) ≡ true → before (number a) (number b) ≡ false)
        → chosen before a b ≡ cond (before (number a) (number b)) a b
    unfolding chosen
    chosen_number before level = rw (first, second) (by (is_zero a && is_zero b) refl)
      where
        by : (t : Bool) → (is_zero a && is_zero b) ≡ t → cond t b (cond (before (number a) (number b)) a b) ≡ cond (before (number a) (number b)) a b
        by true e = rw (level e) refl
        by false e = refl

    module _ (small_a : a < 2 ^ 32) (small_b : b < 2 ^ 32) where
      -- the lesser of two numbers is the first if it lies below the second, else the second
      pub lesser_first : lt (number a) (number b) ≡ true → a ≡ chosen lt a b
      lesser_first below = rw (chosen_number lt (level a b small_a small_b), below) refl

      pub lesser_second : lt (number a) (number b) ≡ false → b ≡ chosen lt a b
      lesser_second not_below = rw (chosen_number lt (level a b small_a small_b), not_below) refl

      -- the greater is the first if the second lies below it, else the second
      greater : chosen (λ x y. lt y x) a b ≡ cond (lt (number b) (number a)) a b
      greater = chosen_number (λ x y. lt y x) (λ both. level b a small_b small_a (turned (is_zero a) (is_zero b) both))

      pub greater_first : lt (number b) (number a) ≡ true → a ≡ chosen (λ x y. lt y x) a b
      greater_first above = rw (greater, above) refl

      pub greater_second : lt (number b) (number a) ≡ false → b ≡ chosen (λ x y. lt y x) a b
      greater_second not_above = rw (greater, not_above) refl

    -- of two that are compared
    pub compared_number : (f : Flags) → compared a b f
        ≡ cond (lt (number b) (number a)) (answer false false false f) (cond (lt (number a) (number b)) (answer false false true f) (answer true false false f))
    unfolding compared
    compared_number f = rw (first, second) refl

  -- two that are compared, where one is a NaN
  pub compared_nan : (is_single_nan a || is_single_nan b) ≡ true → (f : Flags) → compared a b f ≡ answer true true true f
  unfolding compared
  compared_nan some f = rw some refl
