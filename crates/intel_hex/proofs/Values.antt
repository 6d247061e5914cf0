-- What bytes stand for as hex digits. Assumes nothing.
use mathlib.Core.Path.{◌≡◌, refl, sym}
use mathlib.Core.Bool.{Bool, true, false, cond, ◌&&◌, false≢true}
use Prim.Native.Nat.{ℕ, ◌+◌, ◌-◌, ◌*◌, ◌<◌, ◌≤◌}
use native.Mathlib.Omega.{arith}
use lib.Dec.{leb}
use borrow.Author.Tests.{leb-true, le-leb, lt-leb}
use Rattle.std.specs.Prelude.{Option, None, Some, is_some, unwrap_or}
use Rattle.text.proofs.Tests.{both_hold}
use Rattle.intel_hex.specs.Records.{Digit, figure, capital, small}
use Rattle.intel_hex.specs.Reading.{digit_of, is_pair, worth}

of_figure : (c : ℕ) → 48 ≤ c → c ≤ 57 → digit_of c ≡ Some (c - 48)
unfolding digit_of
of_figure c h g = rw (le-leb 48 c h, le-leb c 57 g)

of_capital : (c : ℕ) → 65 ≤ c → c ≤ 70 → digit_of c ≡ Some (c - 55)
unfolding digit_of
of_capital c h g = rw (le-leb 48 c (omega arith), lt-leb c 57 (omega arith), le-leb 65 c h, le-leb c 70 g)

of_small : (c : ℕ) → 97 ≤ c → c ≤ 102 → digit_of c ≡ Some (c - 87)
unfolding digit_of
of_small c h g =
    rw (le-leb 48 c (omega arith), lt-leb c 57 (omega arith), le-leb 65 c (omega arith), lt-leb c 70 (omega arith), le-leb 97 c h, le-leb c 102 g)

-- a digit's value
digit_value : {c d : ℕ} → Digit c d → digit_of c ≡ Some d
digit_value {c} (figure h g) = of_figure c h g
digit_value {c} (capital h g) = of_capital c h g
digit_value {c} (small h g) = of_small c h g

-- it is below 16
digit_below : {c d : ℕ} → Digit c d → d < 16
digit_below (figure h g) = omega arith
digit_below (capital h g) = omega arith
digit_below (small h g) = omega arith

-- what counts as a digit is one, of that worth
digit_of_lem : (c : ℕ) → is_some (digit_of c) ≡ true → Digit c (worth c)
unfolding worth digit_of
digit_of_lem c h = go (leb 48 c && leb c 57) (leb 65 c && leb c 70) (leb 97 c && leb c 102) refl refl refl h
  where
    go : (f k s : Bool) → leb 48 c && leb c 57 ≡ f → leb 65 c && leb c 70 ≡ k → leb 97 c && leb c 102 ≡ s
        → is_some (cond f (Some (c - 48)) (cond k (Some (c - 55)) (cond s (Some (c - 87)) None))) ≡ true
        → Digit c (unwrap_or (cond f (Some (c - 48)) (cond k (Some (c - 55)) (cond s (Some (c - 87)) None))) 0)
    go true k s ef ek es h = let (low, high) = both_hold _ _ ef in figure (leb-true 48 c low) (leb-true c 57 high)
    go false true s ef ek es h = let (low, high) = both_hold _ _ ek in capital (leb-true 65 c low) (leb-true c 70 high)
    go false false true ef ek es h = let (low, high) = both_hold _ _ es in small (leb-true 97 c low) (leb-true c 102 high)
    go false false false ef ek es h = absurd (false≢true h)

-- a byte's worth is below 16
pub worth_below : (c : ℕ) → worth c < 16
worth_below c = go (is_some (digit_of c)) refl
  where
    none : (d : Option ℕ) → is_some d ≡ false → unwrap_or d 0 < 16
    none None h = omega arith
    none (Some n) h = absurd (false≢true (sym h))

    go : (t : Bool) → is_some (digit_of c) ≡ t → worth c < 16
    go true h = digit_below (digit_of_lem c h)
    go false h = unfold worth in none (digit_of c) h

-- two digits are a pair
pub digits_pair : {a b x y : ℕ} → Digit a x → Digit b y → is_pair a b ≡ true
unfolding is_pair
digits_pair {a} {b} p q = rw (digit_value p, digit_value q) refl

-- a pair is two digits
pub pair_digits : (a b : ℕ) → is_pair a b ≡ true → Digit a (worth a) × Digit b (worth b)
unfolding is_pair
pair_digits a b h =
    let (first, second) = both_hold (is_some (digit_of a)) (is_some (digit_of b)) h in
    (digit_of_lem a first, digit_of_lem b second)

-- two digits are a byte
pub digits_byte : {a b x y : ℕ} → Digit a x → Digit b y → 16 * worth a + worth b ≡ 16 * x + y
unfolding worth
digits_byte p q = rw (digit_value p, digit_value q) refl
