-- Laws of double numbers that are shifted. Assumes nothing.
use mathlib.Core.Path.{◌≡◌, sym, ap, ◌∙◌}
use Prim.Native.Nat.{ℕ, ◌+◌, ◌-◌, ◌*◌, ◌/◌, ◌%◌, ◌^◌, ◌<◌, ◌≤◌}
use native.Mathlib.Nat.{add-sub_of_le}
use native.Mathlib.Omega.{arith}
use lib.Arith.{digits_lt}
use lib.Pow.{shr-shr, shl-shr, shl_exact}
use Rattle.width.specs.declared.Size.{Size}
use Rattle.width.specs.Sizes.{bits, modulus}
use Rattle.width.proofs.Widths.{numbers}
use Rattle.shift.proofs.Turns.{few}

-- 64 bits hold a number above a size's bits
pub above : (w : Size) (n : ℕ) → n < 2 ^ 32 → n * 2 ^ bits w % 2 ^ 64 ≡ n * modulus w
unfolding modulus
above w n h = let sizes = few w in shl_exact 32 (bits w) 64 h (omega arith)

-- and a double number
pub double_fits : (w : Size) (high low : ℕ) → high < 2 ^ 32 → low < modulus w → high * modulus w + low < 2 ^ 64
double_fits w high low h l = let nums = numbers w in omega (arith, digits_lt h l)

-- the upper half after a shift to the left by k is what a shift to the right by the rest of the width leaves
pub upper_half : (w : Size) (k x : ℕ) → k ≤ bits w → x * 2 ^ k / modulus w ≡ x / 2 ^ (bits w - k)
unfolding modulus
upper_half w k x h =
    ap (λ (n : ℕ). x * 2 ^ k / 2 ^ n) (sym (add-sub_of_le h)) ∙ sym (shr-shr (x * 2 ^ k) k (bits w - k))
    ∙ ap (λ (n : ℕ). n / 2 ^ (bits w - k)) (shl-shr x k)
