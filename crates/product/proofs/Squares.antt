-- Numbers of twice the size: what fits in 64 bits, and an integer's two halves from its rest modulo 2 ^ 64. Assumes nothing.
use Rattle.std.proofs.Common.{◌≡◌, ℕ, suc, ◌+◌, ◌-◌, ◌*◌, ◌/◌, ◌%◌, ◌^◌, ◌<◌, ◌≤◌, ℤ, pos, negsuc, ap, ◌∙◌, mod-lt, suc-mul, add-mul, mul-le-mul, mul-pos, arith}
use lib.Arith.{mod-mul, digits_div, digits_mod}
use lib.Signed.{shr_z}
use Rattle.width.specs.declared.Size.{Size}
use Rattle.width.specs.declared.Size.TheVariants.{Byte, Word, Dword}
use Rattle.width.specs.Sizes.{bits, modulus, half}
use Rattle.width.specs.Numbers.{residue, rest}
use Rattle.width.proofs.Differences.{residue_below}
use Rattle.product.specs.Multiply.{halves}

-- how many squares of the modulus 2 ^ 64 has
abbrev pub count : Size → ℕ
count w = 2 ^ 64 / (modulus w * modulus w)

-- a size's squares: with them the modulus times half or modulus is a plain unknown to arithmetic
pub record Squares (w : Size) : Type 0 where
  pub two : modulus w * modulus w ≡ half w * modulus w + half w * modulus w
  pub top : modulus w * modulus w ≤ 2 ^ 64
  pub above_zero : 0 < modulus w
  pub some : 0 < count w
  pub turns : count w * modulus w * modulus w ≡ 2 ^ 64

pub squares : (w : Size) → Squares w
unfolding bits modulus half
squares Byte = omega arith
squares Word = omega arith
squares Dword = omega arith

-- a product of two numbers of 32 bits has 64
pub product_below : (a b : ℕ) → a < 2 ^ 32 → b ≤ 2 ^ 32 → a * b < 2 ^ 64
product_below a b ha hb = omega (arith, mul-le-mul {n₁ = a} {n₂ = 2 ^ 32 - 1} (omega arith) hb)

-- counting back from k * m: both digits count back
back : (k m q r : ℕ) → q < k → r < m → k * m - 1 - (q * m + r) ≡ (k - 1 - q) * m + (m - 1 - r)
back k m q r hq hr = omega (arith, turns)
  where
    rows : k ≡ k - 1 - q + suc q
    rows = omega arith

    turns : k * m ≡ (k - 1 - q) * m + (q * m + m)
    turns = ap (λ (n : ℕ). n * m) rows ∙ add-mul (k - 1 - q) (suc q) m ∙ rw suc-mul

-- an integer's rest modulo k * m in two digits: the rest modulo k of the integer divided by m, rounded down, and its rest modulo m
digits : (k m : ℕ) (z : ℤ) → 0 < k → 0 < m → residue (k * m) z ≡ residue k (shr_z z m) * m + residue m z
unfolding residue
digits k m (pos n) hk hm = mod-mul n hk hm
digits k m (negsuc n) hk hm =
    ap (λ (x : ℕ). k * m - 1 - x) (mod-mul n hk hm)
    ∙ back k m (n / m % k) (n % m) (mod-lt (n / m) hk) (mod-lt n hm)

-- the low digit
low_digit : (k m : ℕ) (z : ℤ) → 0 < k → 0 < m → residue (k * m) z % m ≡ residue m z
low_digit k m z hk hm = rw (digits k m z hk hm) (digits_mod (residue k (shr_z z m)) (residue_below m z hm))

-- the high digit
high_digit : (k m : ℕ) (z : ℤ) → 0 < k → 0 < m → residue (k * m) z / m ≡ residue k (shr_z z m)
high_digit k m z hk hm = rw (digits k m z hk hm) (digits_div (residue k (shr_z z m)) (residue_below m z hm))

module _ (w : Size) (z : ℤ) where
  -- the numbers of twice the size
  twice : Squares w
  twice = squares w

  -- 2 ^ 64 has some moduli
  rows : 0 < count w * modulus w
  rows = mul-pos twice.some twice.above_zero

  -- an integer's low half is that of its rest modulo 2 ^ 64
  pub low_half : rest w (pos (residue (2 ^ 64) z)) ≡ rest w z
  unfolding rest residue
  low_half = rw (← twice.turns) (low_digit (count w * modulus w) (modulus w) z rows twice.above_zero)

  -- and so is its high half
  high_half : rest w (pos (residue (2 ^ 64) z / modulus w)) ≡ rest w (shr_z z (modulus w))
  unfolding rest residue
  high_half =
      rw (← twice.turns, high_digit (count w * modulus w) (modulus w) z rows twice.above_zero)
      (low_digit (count w) (modulus w) (shr_z z (modulus w)) twice.some twice.above_zero)

  -- an integer's halves are those of its rest modulo 2 ^ 64
  pub same_halves : halves w (pos (residue (2 ^ 64) z)) ≡ halves w z
  unfolding halves
  same_halves = rw (low_half, high_half)
