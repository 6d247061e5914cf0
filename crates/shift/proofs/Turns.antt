-- Laws of a number of b bits that is turned right, and of the bits of a size. Assumes nothing.
use mathlib.Core.Path.{◌≡◌, refl, sym, ap, ◌∙◌}
use Prim.Native.Nat.{ℕ, ◌+◌, ◌-◌, ◌*◌, ◌/◌, ◌%◌, ◌^◌, ◌<◌, ◌≤◌}
use native.Mathlib.Nat.{mod-lt, mod-eq_of_lt, mod-eq-sub-div-mul, div-mul-le_self, div-eq_of_lt, add-sub_of_le, sub_self}
use native.Mathlib.Omega.{arith}
use lib.Arith.{digits_lt}
use lib.Pow.{pow_pos, pow_mono, pow-add, shr_lt}
use Rattle.width.specs.declared.Size.{Size}
use Rattle.width.specs.declared.Size.TheVariants.{Byte, Word, Dword}
use Rattle.width.specs.Sizes.{bits, modulus}
use Rattle.shift.specs.Values.{turned_right}
use Rattle.shift.specs.Parts.{Turned}

-- a size's bits are few, and no fewer than two
pub record Few (w : Size) : Type 0 where
  pub some : 2 ≤ bits w
  pub top : bits w ≤ 32

-- each size has them
pub few : (w : Size) → Few w
unfolding bits
few Byte = omega arith
few Word = omega arith
few Dword = omega arith

-- one bit more, twice as many numbers
pub doubled : (w : Size) → 2 ^ (bits w + 1) ≡ modulus w + modulus w
unfolding modulus
doubled w = omega (arith, pow-add 2 (bits w) 1)

-- the k low bits, as what the high ones leave
low_bits : (k x : ℕ) → x < 2 ^ 64 → x - x / 2 ^ k * 2 ^ k % 2 ^ 64 ≡ x % 2 ^ k
low_bits k x h =
    ap (λ (n : ℕ). x - n) (mod-eq_of_lt (omega (arith, div-mul-le_self x (2 ^ k))))
    ∙ sym (mod-eq-sub-div-mul x (2 ^ k))

-- turned by all its bits, a number is as it was
pub turned_round : (b x : ℕ) → x < 2 ^ b → turned_right b b x ≡ x
unfolding turned_right
turned_round b x h = rw (mod-eq_of_lt h, div-eq_of_lt h, sub_self) (omega arith)

module _ (b k x : ℕ) (h : k ≤ b) (l : x < 2 ^ b) where
  -- k bits and those above them
  parted : 2 ^ b ≡ 2 ^ k * 2 ^ (b - k)
  parted = ap (λ (n : ℕ). 2 ^ n) (sym (add-sub_of_le h)) ∙ pow-add 2 k (b - k)

  -- the bits above and the k below are all
  joined : b - k + k ≡ b
  joined = omega arith

  -- what is turned stays a number of b bits
  pub turned_below : turned_right b k x < 2 ^ b
  unfolding turned_right
  turned_below = rw parted (digits_lt (mod-lt x (pow_pos k)) (shr_lt (b - k) k (rw joined l)))

  module _ (t : b ≤ 33) where
    -- 64 bits hold a number of b bits
    wide : 2 ^ b ≤ 2 ^ 33
    wide = pow_mono t

    -- the turn by shifts and a difference, on 64 bits
    pub turned : Turned b k x ((x - x / 2 ^ k * 2 ^ k % 2 ^ 64) * 2 ^ (b - k) % 2 ^ 64 + x / 2 ^ k)
    unfolding turned_right
    turned =
        rw (
          low_bits k x (omega (arith, wide)),
          mod-eq_of_lt {n = x % 2 ^ k * 2 ^ (b - k)} {m = 2 ^ 64} (omega (arith, wide, turned_below)),
        )
        (record { is = refl; below = turned_below })

    -- it fits 64 bits
    pub turned_fits : (x - x / 2 ^ k * 2 ^ k % 2 ^ 64) * 2 ^ (b - k) % 2 ^ 64 + x / 2 ^ k < 2 ^ 64
    turned_fits = omega (arith, wide, turned.below)
