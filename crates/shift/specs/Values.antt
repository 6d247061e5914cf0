-- What shifts and rotates give: 003 "SAL/SAR/SHL/SHR" and "RCL/RCR/ROL/ROR". Assumes nothing.
use Rattle.std.specs.Prelude.{◌≡◌, Bool, ℕ, ◌+◌, ◌-◌, ◌*◌, ◌/◌, ◌%◌, ◌^◌, ◌<◌, pos}
use Rattle.std.specs.Int.Signed.{shr_z}
use Rattle.width.specs.declared.Size.{Size}
use Rattle.width.specs.Sizes.{bits, modulus}
use Rattle.width.specs.Numbers.{bit, rest, signed}
use Rattle.shift.specs.declared.Shift.{Shift}
use Rattle.shift.specs.declared.Shift.TheVariants.{Rol, Ror, Rcl, Rcr, Shl, Shr, Sar}

-- counts are taken modulo 32
unfoldable pub masked : ℕ → ℕ
masked count = count % 32

-- r is the count k modulo b
pub record Part (b k r : ℕ) : Type 0 where
  pub is : r ≡ k % b
  pub below : r < b

-- a number of b bits, turned right by k: its low k bits go to the top
unfoldable pub turned_right : ℕ → ℕ → ℕ → ℕ
turned_right b k x = x % 2 ^ k * 2 ^ (b - k) + x / 2 ^ k

-- a number of b bits, turned left by k: its top k bits go to the bottom
unfoldable pub turned_left : ℕ → ℕ → ℕ → ℕ
turned_left b k x = turned_right b (b - k) x

-- the number with CF above its top bit, as RCL and RCR turn it
unfoldable pub with_carry : Size → Bool → ℕ → ℕ
with_carry w c v = bit c * modulus w + v

-- RCL: CF and the number, nine, 17 or 33 bits, turned left, by the count modulo that many
unfoldable pub through_left : Size → ℕ → ℕ → Bool → ℕ
through_left w v k c = turned_left (bits w + 1) (k % (bits w + 1)) (with_carry w c v)

-- RCR: the same bits, turned right
unfoldable pub through_right : Size → ℕ → ℕ → Bool → ℕ
through_right w v k c = turned_right (bits w + 1) (k % (bits w + 1)) (with_carry w c v)

-- the number v of the size, shifted or rotated by k of 0 to 31; c is CF
unfoldable pub shifted : Shift → Size → ℕ → ℕ → Bool → ℕ
shifted Rol w v k c = turned_left (bits w) (k % bits w) v
shifted Ror w v k c = turned_right (bits w) (k % bits w) v
shifted Rcl w v k c = through_left w v k c % modulus w
shifted Rcr w v k c = through_right w v k c % modulus w
shifted Shl w v k c = rest w (pos (v * 2 ^ k))
shifted Shr w v k c = v / 2 ^ k
shifted Sar w v k c = rest w (shr_z (signed w v) (2 ^ k))

-- the value of a shift or rotate of v, taken at the size, by any count
unfoldable pub shift_value : Shift → Size → ℕ → ℕ → Bool → ℕ
shift_value op w v count c = shifted op w (rest w (pos v)) (masked count) c
