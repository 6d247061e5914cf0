-- Division of a dividend of twice the size: 003 "DIV" and "IDIV". Assumes nothing.
use Rattle.std.specs.Prelude.{◌≡◌, ℕ, ◌+◌, ◌*◌, ◌/◌, ◌%◌, ◌<◌, Bool, ◌||◌, ℤ, pos, ◌==◌, Option, None, Some, int_div, int_rem, nat_le, unsigned_abs, if◌then◌else◌}
use Rattle.width.specs.declared.Size.{Size}
use Rattle.width.specs.Sizes.{modulus, half}
use Rattle.width.specs.Numbers.{rest, meaning, signed, outside}
use Rattle.product.specs.declared.Parts.{Parts}

-- the dividend's two halves, taken at the size, joined
unfoldable pub joined : Size → ℕ → ℕ → ℕ
joined w high low = rest w (pos high) * modulus w + rest w (pos low)

-- none, which is a fault, or quotient and remainder, each at the size
unfoldable pub divided : Size → Bool → ℤ → ℤ → Option Parts
divided w fault q r = if fault then None else Some (record { quotient = rest w q; remainder = rest w r })

-- 003 "DIV": a fault where the divisor is 0 or the quotient doesn't fit
unfoldable pub divided_unsigned : Size → ℕ → ℕ → Option Parts
divided_unsigned w n d = divided w (d == 0 || nat_le (modulus w) (n / d)) (pos (n / d)) (pos (n % d))

-- 003 "IDIV": the same over the integers; the quotient is truncated toward zero, the remainder has the dividend's sign
unfoldable pub divided_signed : Size → ℤ → ℤ → Option Parts
divided_signed w n d = divided w (unsigned_abs d == 0 || outside w (int_div n d)) (int_div n d) (int_rem n d)

-- DIV of a dividend of two halves by a divisor of the size
unfoldable pub unsigned_division : Size → ℕ → ℕ → ℕ → Option Parts
unsigned_division w high low d = divided_unsigned w (joined w high low) (rest w (pos d))

-- IDIV of the same, as signed numbers
unfoldable pub signed_division : Size → ℕ → ℕ → ℕ → Option Parts
signed_division w high low d =
    divided_signed w (meaning (half w * modulus w) (joined w high low)) (signed w (rest w (pos d)))

-- quotient and remainder are numbers of the size
abbrev pub Within : Size → Option Parts → Type 0
Within w None = Unit
Within w (Some d) = (d.quotient < modulus w) × (d.remainder < modulus w)

-- r is the division's answer, and its numbers are of the size
pub record Divides (w : Size) (answer r : Option Parts) : Type 0 where
  pub is : r ≡ answer
  pub below : Within w r
