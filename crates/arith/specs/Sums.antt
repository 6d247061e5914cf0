-- Sums and differences: each is one operation over the integers, and value and flags say how its result fits the size. Assumes nothing.
use Rattle.std.specs.Prelude.{Bool, ℕ, ◌%◌, ◌^◌, ℤ, pos, ◌+ℤ◌, ◌-ℤ◌}
use Rattle.width.specs.declared.Size.{Size}
use Rattle.width.specs.Sizes.{modulus}
use Rattle.width.specs.Numbers.{bit, rest, beyond, signed, outside}
use Rattle.flags.specs.declared.Flags.{Flags}
use Rattle.flags.specs.Results.{resulting}

-- 003 "ADC": DEST + SRC + CF; "ADD" is the same with no carry
abbrev pub sum : Bool → ℤ → ℤ → ℤ
sum c x y = x +ℤ y +ℤ pos (bit c)

-- 003 "SBB": DEST - (SRC + CF); "SUB" and "CMP" are the same with no carry
abbrev pub difference : Bool → ℤ → ℤ → ℤ
difference c x y = x -ℤ (y +ℤ pos (bit c))

-- the result at the size
unfoldable pub value_of : (ℤ → ℤ → ℤ) → Size → ℕ → ℕ → ℕ
value_of op w a b = rest w (op (pos a) (pos b))

-- CF: the unsigned result lies outside the size's numbers
unfoldable pub carries : (ℤ → ℤ → ℤ) → Size → ℕ → ℕ → Bool
carries op w a b = beyond (modulus w) (op (pos a) (pos b))

-- AF: the result of the low four bits lies outside the numbers of four bits
unfoldable pub adjusts : (ℤ → ℤ → ℤ) → ℕ → ℕ → Bool
adjusts op a b = beyond (2 ^ 4) (op (pos (a % 2 ^ 4)) (pos (b % 2 ^ 4)))

-- OF: the signed result lies outside the size's signed numbers
unfoldable pub overflows : (ℤ → ℤ → ℤ) → Size → ℕ → ℕ → Bool
overflows op w a b = outside w (op (signed w a) (signed w b))

-- the flags after the operation, where CF is as given
unfoldable pub flags_of : (ℤ → ℤ → ℤ) → Size → ℕ → ℕ → Bool → Flags → Flags
flags_of op w a b cf old = resulting w (value_of op w a b) cf (adjusts op a b) (overflows op w a b) old
