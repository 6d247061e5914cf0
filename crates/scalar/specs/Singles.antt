-- M-106's arithmetic on singles by their bits, over IEEE 754's on the numbers that they stand for (`lib.Ieee`). a is the first operand, b the second. Assumes nothing.
use Rattle.std.specs.Prelude.{Bool, true, false, ◌&&◌, ◌||◌, ℕ, ◌%◌, ◌^◌, Float, if◌then◌else◌, ◌==◌}
use Rattle.std.specs.Int.Bits.{bit_or}
use Rattle.std.specs.Float.{binary32}
use Rattle.std.specs.Float.Ieee.{add, sub, mul, div, lt, is_nan, nan_bits, of_bits, to_bits}
use Rattle.flags.specs.declared.Flags.{Flags}
use Rattle.scalar.specs.declared.Compute.{Compute}
use Rattle.scalar.specs.declared.Compute.TheVariants.{Add, Mul, Sub, Min, Div, Max}

-- the bits are a NaN's: the exponent is all ones, the fraction isn't 0
unfoldable pub is_single_nan : ℕ → Bool
is_single_nan b = nan_bits binary32 b

-- the bits are those of a zero of either sign
unfoldable pub is_zero : ℕ → Bool
is_zero b = b % 2 ^ 31 == 0

-- the number that bits stand for
unfoldable pub number : ℕ → Float
number b = of_bits binary32 b

-- a NaN with its quiet bit, bit 22, set
unfoldable pub quieted : ℕ → ℕ
quieted b = bit_or b 0x0040_0000

-- a NaN operand is settled from its bits: the first operand if it is a NaN, else the second, with its quiet bit set
unfoldable pub first_nan : ℕ → ℕ → ℕ
first_nan a b = if is_single_nan a then quieted a else quieted b

-- the bits of what an operation on numbers gives; an invalid one gives FFC00000h
unfoldable pub result_of : Float → ℕ
result_of x = if is_nan x then 0xFFC0_0000 else to_bits binary32 x

-- 003 "ADDSS", "MULSS", "SUBSS", "DIVSS": an operation that is rounded once, to nearest even
unfoldable pub rounded : (Float → Float → Float) → ℕ → ℕ → ℕ
rounded op a b = if is_single_nan a || is_single_nan b then first_nan a b else result_of (op (number a) (number b))

-- 003 "MINSS", "MAXSS": the second operand unchanged if either is a NaN or both are zeros; else the first where it comes before the second
unfoldable pub chosen : (Float → Float → Bool) → ℕ → ℕ → ℕ
chosen before a b =
    if is_single_nan a || is_single_nan b || (is_zero a && is_zero b) then b else (if before (number a) (number b) then a else b)

-- what the operation gives
unfoldable pub computed : Compute → ℕ → ℕ → ℕ
computed Add a b = rounded (add binary32) a b
computed Mul a b = rounded (mul binary32) a b
computed Sub a b = rounded (sub binary32) a b
computed Min a b = chosen lt a b
computed Div a b = rounded (div binary32) a b
computed Max a b = chosen (λ x y. lt y x) a b

-- ZF, PF and CF as given, OF, SF and AF clear, DF kept
unfoldable pub answer : (zf pf cf : Bool) → Flags → Flags
answer zf pf cf old =
    record { cf = cf; pf = pf; af = false; zf = zf; sf = false; df = old.df; of = false }

-- 003 "COMISS": ZF, PF, CF are 1 1 1 unordered, 0 0 0 greater, 0 0 1 less, 1 0 0 equal
unfoldable pub compared : ℕ → ℕ → Flags → Flags
compared a b f =
    if is_single_nan a || is_single_nan b then answer true true true f
    else (if lt (number b) (number a) then answer false false false f
    else (if lt (number a) (number b) then answer false false true f else answer true false false f))
