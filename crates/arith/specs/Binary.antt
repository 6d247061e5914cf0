-- ADD OR ADC SBB AND SUB XOR CMP: value and flags. TEST has the flags of AND. Assumes nothing.
use Rattle.std.specs.Prelude.{Bool, false, ℕ, pos}
use Rattle.std.specs.Int.Bits.{bit_and, bit_or, bit_xor}
use Rattle.width.specs.declared.Size.{Size}
use Rattle.width.specs.Numbers.{rest}
use Rattle.flags.specs.declared.Flags.{Flags}
use Rattle.flags.specs.Results.{undefined_flag, resulting}
use Rattle.arith.specs.declared.Binary.{Binary}
use Rattle.arith.specs.declared.Binary.TheVariants.{Add, Or, Adc, Sbb, And, Sub, Xor, Cmp}
use Rattle.arith.specs.Sums.{sum, difference, value_of, carries, flags_of}

-- the value; of CMP, which assigns nothing, the difference that its flags are of. c is CF
unfoldable pub binary_value : Binary → Size → ℕ → ℕ → Bool → ℕ
binary_value Add w a b c = value_of (sum false) w a b
binary_value Or w a b c = rest w (pos (bit_or a b))
binary_value Adc w a b c = value_of (sum c) w a b
binary_value Sbb w a b c = value_of (difference c) w a b
binary_value And w a b c = rest w (pos (bit_and a b))
binary_value Sub w a b c = value_of (difference false) w a b
binary_value Xor w a b c = rest w (pos (bit_xor a b))
binary_value Cmp w a b c = value_of (difference false) w a b

-- 003 "AND", "OR", "XOR", "TEST": CF and OF are cleared, AF is undefined; v is the result
unfoldable pub logic_flags : Size → ℕ → Flags → Flags
logic_flags w v old = resulting w v false (undefined_flag old.af) false old

-- the flags after a sum with a carry
unfoldable pub sum_flags : Bool → Size → ℕ → ℕ → Flags → Flags
sum_flags c w a b old = flags_of (sum c) w a b (carries (sum c) w a b) old

-- the flags after a difference with a borrow
unfoldable pub difference_flags : Bool → Size → ℕ → ℕ → Flags → Flags
difference_flags c w a b old = flags_of (difference c) w a b (carries (difference c) w a b) old

-- the flags
unfoldable pub binary_flags : Binary → Size → ℕ → ℕ → Flags → Flags
binary_flags Add w a b old = sum_flags false w a b old
binary_flags Or w a b old = logic_flags w (rest w (pos (bit_or a b))) old
binary_flags Adc w a b old = sum_flags old.cf w a b old
binary_flags Sbb w a b old = difference_flags old.cf w a b old
binary_flags And w a b old = logic_flags w (rest w (pos (bit_and a b))) old
binary_flags Sub w a b old = difference_flags false w a b old
binary_flags Xor w a b old = logic_flags w (rest w (pos (bit_xor a b))) old
binary_flags Cmp w a b old = difference_flags false w a b old
