-- INC DEC NOT NEG: value and flags. Assumes nothing.
use Rattle.std.specs.Prelude.{false, ℕ, ◌-◌, pos}
use Rattle.width.specs.declared.Size.{Size}
use Rattle.width.specs.Sizes.{modulus}
use Rattle.width.specs.Numbers.{rest}
use Rattle.flags.specs.declared.Flags.{Flags}
use Rattle.arith.specs.declared.Single.{Single}
use Rattle.arith.specs.declared.Single.TheVariants.{Inc, Dec, Not, Neg}
use Rattle.arith.specs.Sums.{sum, difference, value_of, flags_of}
use Rattle.arith.specs.Binary.{difference_flags}

-- the value: NOT sets each bit that is clear and clears each that is set, NEG subtracts from 0
unfoldable pub single_value : Single → Size → ℕ → ℕ
single_value Inc w a = value_of (sum false) w a 1
single_value Dec w a = value_of (difference false) w a 1
single_value Not w a = modulus w - 1 - rest w (pos a)
single_value Neg w a = value_of (difference false) w 0 a

-- the flags: INC and DEC keep CF, NOT changes none
unfoldable pub single_flags : Single → Size → ℕ → Flags → Flags
single_flags Inc w a old = flags_of (sum false) w a 1 old.cf old
single_flags Dec w a old = flags_of (difference false) w a 1 old.cf old
single_flags Not w a old = old
single_flags Neg w a old = difference_flags false w 0 a old
