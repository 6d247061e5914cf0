-- Bit tests: 003 "BT", "BTS", "BTR", "BTC", with document 02's choices. Assumes nothing.
use Rattle.std.specs.Prelude.{Bool, true, false, not, ℕ, ◌+◌, ◌*◌, ◌/◌, ◌%◌, ◌^◌, pos, ◌+ℤ◌, ◌*ℤ◌}
use Rattle.std.specs.Int.Signed.{shr_z}
use Rattle.width.specs.declared.Size.{Size}
use Rattle.width.specs.declared.Size.TheVariants.{Dword}
use Rattle.width.specs.Sizes.{bits, bytes}
use Rattle.width.specs.Numbers.{bit, bit_at, rest, signed}
use Rattle.flags.specs.declared.Flags.{Flags}
use Rattle.flags.specs.Results.{undefined_flag}
use Rattle.bits.specs.declared.BitTest.{BitTest}
use Rattle.bits.specs.declared.BitTest.TheVariants.{Bt, Bts, Btr, Btc}

-- the bit of a unit that an offset selects: the offset modulo the width
unfoldable pub selected : Size → ℕ → ℕ
selected w offset = offset % bits w

-- a number with its bit k as given: the bits above it, the bit, the bits below it
unfoldable pub with_bit : ℕ → ℕ → Bool → ℕ
with_bit k v b = v / 2 ^ (k + 1) * 2 ^ (k + 1) + bit b * 2 ^ k + v % 2 ^ k

-- the selected bit afterwards: as it was, set, reset, complemented
unfoldable pub bit_after : BitTest → Bool → Bool
bit_after Bt b = b
bit_after Bts b = true
bit_after Btr b = false
bit_after Btc b = not b

-- the value of a bit test of v
unfoldable pub test_value : BitTest → Size → ℕ → ℕ → ℕ
test_value op w v offset = with_bit (selected w offset) v (bit_after op (bit_at (selected w offset) v))

-- CF is the selected bit before; the other status flags are undefined
unfoldable pub test_flags : Size → ℕ → ℕ → Flags → Flags
test_flags w v offset f =
    record {
      cf = bit_at (selected w offset) v;
      pf = undefined_flag f.pf;
      af = undefined_flag f.af;
      zf = undefined_flag f.zf;
      sf = undefined_flag f.sf;
      df = f.df;
      of = undefined_flag f.of;
    }

-- where the unit is that holds the bit of a signed offset, counted from the effective address a:
-- a + bytes * (offset DIV bits), DIV rounding down, wrapping at 2^32
unfoldable pub unit_address : Size → ℕ → ℕ → ℕ
unit_address w a offset = rest Dword (pos a +ℤ pos (bytes w) *ℤ shr_z (signed w offset) (bits w))
