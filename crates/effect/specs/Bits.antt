-- Operations on bits: what each computes, beside 003's page for it, and where a bit of a string is. Assumes nothing.
use Rattle.std.specs.Prelude.{Bool, true, false, not, ℕ, ◌==◌}
use Rattle.width.specs.declared.Size.{Size}
use Rattle.flags.specs.declared.Flags.{Flags}
use Rattle.bits.specs.declared.BitTest.{BitTest}
use Rattle.bits.specs.declared.BitTest.TheVariants.{Bt, Bts, Btr, Btc}
use Rattle.bits.specs.declared.Scan.{Scan}
use Rattle.bits.specs.declared.DoubleShift.{DoubleShift}
use Rattle.bits.specs.Tests.{test_value, test_flags, unit_address}
use Rattle.bits.specs.Scans.{scan_value, scan_flags}
use Rattle.bits.specs.Doubles.{double_value, double_flags}
use Rattle.machine.specs.declared.registers.Machine.{Machine}
use Rattle.sense.specs.declared.Bits.{Bits}
use Rattle.plan.specs.declared.Plan.{Plan}
use Rattle.effect.specs.Outcomes.{Computed}
use Rattle.effect.specs.Words.{value}

-- where the unit in memory is that holds the bit of the offset SRC, where m is the machine before and a the effective address
unfoldable pub unit_of : Machine → Plan → ℕ → ℕ
unit_of m p a = unit_address p.size a (value p.source m 0 p.size)

-- whether a bit test assigns its value: BT does not
unfoldable pub changes : BitTest → Bool
changes Bt = false
changes Bts = true
changes Btr = true
changes Btc = true

-- 003 "BT", "BTS", "BTR", "BTC": CF ← the bit of DEST at the offset SRC, and that bit is changed
unfoldable pub bit_tested : BitTest → Size → ℕ → ℕ → Flags → Computed
bit_tested op w v offset f = record { flags = test_flags w v offset f; value = test_value op w v offset; assigned = changes op }

-- 003 "BSF", "BSR": DEST ← the index of SRC's lowest or highest one; of 0 DEST keeps its value
unfoldable pub scanned : Scan → ℕ → Flags → Computed
scanned op v f = record { flags = scan_flags v f; value = scan_value op v; assigned = not (v == 0) }

-- 003 "SHLD", "SHRD": DEST moved by the count, with SRC behind it
unfoldable pub double_shifted : DoubleShift → Size → ℕ → ℕ → ℕ → Flags → Computed
double_shifted op w d s count f = record { flags = double_flags op w d s count f; value = double_value op w d s count; assigned = true }

-- what the operation computes, of DEST, SRC and the count
unfoldable pub bits_computed : Bits → Size → ℕ → ℕ → ℕ → Flags → Computed
bits_computed (Bits.Test op) w d s count f = bit_tested op w d s f
bits_computed (Bits.Scan op) w d s count f = scanned op s f
bits_computed (Bits.Double op) w d s count f = double_shifted op w d s count f
