-- Bit scans: the places of a number's lowest and highest one; 003 "BSF", "BSR". Assumes nothing.
use Rattle.std.specs.Prelude.{◌≡◌, true, false, ℕ, ◌-◌, ◌<◌, ◌==◌}
use Rattle.std.specs.Int.Count.{count_trailing_zeros, count_leading_zeros}
use Rattle.width.specs.Numbers.{bit_at}
use Rattle.flags.specs.declared.Flags.{Flags}
use Rattle.flags.specs.Results.{undefined_flag}
use Rattle.bits.specs.declared.Scan.{Scan}
use Rattle.bits.specs.declared.Scan.TheVariants.{Bsf, Bsr}

-- k is the place of a number's lowest one
pub record Lowest (v k : ℕ) : Type 0 where
  pub one : bit_at k v ≡ true
  pub zeros : (j : ℕ) → j < k → bit_at j v ≡ false

-- k is the place of a number's highest one
pub record Highest (v k : ℕ) : Type 0 where
  pub one : bit_at k v ≡ true
  pub zeros : (j : ℕ) → k < j → bit_at j v ≡ false

-- the index of a number's lowest one, from the zeros below it; of its highest, from the zeros above it in 32 bits
unfoldable pub scan_value : Scan → ℕ → ℕ
scan_value Bsf v = count_trailing_zeros 32 v
scan_value Bsr v = 31 - count_leading_zeros 32 v

-- ZF is set exactly if the source is 0; the other status flags are undefined
unfoldable pub scan_flags : ℕ → Flags → Flags
scan_flags v f =
    record {
      cf = undefined_flag f.cf;
      pf = undefined_flag f.pf;
      af = undefined_flag f.af;
      zf = v == 0;
      sf = undefined_flag f.sf;
      df = f.df;
      of = undefined_flag f.of;
    }
