-- The flags word: CF bit 0, PF 2, AF 4, ZF 6, SF 7, DF 10, OF 11; bit 1 is always set; all others are clear. Assumes nothing.
use Rattle.std.specs.Prelude.{◌≡◌, Bool, ◌&&◌, ℕ, ◌+◌, ◌*◌, ◌%◌, ◌^◌, ◌<◌, ◌==◌}
use Rattle.std.specs.Int.Bits.{bit_and}
use Rattle.width.specs.Numbers.{bit, bit_at}
use Rattle.flags.specs.declared.Flags.{Flags}

-- the flags word of the flags
unfoldable pub word_of : Flags → ℕ
word_of f =
    bit f.cf * 2 ^ 0 + 2 ^ 1 + bit f.pf * 2 ^ 2 + bit f.af * 2 ^ 4 + bit f.zf * 2 ^ 6 + bit f.sf * 2 ^ 7
    + bit f.df * 2 ^ 10
    + bit f.of * 2 ^ 11

-- r is the flags word of the flags
pub record Word (f : Flags) (r : ℕ) : Type 0 where
  pub is : r ≡ word_of f
  pub below : r < 2 ^ 12

-- the flags of a flags word
unfoldable pub flags_of : ℕ → Flags
flags_of n =
    record {
      cf = bit_at 0 n;
      pf = bit_at 2 n;
      af = bit_at 4 n;
      zf = bit_at 6 n;
      sf = bit_at 7 n;
      df = bit_at 10 n;
      of = bit_at 11 n;
    }

-- what number 12 lets pass: bit 1 is set, and no bit outside 0CD7h is
unfoldable pub passes : ℕ → Bool
passes n = bit_at 1 n && bit_and n 0x0CD7 == n

-- 003 "LAHF": AH ← SF:ZF:0:AF:0:PF:1:CF
unfoldable pub ah_of : Flags → ℕ
ah_of f = word_of f % 2 ^ 8

-- r is what LAHF loads
pub record AhWord (f : Flags) (r : ℕ) : Type 0 where
  pub is : r ≡ ah_of f
  pub below : r < 2 ^ 8

-- 003 "SAHF": SF, ZF, AF, PF and CF are loaded from AH; the others stay
unfoldable pub from_ah : ℕ → Flags → Flags
from_ah n f =
    record {
      cf = bit_at 0 n;
      pf = bit_at 2 n;
      af = bit_at 4 n;
      zf = bit_at 6 n;
      sf = bit_at 7 n;
      df = f.df;
      of = f.of;
    }
