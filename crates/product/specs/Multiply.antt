-- Multiplication at a size: 003 "MUL" and "IMUL". Assumes nothing.
use Rattle.std.specs.Prelude.{◌≡◌, ℕ, ◌*◌, ◌<◌, Bool, not, ℤ, pos, ◌*ℤ◌, ◌==◌}
use Rattle.std.specs.Int.Signed.{shr_z}
use Rattle.width.specs.declared.Size.{Size}
use Rattle.width.specs.Sizes.{modulus}
use Rattle.width.specs.Numbers.{rest, signed, outside}
use Rattle.flags.specs.declared.Flags.{Flags}
use Rattle.flags.specs.Results.{undefined_flag}
use Rattle.product.specs.declared.Product.{Product}

-- an integer's two halves, each at the size
unfoldable pub halves : Size → ℤ → Product
halves w z = record { low = rest w z; high = rest w (shr_z z (modulus w)) }

-- 003 "MUL": the unsigned product of two numbers, taken at the size
unfoldable pub unsigned_product : Size → ℕ → ℕ → ℤ
unsigned_product w a b = pos (rest w (pos a) * rest w (pos b))

-- 003 "IMUL": the signed product
unfoldable pub signed_product : Size → ℕ → ℕ → ℤ
signed_product w a b = signed w (rest w (pos a)) *ℤ signed w (rest w (pos b))

-- the product's halves are numbers of the size
pub record Halves (w : Size) (z : ℤ) (r : Product) : Type 0 where
  pub is : r ≡ halves w z
  pub low_below : r.low < modulus w
  pub high_below : r.high < modulus w

-- MUL sets CF and OF exactly if the high half isn't 0
unfoldable pub unsigned_spills : Size → ℕ → ℕ → Bool
unsigned_spills w a b = not ((halves w (unsigned_product w a b)).high == 0)

-- IMUL sets them exactly if the full product isn't the low half extended by sign: it is no signed number of the size
unfoldable pub signed_spills : Size → ℕ → ℕ → Bool
signed_spills w a b = outside w (signed_product w a b)

-- CF and OF as given; SF, ZF, AF and PF undefined
unfoldable pub product_flags : Bool → Flags → Flags
product_flags spills old =
    record {
      cf = spills;
      pf = undefined_flag old.pf;
      af = undefined_flag old.af;
      zf = undefined_flag old.zf;
      sf = undefined_flag old.sf;
      df = old.df;
      of = spills;
    }
