-- The policy for an undefined flag, and the flags that a result alone decides. Assumes nothing.
use Rattle.std.specs.Prelude.{Bool, false, ℕ, ◌%◌, ◌^◌, ◌==◌}
use Rattle.std.specs.Int.Count.{ones}
use Rattle.width.specs.declared.Size.{Size}
use Rattle.width.specs.Numbers.{negative}
use Rattle.flags.specs.declared.Flags.{Flags}

-- a flag that 003 leaves undefined is cleared, whatever it was
unfoldable pub undefined_flag : Bool → Bool
undefined_flag old = false

-- the status flags all undefined, DF kept
unfoldable pub all_undefined : Flags → Flags
all_undefined old =
    record {
      cf = undefined_flag old.cf;
      pf = undefined_flag old.pf;
      af = undefined_flag old.af;
      zf = undefined_flag old.zf;
      sf = undefined_flag old.sf;
      df = old.df;
      of = undefined_flag old.of;
    }

-- an even count of ones in the low 8 bits
unfoldable pub parity : ℕ → Bool
parity v = ones (v % 2 ^ 8) % 2 == 0

-- SF, ZF and PF by the result v, CF, AF and OF as given, DF kept
unfoldable pub resulting : Size → ℕ → (cf af of : Bool) → Flags → Flags
resulting w v cf af of old =
    record {
      cf = cf;
      pf = parity v;
      af = af;
      zf = v == 0;
      sf = negative w v;
      df = old.df;
      of = of;
    }
