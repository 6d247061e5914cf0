-- A truth value as a number, by std's conversion. Assumes nothing.
use mathlib.Core.Path.{refl}
use mathlib.Core.Bool.{Bool, true, false}
use native.Mathlib.Omega.{arith}
use Rattle.std.specs.Int.{from_bool}
use Rattle.width.specs.Numbers.{bit, Bit}

pub truth : (b : Bool) → Bit b (from_bool b)
unfolding bit
truth true = record { is = refl; below = omega arith }
truth false = record { is = refl; below = omega arith }
