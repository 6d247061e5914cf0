-- `shift::Number::shifted_right` meets its contract: what is shifted right grows no larger. Assumes nothing.
use mathlib.Core.Path.{refl}
use native.Mathlib.Omega.{arith}
use lib.Pow.{shr_le}
use Rattle.shift.proofs.Number.shifted_right.Goals as goal

pub returns : goal.returns
returns c =
    record { is = refl; below = omega (arith, shr_le c.args.self.value c.args.k) }
