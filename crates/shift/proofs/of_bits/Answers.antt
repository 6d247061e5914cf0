-- `shift::of_bits` meets its contract. Assumes nothing.
use mathlib.Core.Path.{refl}
use native.Mathlib.Omega.{arith}
use Rattle.shift.proofs.Turns.{few}
use Rattle.shift.proofs.of_bits.Goals as goal

pub nonzero_rem-result : goal.nonzero_rem-result
nonzero_rem-result c = let sizes = few c.args.w in omega arith

pub returns : goal.returns
returns c = let sizes = few c.args.w in rw c.bits.ensures (record { is = refl; below = omega arith })
