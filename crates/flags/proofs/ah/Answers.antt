-- `flags::ah` meets its contract. Assumes nothing.
use native.Mathlib.Omega.{arith}
use Rattle.flags.specs.Word.{ah_of}
use Rattle.flags.proofs.ah.Goals as goal

pub returns : goal.returns
unfolding ah_of
returns c = record { is = rw c.pack.ensures.is; below = omega arith }
