-- `Signed::remainder` meets its contract: the magnitudes' remainder, with the dividend's sign. Assumes nothing.
use Rattle.std.proofs.Common.{sym}
use Rattle.product.proofs.Magnitudes.{remainder}
use Rattle.product.proofs.Signed.remainder.Goals as goal

pub returns : goal.returns
returns c =
    sym (remainder _ _ _ _)
