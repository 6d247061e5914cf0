-- `Signed::quotient` meets its contract: magnitudes are divided, and signs compared. Assumes nothing.
use Rattle.std.proofs.Common.{sym}
use Rattle.product.proofs.Magnitudes.{quotient}
use Rattle.product.proofs.Signed.quotient.Goals as goal

pub returns : goal.returns
returns c =
    sym (quotient _ _ _ _)
