-- `scalar::is_nan` meets its contract. Assumes nothing.
use Rattle.scalar.proofs.Numbers.{nan_above}
use Rattle.scalar.proofs.is_nan.Goals as goal

pub returns : goal.returns
returns c = nan_above c.args.bits
