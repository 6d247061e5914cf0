-- `Size::negative` meets its contract. Assumes nothing.
use Rattle.width.specs.Numbers.{negative}
use Rattle.width.proofs.Size.negative.Goals as goal

pub returns : goal.returns
unfolding negative
returns c = rw c.half.ensures
