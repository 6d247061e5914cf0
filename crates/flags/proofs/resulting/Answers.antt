-- `flags::resulting` meets its contract. Assumes nothing.
use Rattle.flags.specs.Results.{resulting}
use Rattle.flags.proofs.resulting.Goals as goal

pub returns : goal.returns
unfolding resulting
returns c = rw (← c.negative.ensures, ← c.parity.ensures)
