-- `scalar::first_nan` meets its contract. Assumes nothing.
use Rattle.scalar.specs.Singles.{first_nan}
use Rattle.scalar.proofs.first_nan.Goals as goal

pub returns-then-is_nan : goal.returns-then-is_nan
unfolding first_nan
returns-then-is_nan c = rw (← c.is_nan.ensures, c.if-is_nan.true) c.quieted.ensures

pub returns : goal.returns
unfolding first_nan
returns c = rw (← c.is_nan.ensures, c.if-is_nan.false) c.quieted-2.ensures
