-- `product::div` meets its contract: the joined halves, divided. Assumes nothing.
use Rattle.product.specs.Divide.{unsigned_division}
use Rattle.product.proofs.div.Goals as goal

pub returns : goal.returns
unfolding unsigned_division
returns c =
    rw (← c.taken.ensures.is, ← c.joined.ensures.is) c.divided_unsigned.ensures
