-- `Signed::outside` meets its contract: a signed number is a difference from zero. Assumes nothing.
use Rattle.product.proofs.Magnitudes.{above, under}
use Rattle.product.proofs.Signed.outside.Goals as goal

pub returns-then-self : goal.returns-then-self
returns-then-self c =
    rw (c.if-self.true, under _) c.outside.ensures

pub returns-else-self : goal.returns-else-self
returns-else-self c =
    rw (c.if-self.false, above _) c.outside-else-self.ensures
