-- `product::idiv` meets its contract: the signed numbers that the operands mean, divided. Assumes nothing.
use Rattle.product.specs.Divide.{signed_division}
use Rattle.product.proofs.idiv.Goals as goal

pub returns : goal.returns
unfolding signed_division
returns c =
    rw (← c.operand.ensures.is, ← c.dividend.ensures.is) c.divided_signed.ensures
