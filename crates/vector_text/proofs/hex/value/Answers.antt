-- `vector_text::hex::value` meets its contract: the digits so far give their number. Assumes nothing.
use Rattle.std.proofs.Common.{arith}
use Rattle.vector_text.proofs.Digits.{value_none, value_more}
use Rattle.vector_text.proofs.hex.value.Goals as goal

pub loop-b-init : goal.loop-b-init
loop-b-init c = value_none

pub loop-b-preserved : goal.loop-b-preserved
loop-b-preserved c =
    rw (c.from.ensures, c.unwrap_or.ensures, c.digit.ensures.stands)
    (value_more _ c.loop-b.b-index c.loop-b.sum (omega arith) c.loop-b.invariant)
