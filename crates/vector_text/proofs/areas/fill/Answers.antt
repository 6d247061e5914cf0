-- `vector_text::areas::fill` meets its contract: the bytes before this place are filled. Assumes nothing.
use Rattle.std.proofs.Common.{refl, arith}
use Rattle.vector_text.specs.Hex.{padded}
use Rattle.vector_text.proofs.Bytes.{fill_goes}
use Rattle.vector_text.proofs.areas.fill.Goals as goal

pub loop-i-init : goal.loop-i-init
unfolding padded
loop-i-init c = refl

pub loop-i-preserved : goal.loop-i-preserved
loop-i-preserved c = rw c.byte_at.ensures (fill_goes c.loop-i.area _ c.loop-i.i (omega arith) c.loop-i.invariant)
