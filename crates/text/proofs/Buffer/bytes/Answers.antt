-- The bytes are written one after another.
use Rattle.text.proofs.Writing.{adds_none, adds_next}
use Rattle.text.proofs.Buffer.bytes.Goals as goal

pub loop-byte-init : goal.loop-byte-init
loop-byte-init c = adds_none _

pub loop-byte-preserved : goal.loop-byte-preserved
loop-byte-preserved c = adds_next _ _ c.loop-byte-test.true c.loop-byte.invariant c.byte.ensures
