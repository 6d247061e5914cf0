-- `vector_run::taken::Taken::take_bytes` meets its contract: the bytes before this place are taken. Assumes nothing.
use Rattle.std.proofs.Common.{arith}
use Rattle.vector_run.proofs.Taking.{took_none, took_next}
use Rattle.vector_run.proofs.taken.Taken.take_bytes.Goals as goal

pub loop-byte-init : goal.loop-byte-init
loop-byte-init g c = took_none _

pub loop-byte-preserved : goal.loop-byte-preserved
loop-byte-preserved g c = took_next _ _ _ _ c.loop-byte.byte-index (omega arith) c.loop-byte.invariant c.take_byte.ensures
