-- `vector_run::taken::Taken::take_bytes` meets its contract: the bytes before this place are taken. Assumes nothing.
use Rattle.std.proofs.Common.{take}
use Rattle.vector_run.specs.Lines.{Took}
use Rattle.vector_run.proofs.taken.Taken.take_bytes.Given as goal

abbrev pub invariant-loop-byte : goal.invariant-loop-byte
invariant-loop-byte g l = Took l.fn.self (take l.byte-index l.bytes) l.self
