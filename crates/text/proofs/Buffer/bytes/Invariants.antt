-- The bytes before the index are written.
use Rattle.std.proofs.Common.{take}
use Rattle.text.specs.Written.{Adds}
use Rattle.text.proofs.Buffer.bytes.Given as goal

abbrev pub invariant-loop-byte : goal.invariant-loop-byte
invariant-loop-byte l = Adds l.fn.self (take l.byte-index l.bytes) l.self
