-- `intel_hex::line::Line::sum` meets its contract: the bytes before `k` are added up. Assumes nothing.
use mathlib.Core.Path.{◌≡◌}
use Prim.Native.Nat.{◌%◌}
use Rattle.intel_hex.specs.Reading.{bytes_at}
use Rattle.intel_hex.specs.Records.{total}
use Rattle.intel_hex.proofs.line.Line.sum.Given as goal

abbrev pub invariant-loop-i : goal.invariant-loop-i
invariant-loop-i l = l.sum ≡ total (bytes_at l.self.bytes.now 1 l.i) % 256
