-- `intel_hex::line::Line::sum` meets its contract: the bytes before `k` are added up. Assumes nothing.
use native.Mathlib.Omega.{arith}
use Rattle.intel_hex.proofs.Adding.{sum_goes}
use Rattle.intel_hex.specs.Reading.{bytes_at}
use Rattle.intel_hex.specs.Records.{total}
use Rattle.intel_hex.proofs.line.Line.sum.Goals as goal

pub loop-i-init : goal.loop-i-init
unfolding bytes_at total
loop-i-init c = omega arith

pub loop-i-preserved : goal.loop-i-preserved
loop-i-preserved c = rw c.byte-sum.ensures (sum_goes c.args.self.now.bytes.now c.loop-i.i c.loop-i.sum c.loop-i.invariant)
