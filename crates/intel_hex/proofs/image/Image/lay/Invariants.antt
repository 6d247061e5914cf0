-- `intel_hex::image::Image::lay` meets its contract: the data bytes before `k` are laid. Assumes nothing.
use mathlib.Core.List.{List}
use Prim.Native.Nat.{ℕ}
use Rattle.intel_hex.proofs.Picture.{Laying}
use Rattle.intel_hex.specs.Reading.{Shows}
use Rattle.intel_hex.proofs.image.Image.lay.Given as goal

abbrev pub invariant-loop-k : goal.invariant-loop-k
invariant-loop-k l = (bytes : List (ℕ × ℕ)) → Shows bytes l.initial.self.cells → Laying l.line.bytes.now l.from bytes l.k l.self.cells
