-- `intel_hex::image::Image::copy_to` meets its contract: the bytes before `i` are copied. Assumes nothing.
use Rattle.intel_hex.specs.Reading.{Copied}
use Rattle.intel_hex.proofs.image.Image.copy_to.Given as goal

abbrev pub invariant-loop-i : goal.invariant-loop-i
invariant-loop-i l = Copied l.self.cells l.initial.code l.i l.code
