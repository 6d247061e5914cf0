-- `intel_hex::image::Image::blank` meets its contract. Assumes nothing.
use mathlib.Core.Path.{ap}
use lib.ListN.{replicate}
use Rattle.intel_hex.proofs.image.Image.blank.Goals as goal

pub returns : goal.returns
returns c = ap (replicate 65536) c.blank.ensures
