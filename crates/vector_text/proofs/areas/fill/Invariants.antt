-- `vector_text::areas::fill` meets its contract: the bytes before this place are filled. Assumes nothing.
use Rattle.std.proofs.Common.{◌≡◌, take}
use Rattle.vector_text.specs.Hex.{bytes_of, padded}
use Rattle.vector_text.proofs.areas.fill.Given as goal

abbrev pub invariant-loop-i : goal.invariant-loop-i
invariant-loop-i l = take l.i l.area ≡ padded l.i (bytes_of l.text)
