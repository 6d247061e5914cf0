-- `vector_text::hex::value` meets its contract: the digits so far give their number. Assumes nothing.
use Rattle.std.proofs.Common.{◌≡◌, ◌%◌, ◌^◌, take}
use Rattle.vector_text.specs.Hex.{value_of}
use Rattle.vector_text.proofs.hex.value.Given as goal

abbrev pub invariant-loop-b : goal.invariant-loop-b
invariant-loop-b l = l.sum ≡ value_of (take l.b-index l.text) % 2 ^ 64
