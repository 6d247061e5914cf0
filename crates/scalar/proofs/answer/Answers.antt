-- `scalar::answer` meets its contract: flags come back from their word. Assumes nothing.
use mathlib.Core.Path.{ap, ◌∙◌}
use Rattle.flags.specs.Word.{flags_of}
use Rattle.flags.proofs.RoundTrips.{unpacked}
use Rattle.scalar.specs.Singles.{answer}
use Rattle.scalar.proofs.answer.Goals as goal

pub returns : goal.returns
unfolding answer
returns c = ap flags_of c.pack.ensures.is ∙ unpacked _ ∙ rw c.unpack.ensures
