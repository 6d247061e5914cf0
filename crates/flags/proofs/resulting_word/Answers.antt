-- `flags::resulting_word` meets its contract: flags come back from their word. Assumes nothing.
use mathlib.Core.Path.{ap, ◌∙◌}
use Rattle.flags.proofs.RoundTrips.{unpacked}
use Rattle.flags.specs.Word.{flags_of}
use Rattle.flags.proofs.resulting_word.Goals as goal

pub returns : goal.returns
returns c =
    ap flags_of c.pack.ensures.is ∙ unpacked _ ∙ c.resulting.ensures ∙ rw c.unpack.ensures
