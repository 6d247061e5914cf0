-- The word and the length, one after another.
use Rattle.text.proofs.Writing.{adds_both}
use Rattle.text.specs.Ascii.{ascii}
use Rattle.unhex_text.specs.Unhexing.{code_line}
use Rattle.unhex_text.proofs.put_code.Goals as goal

pub returns : goal.returns
unfolding code_line ascii
returns c = adds_both c.bytes.ensures c.field.ensures
