-- The word, the number and the place, one after another.
use Rattle.text.proofs.Writing.{adds_both}
use Rattle.text.specs.Ascii.{ascii}
use Rattle.text.specs.Fields.{refused_word, refusal}
use Rattle.text.proofs.Buffer.refusal.Goals as goal

pub returns : goal.returns
unfolding refusal refused_word ascii
returns c = adds_both (adds_both c.bytes.ensures c.field.ensures) c.field-2.ensures
