-- The digits, and the byte after them.
use Rattle.text.proofs.Writing.{adds_both}
use Rattle.text.specs.Fields.{field}
use Rattle.text.proofs.Buffer.field.Goals as goal

pub returns : goal.returns
unfolding field
returns c = adds_both c.decimal.ensures c.byte.ensures
