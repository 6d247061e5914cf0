-- The fields and the newline, one after another.
use Rattle.listing_text.specs.Listing.{line_of}
use Rattle.text.proofs.Writing.{adds_both}
use Rattle.listing_text.proofs.lines.put_line.Goals as goal

pub returns : goal.returns
unfolding line_of
returns c = adds_both (adds_both (adds_both c.field.ensures c.field-2.ensures) c.put_opcode.ensures) c.byte.ensures
