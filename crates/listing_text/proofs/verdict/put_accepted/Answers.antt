-- The lines, the word and the count, one after another.
use Rattle.listing_text.specs.Listing.{accepted_word}
use Rattle.text.proofs.Writing.{adds_both}
use Rattle.text.specs.Ascii.{ascii}
use Rattle.listing_text.proofs.verdict.put_accepted.Goals as goal

pub returns : goal.returns
unfolding accepted_word ascii
returns c = adds_both (adds_both c.put_lines.ensures c.bytes.ensures) c.field.ensures
