-- The header, and what follows it.
use Rattle.listing_text.specs.Listing.{header, text_of}
use Rattle.text.proofs.Writing.{adds_both}
use Rattle.text.specs.Ascii.{ascii}
use Rattle.listing_text.proofs.verdict.put_text.Goals as goal

pub returns : goal.returns
unfolding header text_of ascii
returns c = adds_both c.bytes.ensures c.put_body.ensures
