-- Two digits below 100h, and four from there on.
use borrow.Author.Tests.{lt-ltb, le-ltb}
use Rattle.grammar.specs.Choice.{pick}
use Rattle.listing_text.specs.Listing.{opcode_text}
use Rattle.listing_text.proofs.lines.put_opcode.Goals as goal

pub returns-then-k-lt256 : goal.returns-then-k-lt256
unfolding opcode_text pick
returns-then-k-lt256 c = rw (lt-ltb _ _ c.if-k-lt256.true) c.hex.ensures

pub returns-else-k-lt256 : goal.returns-else-k-lt256
unfolding opcode_text pick
returns-else-k-lt256 c = rw (le-ltb _ _ c.if-k-lt256.false) c.hex-else-k-lt256.ensures
