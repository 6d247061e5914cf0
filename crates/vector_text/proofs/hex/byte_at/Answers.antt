-- `vector_text::hex::byte_at` meets its contract: two digits a byte, and 0 behind them. Assumes nothing.
use Rattle.std.proofs.Common.{sym}
use Rattle.vector_text.proofs.Bytes.{byte_inside, byte_outside}
use Rattle.vector_text.proofs.hex.byte_at.Goals as goal

pub returns-then-i-text : goal.returns-then-i-text
returns-then-i-text c =
    rw (c.unwrap_or.ensures, c.unwrap_or-then-i-text.ensures, c.digit.ensures.stands, c.digit-then-i-text.ensures.stands)
    (sym (byte_inside _ _ c.if-i-text.true))

pub returns : goal.returns
returns c = sym (byte_outside _ _ c.if-i-text.false)
