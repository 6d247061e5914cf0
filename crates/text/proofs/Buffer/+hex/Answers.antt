-- No digit, or those of the sixteenth and one more.
use Rattle.text.proofs.Writing.{adds_none, adds_both}
use Rattle.text.proofs.Numbers.{hexadecimal_none, hexadecimal_more}
use Rattle.text.proofs.Buffer.+hex.Goals as goal

pub returns-then-count-gt0 : goal.returns-then-count-gt0
returns-then-count-gt0 t c = rw (hexadecimal_more _ _ c.if-count-gt0.true, ← c.digit.ensures) (adds_both c.hex.ensures c.byte.ensures)

pub returns-else-count-gt0 : goal.returns-else-count-gt0
returns-else-count-gt0 t c = rw (hexadecimal_none _ _ c.if-count-gt0.false) (adds_none _)
