-- One digit, or those of the tenth and one more.
use Rattle.text.proofs.Writing.{adds_both}
use Rattle.text.proofs.Numbers.{decimal_one, decimal_more}
use Rattle.text.proofs.Buffer.+decimal.Goals as goal

pub returns-then-n-lt10 : goal.returns-then-n-lt10
returns-then-n-lt10 t c = rw (decimal_one _ c.if-n-lt10.true, ← c.digit.ensures) c.byte.ensures

pub returns : goal.returns
returns t c = rw (decimal_more _ c.if-n-lt10.false, ← c.digit-2.ensures) (adds_both c.decimal.ensures c.byte-2.ensures)
