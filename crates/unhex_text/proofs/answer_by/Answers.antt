-- The code ends inside its area, and the line inside its buffer.
use Prim.Native.Nat.{zero-le}
use Rattle.text.proofs.Writing.{wrote_end}
use Rattle.unhex_text.proofs.Telling.{code_inside}
use Rattle.unhex_text.proofs.answer_by.Goals as goal

pub returns-clause-code : goal.returns-clause-code
returns-clause-code g c = code_inside c.unhex.ensures.told

pub returns-clause-line : goal.returns-clause-line
returns-clause-line g c = wrote_end c.unhex.ensures.wrote zero-le
