-- `scalar::order` meets its contract: greater, less or equal. Assumes nothing.
use Rattle.scalar.proofs.Numbers.{no_nan, compared_number}
use Rattle.scalar.specs.Singles.{number}
use Rattle.scalar.proofs.order.Goals as goal

pub float_from_bits-x : goal.float_from_bits-x
float_from_bits-x c = no_nan c.args.a c.requires.0

pub float_from_bits-y : goal.float_from_bits-y
float_from_bits-y c = no_nan c.args.b c.requires.1

pub returns-then-y-x : goal.returns-then-y-x
unfolding number
returns-then-y-x c =
    let h = c.requires in
    rw (compared_number _ _ h.0 h.1, c.if-y-x.true) c.answer.ensures

pub returns-then-x-y : goal.returns-then-x-y
unfolding number
returns-then-x-y c =
    let h = c.requires in
    rw (compared_number _ _ h.0 h.1, c.if-y-x.false, c.if-x-y.true) c.answer-then-x-y.ensures

pub returns : goal.returns
unfolding number
returns c =
    let h = c.requires in
    rw (compared_number _ _ h.0 h.1, c.if-y-x.false, c.if-x-y.false) c.answer-2.ensures
