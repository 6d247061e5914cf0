-- `scalar::of_numbers` meets its contract: an operation an arm. Assumes nothing.
use Rattle.scalar.proofs.Numbers.{no_nan, rounded_number, lesser_first, lesser_second, greater_first, greater_second}
use Rattle.scalar.specs.Singles.{number, computed}
use Rattle.scalar.proofs.of_numbers.Goals as goal

pub float_from_bits-x : goal.float_from_bits-x
float_from_bits-x c = no_nan c.args.a c.requires.0

pub float_from_bits-y : goal.float_from_bits-y
float_from_bits-y c = no_nan c.args.b c.requires.1

pub returns-in-Add : goal.returns-in-Add
unfolding number computed
returns-in-Add c = let h = c.requires in rw c.in-Add.is (rounded_number _ _ h.0 h.1 _ c.result.ensures)

pub returns-in-Mul : goal.returns-in-Mul
unfolding number computed
returns-in-Mul c = let h = c.requires in rw c.in-Mul.is (rounded_number _ _ h.0 h.1 _ c.result-in-Mul.ensures)

pub returns-in-Sub : goal.returns-in-Sub
unfolding number computed
returns-in-Sub c = let h = c.requires in rw c.in-Sub.is (rounded_number _ _ h.0 h.1 _ c.result-in-Sub.ensures)

pub returns-then-x-y : goal.returns-then-x-y
unfolding number computed
returns-then-x-y c =
    rw c.in-Min.is (lesser_first c.args.a c.args.b c.requires.0 c.requires.1 c.ranges.a.fits c.ranges.b.fits c.if-x-y.true)

pub returns-else-x-y : goal.returns-else-x-y
unfolding number computed
returns-else-x-y c =
    rw c.in-Min.is (lesser_second c.args.a c.args.b c.requires.0 c.requires.1 c.ranges.a.fits c.ranges.b.fits c.if-x-y.false)

pub returns-in-Div : goal.returns-in-Div
unfolding number computed
returns-in-Div c = let h = c.requires in rw c.in-Div.is (rounded_number _ _ h.0 h.1 _ c.result-in-Div.ensures)

pub returns-then-y-x : goal.returns-then-y-x
unfolding number computed
returns-then-y-x c =
    rw c.in-Max.is (greater_first c.args.a c.args.b c.requires.0 c.requires.1 c.ranges.a.fits c.ranges.b.fits c.if-y-x.true)

pub returns-else-y-x : goal.returns-else-y-x
unfolding number computed
returns-else-y-x c =
    rw c.in-Max.is (greater_second c.args.a c.args.b c.requires.0 c.requires.1 c.ranges.a.fits c.ranges.b.fits c.if-y-x.false)
