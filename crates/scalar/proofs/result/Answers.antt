-- `scalar::result` meets its contract. Assumes nothing.
use mathlib.Core.Path.{sym, ◌∙◌}
use Rattle.scalar.proofs.Numbers.{numbered}
use Rattle.scalar.specs.Singles.{result_of}
use Rattle.scalar.proofs.result.Goals as goal

pub returns-then-is_nan : goal.returns-then-is_nan
unfolding result_of
returns-then-is_nan c = rw (← c.is_nan.ensures.value, c.if-is_nan.true)

pub float_to_bits-result : goal.float_to_bits-result
float_to_bits-result c = rw (sym c.is_nan.ensures.value ∙ c.if-is_nan.false) tt

pub returns-else-is_nan : goal.returns-else-is_nan
returns-else-is_nan c = numbered c.args.x (sym c.is_nan.ensures.value ∙ c.if-is_nan.false)
