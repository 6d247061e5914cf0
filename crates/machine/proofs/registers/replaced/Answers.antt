-- A byte of a register replaced: the low one, or the next. Assumes nothing.
use Rattle.std.proofs.Common.{◌≡◌, ◌/◌, ◌%◌, arith, rules}
use Rattle.width.specs.Sizes.{bits}
use Rattle.machine.specs.Registers.{lowest}
use Rattle.machine.proofs.Parts.{low_byte, high_byte}
use Rattle.machine.proofs.registers.replaced.Goals as goal

pub returns-then-i-eq0 : goal.returns-then-i-eq0
unfolding lowest bits
returns-then-i-eq0 c = rw (c.in-Byte.is, c.if-i-eq0.true) (low_byte _ _ (search rules))

pub returns-else-i-eq0 : goal.returns-else-i-eq0
unfolding lowest bits
returns-else-i-eq0 c = let odd : c.args.i / 4 % 2 ≡ 1 = omega arith in rw (c.in-Byte.is, odd) (high_byte _ _ (search rules))
