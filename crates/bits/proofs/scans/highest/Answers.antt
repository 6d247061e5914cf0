-- `bits::scans::highest` meets its contract: 0 has no one, and every other number no 32 leading zeros. Assumes nothing.
use mathlib.Core.Path.{refl}
use lib.Count.{leading_of_zero}
use borrow.Author.Rules.{rules}
use Rattle.bits.proofs.Ones.{leading_few}
use Rattle.bits.specs.Scans.{scan_value}
use Rattle.bits.proofs.scans.highest.Goals as goal

pub overflow_sub-result : goal.overflow_sub-result
overflow_sub-result c =
    leading_few c.args.v c.if-v-eq0.false (search rules)

pub returns-then-v-eq0 : goal.returns-then-v-eq0
unfolding scan_value
returns-then-v-eq0 c =
    rw (c.if-v-eq0.true, leading_of_zero 32)

pub returns-else-v-eq0 : goal.returns-else-v-eq0
unfolding scan_value
returns-else-v-eq0 c =
    refl
