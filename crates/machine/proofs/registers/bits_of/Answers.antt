-- `registers::bits_of` meets its contract: the eight are all. Assumes nothing.
use borrow.Author.Rules.{rules}
use mathlib.Core.Path.{◌≡◌}
use lib.ListN.{length}
use Rattle.machine.proofs.Lists.{of_bits}
use Rattle.machine.proofs.registers.bits_of.Goals as goal

pub returns : goal.returns
returns c = let eight : length c.args.xmm ≡ 8 = search rules in of_bits c.args.xmm eight
