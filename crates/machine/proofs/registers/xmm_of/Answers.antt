-- `registers::xmm_of` meets its contract: the eight are all. Assumes nothing.
use borrow.Author.Rules.{rules}
use mathlib.Core.Path.{◌≡◌, ap}
use lib.ListN.{length}
use Rattle.machine.specs.Lending.{xmm_of}
use Rattle.machine.proofs.Lists.{eight_listed}
use Rattle.machine.proofs.registers.xmm_of.Goals as goal

pub returns : goal.returns
unfolding xmm_of
returns c = let eight : length c.args.bits ≡ 8 = search rules in ap xmm_of (eight_listed 0 c.args.bits eight)
