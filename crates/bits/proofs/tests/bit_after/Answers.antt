-- `bits::tests::bit_after` meets its contract: an instruction an arm. Assumes nothing.
use Rattle.bits.specs.Tests.{bit_after}
use Rattle.bits.proofs.tests.bit_after.Goals as goal

pub returns-in-Bt : goal.returns-in-Bt
unfolding bit_after
returns-in-Bt c =
    rw c.in-Bt.is

pub returns-in-Bts : goal.returns-in-Bts
unfolding bit_after
returns-in-Bts c =
    rw c.in-Bts.is

pub returns-in-Btr : goal.returns-in-Btr
unfolding bit_after
returns-in-Btr c =
    rw c.in-Btr.is

pub returns-in-Btc : goal.returns-in-Btc
unfolding bit_after
returns-in-Btc c =
    rw c.in-Btc.is
