-- `bits::tests::test_value` meets its contract: the selected bit, and what becomes of it. Assumes nothing.
use native.Mathlib.Omega.{arith}
use Rattle.shift.proofs.Turns.{few}
use Rattle.bits.specs.Tests.{selected, test_value}
use Rattle.bits.proofs.tests.test_value.Goals as goal

pub with_bit-requires : goal.with_bit-requires
with_bit-requires c =
    let sizes = few c.args.w in omega arith

pub returns : goal.returns
unfolding selected test_value
returns c =
    rw (
      c.with_bit.ensures,
      c.bit_after.ensures,
      c.bit_at.ensures,
      c.from.ensures,
      c.of_bits-k.ensures.is,
    )
