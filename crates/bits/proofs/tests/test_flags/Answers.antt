-- `bits::tests::test_flags` meets its contract: CF by the selected bit, every other flag undefined. Assumes nothing.
use Rattle.flags.specs.Results.{all_undefined}
use Rattle.bits.specs.Tests.{selected, test_flags}
use Rattle.bits.proofs.tests.test_flags.Goals as goal

pub returns : goal.returns
unfolding all_undefined selected test_flags
returns c =
    rw (c.bit_at.ensures, c.from.ensures, c.of_bits.ensures.is, c.all_undefined.ensures)
