-- `bits::scans::scan_flags` meets its contract: ZF by the test, every other flag undefined. Assumes nothing.
use Rattle.flags.specs.Results.{all_undefined}
use Rattle.bits.specs.Scans.{scan_flags}
use Rattle.bits.proofs.scans.scan_flags.Goals as goal

pub returns : goal.returns
unfolding all_undefined scan_flags
returns c =
    rw c.all_undefined.ensures
