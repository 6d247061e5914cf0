-- `bits::scans::scan_value` meets its contract: an instruction an arm. Assumes nothing.
use Rattle.bits.specs.Scans.{scan_value}
use Rattle.bits.proofs.scans.scan_value.Goals as goal

pub returns-in-Bsf : goal.returns-in-Bsf
unfolding scan_value
returns-in-Bsf c =
    rw c.in-Bsf.is

pub returns-in-Bsr : goal.returns-in-Bsr
returns-in-Bsr c =
    rw c.in-Bsr.is c.highest.ensures
