-- `bits::doubles::Operands::last_out` meets its contract: an instruction an arm. Assumes nothing.
use Rattle.bits.specs.Doubles.{last_out}
use Rattle.bits.proofs.doubles.Operands.last_out.Goals as goal

pub returns-in-Shld : goal.returns-in-Shld
unfolding last_out
returns-in-Shld c =
    rw (c.in-Shld.is, c.bit_at.ensures, c.from.ensures, c.bits.ensures)

pub returns-in-Shrd : goal.returns-in-Shrd
unfolding last_out
returns-in-Shrd c =
    rw (c.in-Shrd.is, c.bit_at-in-Shrd.ensures, c.from-in-Shrd.ensures)
