-- `bits::doubles::Operands::double_moved` meets its contract: an instruction an arm. Assumes nothing.
use native.Mathlib.Omega.{arith}
use Rattle.shift.proofs.Turns.{few}
use Rattle.width.specs.Numbers.{residue, rest}
use Rattle.bits.proofs.Moved.{upper_half}
use Rattle.bits.specs.Doubles.{double_moved}
use Rattle.bits.proofs.doubles.Operands.double_moved.Goals as goal

pub overflow_shr-double : goal.overflow_shr-double
overflow_shr-double c =
    let sizes = few c.args.self.size in omega arith

pub overflow_shr-double-in-Shrd : goal.overflow_shr-double-in-Shrd
overflow_shr-double-in-Shrd c =
    let sizes = few c.args.self.size in omega arith

pub returns-in-Shld : goal.returns-in-Shld
unfolding double_moved residue rest
returns-in-Shld c =
    rw (
      c.in-Shld.is,
      upper_half _ _ _ c.args.self.within,
    )
    (rw (c.double.ensures, c.bits.ensures) at c.low.ensures)

pub returns-in-Shrd : goal.returns-in-Shrd
unfolding double_moved residue rest
returns-in-Shrd c =
    rw c.in-Shrd.is (rw c.double-in-Shrd.ensures at c.low-in-Shrd.ensures)
