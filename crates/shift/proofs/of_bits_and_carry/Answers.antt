-- `shift::of_bits_and_carry` meets its contract: each size by arithmetic. Assumes nothing.
use native.Mathlib.Omega.{arith}
use Rattle.width.specs.Sizes.{bits}
use Rattle.shift.proofs.of_bits_and_carry.Goals as goal

pub returns-in-Byte : goal.returns-in-Byte
unfolding bits
returns-in-Byte c =
    rw c.in-Byte.is (omega arith)

pub returns-in-Word : goal.returns-in-Word
unfolding bits
returns-in-Word c =
    rw c.in-Word.is (omega arith)

pub returns-in-Dword : goal.returns-in-Dword
unfolding bits
returns-in-Dword c =
    rw c.in-Dword.is (omega arith)
