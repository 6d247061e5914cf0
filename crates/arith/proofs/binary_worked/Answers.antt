-- `arith::binary_worked` meets its contract: an operation an arm. Assumes nothing.
use mathlib.Core.Logic.{inl, inr}
use Rattle.arith.specs.Binary.{binary_value, binary_flags, sum_flags, difference_flags}
use Rattle.arith.proofs.binary_worked.Goals as goal

pub returns-in-Add : goal.returns-in-Add
unfolding binary_value binary_flags sum_flags difference_flags
returns-in-Add c = rw c.in-Add.is c.carried.ensures

pub returns-in-Or : goal.returns-in-Or
unfolding binary_value binary_flags sum_flags difference_flags
returns-in-Or c = rw c.in-Or.is c.logic.ensures

pub returns-in-Adc : goal.returns-in-Adc
unfolding binary_value binary_flags sum_flags difference_flags
returns-in-Adc c = rw c.in-Adc.is (rw c.unpack.ensures at c.carried-in-Adc.ensures)

pub returns-in-Sbb : goal.returns-in-Sbb
unfolding binary_value binary_flags sum_flags difference_flags
returns-in-Sbb c = rw c.in-Sbb.is (rw c.unpack-in-Sbb.ensures at c.carried-in-Sbb.ensures)

pub returns-in-And : goal.returns-in-And
unfolding binary_value binary_flags sum_flags difference_flags
returns-in-And c = rw c.in-And.is c.logic-in-And.ensures

pub returns-in-Xor : goal.returns-in-Xor
unfolding binary_value binary_flags sum_flags difference_flags
returns-in-Xor c = rw c.in-Xor.is c.logic-in-Xor.ensures

pub returns-in-Sub : goal.returns-in-Sub
unfolding binary_value binary_flags sum_flags difference_flags
returns-in-Sub c = elim c.in-Sub.is [ inl e ↦ rw e c.carried-in-Sub.ensures | inr e ↦ rw e c.carried-in-Sub.ensures ]
