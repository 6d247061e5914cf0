-- Where the operand in memory of a plan's operation is, what it reads, and then does. Assumes nothing.
use Rattle.std.specs.Prelude.{ℕ}
use Rattle.machine.specs.declared.registers.Machine.{Machine}
use Rattle.sense.specs.declared.Operation.{Operation}
use Rattle.plan.specs.declared.Plan.{Plan}
use Rattle.effect.specs.Outcomes.{Effect, Reads, Nothing}
use Rattle.effect.specs.Arithmetic.{arithmetic_address, arithmetic_reads, arithmetic_effect}
use Rattle.effect.specs.Moves.{move_reads, move_effect, flagging_effect}
use Rattle.effect.specs.Stacks.{stack_reads, stack_effect}
use Rattle.effect.specs.Branches.{branch_reads, branch_effect}
use Rattle.effect.specs.Strings.{string_reads, string_effect}
use Rattle.effect.specs.Singles.{single_reads, single_moved, single_computed, single_compared}

-- where its operand in memory is, where a is the effective address
unfoldable pub address_by : Operation → Machine → Plan → ℕ → ℕ
address_by (Operation.Arithmetic op) m p a = arithmetic_address op m p a
address_by (Operation.Move op) m p a = a
address_by (Operation.Flagging op) m p a = a
address_by (Operation.Stack op) m p a = a
address_by (Operation.Branch op) m p a = a
address_by (Operation.Strings op) m p a = a
address_by Operation.MoveSingle m p a = a
address_by (Operation.ComputeSingle op) m p a = a
address_by Operation.CompareSingle m p a = a

-- what it reads, in this order, where a is that address
unfoldable pub reads_by : Operation → Machine → Plan → ℕ → Reads
reads_by (Operation.Arithmetic op) m p a = arithmetic_reads p a
reads_by (Operation.Move op) m p a = move_reads op p a
reads_by (Operation.Flagging op) m p a = Nothing
reads_by (Operation.Stack op) m p a = stack_reads op m p a
reads_by (Operation.Branch op) m p a = branch_reads op p a
reads_by (Operation.Strings op) m p a = string_reads op m p
reads_by Operation.MoveSingle m p a = single_reads p a
reads_by (Operation.ComputeSingle op) m p a = single_reads p a
reads_by Operation.CompareSingle m p a = single_reads p a

-- what it does, where a is that address, and r and s are what was read
unfoldable pub effect_by : Operation → Machine → Plan → ℕ → ℕ → ℕ → Effect
effect_by (Operation.Arithmetic op) m p a r s = arithmetic_effect op m p a r
effect_by (Operation.Move op) m p a r s = move_effect op m p a r
effect_by (Operation.Flagging op) m p a r s = flagging_effect op m p
effect_by (Operation.Stack op) m p a r s = stack_effect op m p a r
effect_by (Operation.Branch op) m p a r s = branch_effect op m p r
effect_by (Operation.Strings op) m p a r s = string_effect op m p r s
effect_by Operation.MoveSingle m p a r s = single_moved m p a r
effect_by (Operation.ComputeSingle op) m p a r s = single_computed op m p a r
effect_by Operation.CompareSingle m p a r s = single_compared m p r
