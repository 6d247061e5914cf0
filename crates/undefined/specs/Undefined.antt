-- The flags that 003 leaves undefined after a step, and machines that differ only in some flags. Assumes nothing.
use Rattle.std.specs.Prelude.{◌≡◌, List, [], ℕ, ◌-◌}
use Rattle.width.specs.declared.Size.{Size}
use Rattle.width.specs.declared.Size.TheVariants.{Byte}
use Rattle.flags.specs.Undefined.{Flag, DifferOnlyIn}
use Rattle.arith.specs.declared.Binary.TheVariants.{And}
use Rattle.arith.specs.Undefined.{binary_undefined}
use Rattle.shift.specs.Undefined.{shift_undefined}
use Rattle.bits.specs.Undefined.{test_undefined, scan_undefined, double_undefined}
use Rattle.product.specs.Undefined.{product_undefined, division_undefined}
use Rattle.machine.specs.declared.registers.Machine.{Machine}
use Rattle.machine.specs.Memory.{Loaded, Value, load_of}
use Rattle.grammar.specs.Decoding.{decode_of}
use Rattle.grammar.specs.Answers.{Found}
use Rattle.std.specs.Prelude.{Ok, Err}
use Rattle.grammar.specs.declared.instruction.Fault.{Fault}
use Rattle.blockcheck.specs.Blocks.{code_base}
use Rattle.sense.specs.declared.Bits.{Bits}
use Rattle.sense.specs.declared.Arithmetic.{Arithmetic}
use Rattle.sense.specs.declared.Operation.{Operation}
use Rattle.plan.specs.declared.Plan.{Plan}
use Rattle.plan.specs.Plans.{plan_of}
use Rattle.effect.specs.Outcomes.{Reads, Nothing, One, Two}
use Rattle.effect.specs.Words.{value}
use Rattle.effect.specs.All.{reads_by}
use Rattle.run.specs.Steps.{Fixed, operand_address}

-- after an operation on bits, with this count
unfoldable pub bits_undefined : Bits → Size → ℕ → List Flag
bits_undefined (Bits.Test op) w count = test_undefined
bits_undefined (Bits.Scan op) w count = scan_undefined
bits_undefined (Bits.Double op) w count = double_undefined w count

-- after an operation that computes, where m is the machine before and r what was read
unfoldable pub arithmetic_undefined : Arithmetic → Machine → Plan → ℕ → List Flag
arithmetic_undefined (Arithmetic.Binary op) m p r = binary_undefined op
arithmetic_undefined Arithmetic.Test m p r = binary_undefined And
arithmetic_undefined (Arithmetic.Single op) m p r = []
arithmetic_undefined (Arithmetic.Shift op) m p r = shift_undefined op p.size (value p.source m r Byte)
arithmetic_undefined Arithmetic.Mul m p r = product_undefined
arithmetic_undefined Arithmetic.Imul m p r = product_undefined
arithmetic_undefined Arithmetic.ImulLow m p r = product_undefined
arithmetic_undefined Arithmetic.Div m p r = division_undefined
arithmetic_undefined Arithmetic.Idiv m p r = division_undefined
arithmetic_undefined (Arithmetic.Bits op) m p r = bits_undefined op p.size (value p.other m r Byte)
arithmetic_undefined (Arithmetic.BitString op) m p r = test_undefined

-- after any operation: none but those leave any undefined
unfoldable pub undefined_by : Operation → Machine → Plan → ℕ → List Flag
undefined_by (Operation.Arithmetic op) m p r = arithmetic_undefined op m p r
undefined_by (Operation.Move op) m p r = []
undefined_by (Operation.Flagging op) m p r = []
undefined_by (Operation.Stack op) m p r = []
undefined_by (Operation.Branch op) m p r = []
undefined_by (Operation.Strings op) m p r = []
undefined_by Operation.MoveSingle m p r = []
undefined_by (Operation.ComputeSingle op) m p r = []
undefined_by Operation.CompareSingle m p r = []

-- what a read that is allowed gives
unfoldable pub given : Loaded → ℕ
given (Value v) = v
given (Loaded.Outside a) = 0

-- what is read first
unfoldable pub first_read : List ℕ → Reads → List ℕ → ℕ
first_read constants Nothing d = 0
first_read constants (One w a) d = given (load_of constants d w a)
first_read constants (Two w a b) d = given (load_of constants d w a)

-- after the step of a plan
unfoldable pub plan_undefined : List ℕ → Plan → Machine → List ℕ → List Flag
plan_undefined constants p m d =
    undefined_by p.operation m p (first_read constants (reads_by p.operation m p (operand_address p m)) d)

-- after the step of what is found at EIP
unfoldable pub found_undefined : Fixed → Found → Machine → List ℕ → List Flag
found_undefined fixed (Ok i) m d = plan_undefined fixed.constants (plan_of m.eip i) m d
found_undefined fixed (Err Fault.Cut) m d = []
found_undefined fixed (Err Fault.Unknown) m d = []

-- after a step
unfoldable pub step_undefined : Fixed → Machine → List ℕ → List Flag
step_undefined fixed m d = found_undefined fixed (decode_of fixed.code (m.eip - code_base)) m d

-- two machines differ only in flags of a list
pub record Alike (us : List Flag) (m m' : Machine) : Type 0 where
  pub regs : m'.regs ≡ m.regs
  pub xmm : m'.xmm ≡ m.xmm
  pub eip : m'.eip ≡ m.eip
  pub flags : DifferOnlyIn us m.flags m'.flags
