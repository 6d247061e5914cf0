-- Which operation an opcode names: by the reg field in a group, by the opcode's own bits elsewhere. Assumes nothing.
use Rattle.std.specs.Prelude.{List, [], ◌∷◌, ℕ, ◌/◌, ◌%◌, slice_index_or}
use Rattle.width.specs.declared.Size.TheVariants.{Byte, Word}
use Rattle.arith.specs.declared.Binary.{Binary}
use Rattle.arith.specs.declared.Single.TheVariants.{Inc, Dec, Not, Neg}
use Rattle.shift.specs.declared.Shift.{Shift}
use Rattle.bits.specs.declared.BitTest.{BitTest}
use Rattle.bits.specs.declared.Scan.{Scan}
use Rattle.bits.specs.declared.DoubleShift.{DoubleShift}
use Rattle.scalar.specs.declared.Compute.{Compute}
use Rattle.sense.specs.declared.Kind.{Kind}
use Rattle.sense.specs.declared.Arithmetic.{Arithmetic}
use Rattle.sense.specs.declared.Move.{Move}
use Rattle.sense.specs.declared.Flagging.{Flagging}
use Rattle.sense.specs.declared.Stack.{Stack}
use Rattle.sense.specs.declared.Branch.{Branch}
use Rattle.sense.specs.declared.Strings.{Strings}
use Rattle.sense.specs.declared.Bits.{Bits}
use Rattle.sense.specs.declared.Operation.{Operation}

-- ADD OR ADC SBB AND SUB XOR, by three bits
abbrev pub binary_words : List Binary
binary_words = Binary.Add ∷ Binary.Or ∷ Binary.Adc ∷ Binary.Sbb ∷ Binary.And ∷ Binary.Sub ∷ Binary.Xor ∷ []

-- and CMP from there on
unfoldable pub binary_at : ℕ → Binary
binary_at n = slice_index_or binary_words n Binary.Cmp

-- ROL ROR RCL RCR SHL SHR are /0 to /5
abbrev pub shift_words : List Shift
shift_words = Shift.Rol ∷ Shift.Ror ∷ Shift.Rcl ∷ Shift.Rcr ∷ Shift.Shl ∷ Shift.Shr ∷ []

-- and SAR is /7; no instruction has /6
unfoldable pub shift_at : ℕ → Shift
shift_at n = slice_index_or shift_words n Shift.Sar

-- F6 and F7: TEST is /0, NOT NEG MUL IMUL DIV are /2 to /6; no instruction has /1
abbrev pub product_words : List Arithmetic
product_words =
    Arithmetic.Test ∷ Arithmetic.Test ∷ Arithmetic.Single Not ∷ Arithmetic.Single Neg ∷ Arithmetic.Mul ∷ Arithmetic.Imul ∷ Arithmetic.Div ∷ []

-- and IDIV is /7
unfoldable pub product_at : ℕ → Arithmetic
product_at n = slice_index_or product_words n Arithmetic.Idiv

-- FE: INC is /0
abbrev pub inc_dec_words : List Arithmetic
inc_dec_words = Arithmetic.Single Inc ∷ []

-- and DEC is /1; no instruction has another
unfoldable pub inc_dec_at : ℕ → Arithmetic
inc_dec_at n = slice_index_or inc_dec_words n (Arithmetic.Single Dec)

-- FF: INC is /0, DEC /1, CALL /2, JMP /4; no instruction has /3 or /5
abbrev pub last_words : List Operation
last_words =
    Operation.Arithmetic (Arithmetic.Single Inc) ∷ Operation.Arithmetic (Arithmetic.Single Dec)
    ∷ Operation.Stack Stack.CallTo ∷ Operation.Stack Stack.CallTo ∷ Operation.Branch Branch.JumpTo ∷ Operation.Branch Branch.JumpTo ∷ []

-- and PUSH is /6; no instruction has /7
unfoldable pub last_at : ℕ → Operation
last_at n = slice_index_or last_words n (Operation.Stack Stack.Push)

-- BT BTS BTR, by two bits of the opcode; 0F BA has them as /4 to /6
abbrev pub bit_test_words : List BitTest
bit_test_words = BitTest.Bt ∷ BitTest.Bts ∷ BitTest.Btr ∷ []

-- and BTC from there on, /7
unfoldable pub bit_test_at : ℕ → BitTest
bit_test_at n = slice_index_or bit_test_words n BitTest.Btc

-- F3 0F 58, 59, 5C to 5F, by the opcode's last three bits: ADDSS is 0, MULSS 1, SUBSS MINSS DIVSS are 4 to 6; no instruction has 2 or 3
abbrev pub compute_words : List Compute
compute_words = Compute.Add ∷ Compute.Mul ∷ Compute.Mul ∷ Compute.Mul ∷ Compute.Sub ∷ Compute.Min ∷ Compute.Div ∷ []

-- and MAXSS is 7
unfoldable pub compute_at : ℕ → Compute
compute_at n = slice_index_or compute_words n Compute.Max

-- the operation of a kind, with the opcode and the ModR/M byte's reg field
unfoldable pub operation_of : Kind → ℕ → ℕ → Operation
operation_of Kind.Alu opcode field = Operation.Arithmetic (Arithmetic.Binary (binary_at (opcode / 8 % 8)))
operation_of Kind.AluGroup opcode field = Operation.Arithmetic (Arithmetic.Binary (binary_at field))
operation_of Kind.Test opcode field = Operation.Arithmetic Arithmetic.Test
operation_of Kind.Inc opcode field = Operation.Arithmetic (Arithmetic.Single Inc)
operation_of Kind.Dec opcode field = Operation.Arithmetic (Arithmetic.Single Dec)
operation_of Kind.ShiftGroup opcode field = Operation.Arithmetic (Arithmetic.Shift (shift_at field))
operation_of Kind.ProductGroup opcode field = Operation.Arithmetic (product_at field)
operation_of Kind.IncDecGroup opcode field = Operation.Arithmetic (inc_dec_at field)
operation_of Kind.LastGroup opcode field = last_at field
operation_of Kind.ImulLow opcode field = Operation.Arithmetic Arithmetic.ImulLow
operation_of Kind.Mov opcode field = Operation.Move Move.Mov
operation_of Kind.MovZeroByte opcode field = Operation.Move (Move.MovZero Byte)
operation_of Kind.MovZeroWord opcode field = Operation.Move (Move.MovZero Word)
operation_of Kind.MovSignByte opcode field = Operation.Move (Move.MovSign Byte)
operation_of Kind.MovSignWord opcode field = Operation.Move (Move.MovSign Word)
operation_of Kind.Lea opcode field = Operation.Move Move.Lea
operation_of Kind.Xchg opcode field = Operation.Move Move.Xchg
operation_of Kind.Convert opcode field = Operation.Move Move.Convert
operation_of Kind.Spread opcode field = Operation.Move Move.Spread
operation_of Kind.Bswap opcode field = Operation.Move Move.Bswap
operation_of Kind.Set opcode field = Operation.Move (Move.Set (opcode % 16))
operation_of Kind.Lahf opcode field = Operation.Move Move.Lahf
operation_of Kind.Sahf opcode field = Operation.Move Move.Sahf
operation_of Kind.Cmc opcode field = Operation.Flagging Flagging.Cmc
operation_of Kind.Clc opcode field = Operation.Flagging Flagging.Clc
operation_of Kind.Stc opcode field = Operation.Flagging Flagging.Stc
operation_of Kind.Cld opcode field = Operation.Flagging Flagging.Cld
operation_of Kind.Std opcode field = Operation.Flagging Flagging.Std
operation_of Kind.Push opcode field = Operation.Stack Stack.Push
operation_of Kind.Pop opcode field = Operation.Stack Stack.Pop
operation_of Kind.Leave opcode field = Operation.Stack Stack.Leave
operation_of Kind.Call opcode field = Operation.Stack Stack.Call
operation_of Kind.Return opcode field = Operation.Stack Stack.Return
operation_of Kind.Jump opcode field = Operation.Branch Branch.Jump
operation_of Kind.JumpIf opcode field = Operation.Branch (Branch.JumpIf (opcode % 16))
operation_of Kind.Loopne opcode field = Operation.Branch Branch.Loopne
operation_of Kind.Loope opcode field = Operation.Branch Branch.Loope
operation_of Kind.Loop opcode field = Operation.Branch Branch.Loop
operation_of Kind.Jecxz opcode field = Operation.Branch Branch.Jecxz
operation_of Kind.Movs opcode field = Operation.Strings Strings.Movs
operation_of Kind.Cmps opcode field = Operation.Strings Strings.Cmps
operation_of Kind.Stos opcode field = Operation.Strings Strings.Stos
operation_of Kind.Lods opcode field = Operation.Strings Strings.Lods
operation_of Kind.Scas opcode field = Operation.Strings Strings.Scas
operation_of Kind.MovIf opcode field = Operation.Move (Move.MovIf (opcode % 16))
operation_of Kind.BitTest opcode field = Operation.Arithmetic (Arithmetic.BitString (bit_test_at (opcode / 8 % 4)))
operation_of Kind.BitTestGroup opcode field = Operation.Arithmetic (Arithmetic.Bits (Bits.Test (bit_test_at (field % 4))))
operation_of Kind.Bsf opcode field = Operation.Arithmetic (Arithmetic.Bits (Bits.Scan Scan.Bsf))
operation_of Kind.Bsr opcode field = Operation.Arithmetic (Arithmetic.Bits (Bits.Scan Scan.Bsr))
operation_of Kind.Shld opcode field = Operation.Arithmetic (Arithmetic.Bits (Bits.Double DoubleShift.Shld))
operation_of Kind.Shrd opcode field = Operation.Arithmetic (Arithmetic.Bits (Bits.Double DoubleShift.Shrd))
operation_of Kind.MoveSingle opcode field = Operation.MoveSingle
operation_of Kind.ComputeSingle opcode field = Operation.ComputeSingle (compute_at (opcode % 8))
operation_of Kind.CompareSingle opcode field = Operation.CompareSingle
