-- Operations that compute: what each does, beside 003's page for it. m is the machine before, a where the operand in memory is, r what was read. Assumes nothing.
use Rattle.std.specs.Prelude.{Bool, true, false, ℕ, if◌then◌else◌, Option, None, Some}
use Rattle.width.specs.declared.Size.{Size}
use Rattle.width.specs.declared.Size.TheVariants.{Byte, Word, Dword}
use Rattle.flags.specs.declared.Flags.{Flags}
use Rattle.flags.specs.Results.{all_undefined}
use Rattle.arith.specs.declared.Binary.{Binary}
use Rattle.arith.specs.declared.Binary.TheVariants.{Add, Or, Adc, Sbb, And, Sub, Xor, Cmp}
use Rattle.arith.specs.declared.Single.{Single}
use Rattle.arith.specs.Binary.{binary_value, binary_flags}
use Rattle.arith.specs.Single.{single_value, single_flags}
use Rattle.shift.specs.declared.Shift.{Shift}
use Rattle.shift.specs.Values.{shift_value}
use Rattle.shift.specs.Changes.{shift_flags}
use Rattle.product.specs.declared.Parts.{Parts}
use Rattle.product.specs.Multiply.{halves, unsigned_product, signed_product, unsigned_spills, signed_spills, product_flags}
use Rattle.product.specs.Divide.{unsigned_division, signed_division}
use Rattle.machine.specs.declared.registers.Machine.{Machine}
use Rattle.machine.specs.Registers.{part, with_part, with_flags}
use Rattle.sense.specs.declared.Arithmetic.{Arithmetic}
use Rattle.plan.specs.declared.Plan.{Plan}
use Rattle.effect.specs.Outcomes.{Effect, Computed, Reads}
use Rattle.effect.specs.Bits.{unit_of, bit_tested, bits_computed}
use Rattle.effect.specs.Words.{becomes, faults, onward, value, assign, read_or, read_of}

-- where the operand in memory is: at the effective address; of a string of bits, the unit that holds the bit
unfoldable pub arithmetic_address : Arithmetic → Machine → Plan → ℕ → ℕ
arithmetic_address (Arithmetic.Binary op) m p a = a
arithmetic_address Arithmetic.Test m p a = a
arithmetic_address (Arithmetic.Single op) m p a = a
arithmetic_address (Arithmetic.Shift op) m p a = a
arithmetic_address Arithmetic.Mul m p a = a
arithmetic_address Arithmetic.Imul m p a = a
arithmetic_address Arithmetic.ImulLow m p a = a
arithmetic_address Arithmetic.Div m p a = a
arithmetic_address Arithmetic.Idiv m p a = a
arithmetic_address (Arithmetic.Bits op) m p a = a
arithmetic_address (Arithmetic.BitString op) m p a = unit_of m p a

-- the memory operand is read, be it source or destination
unfoldable pub arithmetic_reads : Plan → ℕ → Reads
arithmetic_reads p a = read_or p.source a p.size (read_of p.destination a p.size)

-- whether a binary operation assigns its value: CMP does not
unfoldable pub assigns : Binary → Bool
assigns Add = true
assigns Or = true
assigns Adc = true
assigns Sbb = true
assigns And = true
assigns Sub = true
assigns Xor = true
assigns Cmp = false

-- 003 "ADD", "OR", "ADC", "SBB", "AND", "SUB", "XOR", "CMP": DEST op SRC
unfoldable pub binary : Binary → Size → ℕ → ℕ → Flags → Computed
binary op w a b f = record { flags = binary_flags op w a b f; value = binary_value op w a b f.cf; assigned = assigns op }

-- 003 "TEST": the flags of DEST AND SRC
unfoldable pub test : Size → ℕ → ℕ → Flags → Computed
test w a b f = record { flags = binary_flags And w a b f; value = 0; assigned = false }

-- 003 "INC", "DEC", "NOT", "NEG": op DEST
unfoldable pub single : Single → Size → ℕ → Flags → Computed
single op w a f = record { flags = single_flags op w a f; value = single_value op w a; assigned = true }

-- 003 "RCL/RCR/ROL/ROR", "SAL/SAR/SHL/SHR": DEST moved by the count
unfoldable pub shift : Shift → Size → ℕ → ℕ → Flags → Computed
shift op w a count f = record { flags = shift_flags op w a count f; value = shift_value op w a count f.cf; assigned = true }

-- 003 "IMUL", two and three operands: the low half
unfoldable pub multiplied_low : Size → ℕ → ℕ → Flags → Computed
multiplied_low w a b f = record { flags = product_flags (signed_spills w a b) f; value = (halves w (signed_product w a b)).low; assigned = true }

-- DEST ← the value that was computed, if it is to be assigned, and the flags
unfoldable pub settled : Computed → Machine → Plan → ℕ → Effect
settled c m p a =
    if c.assigned then assign p.destination a (with_flags (onward m p) c.flags) p.size c.value
    else becomes (with_flags (onward m p) c.flags)

-- the upper half's register: AH beside AL, DX beside AX, EDX beside EAX
unfoldable pub upper : Size → ℕ
upper Byte = 4
upper Word = 2
upper Dword = 2

-- the accumulator and the upper half's register assigned
unfoldable pub doubled : Machine → Size → ℕ → ℕ → Machine
doubled m w low high = with_part (with_part m w 0 low) w (upper w) high

-- 003 "MUL": the upper half and the accumulator ← accumulator times SRC
unfoldable pub multiplied : Machine → Plan → ℕ → Effect
multiplied m p b =
    becomes
    (doubled
    (with_flags (onward m p) (product_flags (unsigned_spills p.size (part m p.size 0) b) m.flags))
    p.size
    (halves p.size (unsigned_product p.size (part m p.size 0) b)).low
    (halves p.size (unsigned_product p.size (part m p.size 0) b)).high)

-- 003 "IMUL", one operand: the same, signed
unfoldable pub multiplied_signed : Machine → Plan → ℕ → Effect
multiplied_signed m p b =
    becomes
    (doubled
    (with_flags (onward m p) (product_flags (signed_spills p.size (part m p.size 0) b) m.flags))
    p.size
    (halves p.size (signed_product p.size (part m p.size 0) b)).low
    (halves p.size (signed_product p.size (part m p.size 0) b)).high)

-- quotient to the accumulator, remainder to the upper half's register; the status flags are undefined
unfoldable pub quotient : Option Parts → Machine → Plan → Effect
quotient None m p = faults m
quotient (Some d) m p = becomes (doubled (with_flags (onward m p) (all_undefined m.flags)) p.size d.quotient d.remainder)

-- 003 "DIV"
unfoldable pub divided : Machine → Plan → ℕ → Effect
divided m p d = quotient (unsigned_division p.size (part m p.size (upper p.size)) (part m p.size 0) d) m p

-- 003 "IDIV"
unfoldable pub divided_signed : Machine → Plan → ℕ → Effect
divided_signed m p d =
    quotient (signed_division p.size (part m p.size (upper p.size)) (part m p.size 0) d) m p

-- what the operation does
unfoldable pub arithmetic_effect : Arithmetic → Machine → Plan → ℕ → ℕ → Effect
arithmetic_effect (Arithmetic.Binary op) m p a r =
    settled (binary op p.size (value p.destination m r p.size) (value p.source m r p.size) m.flags) m p a
arithmetic_effect Arithmetic.Test m p a r =
    settled (test p.size (value p.destination m r p.size) (value p.source m r p.size) m.flags) m p a
arithmetic_effect (Arithmetic.Single op) m p a r =
    settled (single op p.size (value p.destination m r p.size) m.flags) m p a
arithmetic_effect (Arithmetic.Shift op) m p a r =
    settled (shift op p.size (value p.destination m r p.size) (value p.source m r Byte) m.flags) m p a
arithmetic_effect Arithmetic.Mul m p a r = multiplied m p (value p.destination m r p.size)
arithmetic_effect Arithmetic.Imul m p a r = multiplied_signed m p (value p.destination m r p.size)
arithmetic_effect Arithmetic.ImulLow m p a r =
    settled (multiplied_low p.size (value p.source m r p.size) (value p.other m r p.size) m.flags) m p a
arithmetic_effect Arithmetic.Div m p a r = divided m p (value p.destination m r p.size)
arithmetic_effect Arithmetic.Idiv m p a r = divided_signed m p (value p.destination m r p.size)
arithmetic_effect (Arithmetic.Bits op) m p a r =
    settled
    (bits_computed op p.size (value p.destination m r p.size) (value p.source m r p.size) (value p.other m r Byte) m.flags)
    m p a
arithmetic_effect (Arithmetic.BitString op) m p a r =
    settled (bit_tested op p.size (value p.destination m r p.size) (value p.source m r p.size) m.flags) m p a
