-- From a decoded instruction and its address to the plan of its step. Assumes nothing.
use Rattle.std.specs.Prelude.{Bool, true, false, ◌||◌, ℕ, ◌+◌, ◌%◌, pos, if◌then◌else◌, ◌==◌}
use Rattle.width.specs.declared.Size.{Size}
use Rattle.width.specs.declared.Size.TheVariants.{Byte, Word, Dword}
use Rattle.width.specs.Numbers.{rest, sign_extended}
use Rattle.grammar.specs.declared.instruction.Decoded.{Decoded}
use Rattle.grammar.specs.Grammar.{mod_of, reg_of, rm_of}
use Rattle.sense.specs.declared.Operation.{Operation}
use Rattle.grammar.specs.Relative.{Relative}
use Rattle.std.specs.Prelude.{None, Some}
use Rattle.grammar.specs.Relative.{relative_of}
use Rattle.sense.specs.Senses.{sense_of}
use Rattle.sense.specs.Operations.{operation_of}
use Rattle.sense.specs.declared.Place.{Place}
use Rattle.sense.specs.declared.Sense.{Sense}
use Rattle.plan.specs.declared.Address.{Address}
use Rattle.plan.specs.declared.Operand.{Operand}
use Rattle.plan.specs.declared.Operand.TheVariants.{Register, Memory, Number}
use Rattle.plan.specs.declared.Plan.{Plan}

-- bytes; else words under 66, and doublewords without
unfoldable pub size_of : Bool → Bool → Size
size_of byte narrow = if byte then Byte else (if narrow then Word else Dword)

-- the operand at a place; one in memory is at the effective address
unfoldable pub operand_of : Place → Decoded → Size → Operand
operand_of Place.Absent d w = Number 0
operand_of Place.Rm d w = if mod_of d.modrm == 3 then Register (rm_of d.modrm) else Memory
operand_of Place.Reg d w = Register (reg_of d.modrm)
operand_of Place.Accumulator d w = Register 0
operand_of Place.OpcodeRegister d w = Register (d.opcode % 8)
operand_of Place.Immediate d w = Number d.immediate
operand_of Place.SignedImmediate d w = Number (sign_extended Byte w d.immediate)
operand_of Place.Offset d w = Memory
operand_of Place.One d w = Number 1
operand_of Place.Cl d w = Register 1

-- whether a place is the memory at an offset that the instruction holds as its immediate (A0 to A3)
unfoldable pub is_offset : Place → Bool
is_offset Place.Absent = false
is_offset Place.Rm = false
is_offset Place.Reg = false
is_offset Place.Accumulator = false
is_offset Place.OpcodeRegister = false
is_offset Place.Immediate = false
is_offset Place.SignedImmediate = false
is_offset Place.Offset = true
is_offset Place.One = false
is_offset Place.Cl = false

-- an offset alone: table 2-2's displacement without a register, Mod 0 and R/M 5
unfoldable pub offset_alone : ℕ → Address
offset_alone offset = record { modrm = 5; sib = 0; displacement = offset }

-- what the effective address is computed from: the offset alone, where an operand is at one; else the instruction's ModR/M, SIB and displacement
unfoldable pub address_in : Sense → Decoded → Address
address_in s d =
    if is_offset s.destination || is_offset s.source then offset_alone d.immediate
    else (record { modrm = d.modrm; sib = d.sib; displacement = d.displacement })

-- the address of the next instruction
unfoldable pub next_of : ℕ → Decoded → ℕ
next_of eip d = rest Dword (pos (eip + d.length))

-- the plan, from what the opcode means, its operation and its size
unfoldable pub plan_for : ℕ → Decoded → Sense → Operation → Size → ℕ → Plan
plan_for eip d s operation w target =
    record {
      operation = operation;
      size = w;
      destination = operand_of s.destination d w;
      source = operand_of s.source d w;
      other = operand_of s.other d w;
      repeat = d.repeat;
      next = next_of eip d;
      target = target;
      address = address_in s d;
    }

-- where a displacement leads from the next instruction; with none, on
unfoldable pub leads : Relative → ℕ → ℕ
leads None next = next
leads (Some displacement) next = rest Dword (pos (next + displacement))

-- the plan of a decoded instruction at an address
unfoldable pub plan_of : ℕ → Decoded → Plan
plan_of eip d =
    plan_for eip d (sense_of d.opcode) (operation_of (sense_of d.opcode).kind d.opcode (reg_of d.modrm))
    (size_of (sense_of d.opcode).byte d.narrow)
    (leads (relative_of d) (next_of eip d))
