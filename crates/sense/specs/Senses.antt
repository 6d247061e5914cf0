-- What each opcode means, in the order of document 01's lists, and then document 02's; 003's opcode maps (appendix A) have the same.
-- An opcode is a number: 00 to FF alone, 100 to 1FF after 0F. Assumes nothing.
use Rattle.std.specs.Prelude.{true, false, List, [], ◌∷◌, ◌++◌, ℕ, ◌+◌, ◌*◌}
use Rattle.grammar.specs.Opcodes.{Line, from, at, listed}
use Rattle.sense.specs.declared.Kind.{Kind}
use Rattle.sense.specs.declared.Place.{Place}
use Rattle.sense.specs.declared.Place.TheVariants.{Absent, Rm, Reg, Accumulator, OpcodeRegister, Immediate, SignedImmediate, Offset, One, Cl}
use Rattle.sense.specs.declared.Sense.{Sense}

-- an operation with its operands, of bytes
abbrev pub bytes : Kind → Place → Place → Sense
bytes k d s = record { kind = k; byte = true; destination = d; source = s; other = Absent }

-- of words or doublewords
abbrev pub wide : Kind → Place → Place → Sense
wide k d s = record { kind = k; byte = false; destination = d; source = s; other = Absent }

-- with a third operand
abbrev pub three : Kind → Place → Place → Place → Sense
three k d s o = record { kind = k; byte = false; destination = d; source = s; other = o }

-- with no operand of its own
abbrev pub alone : Kind → Sense
alone k = wide k Absent Absent

-- two opcodes, of bytes and then of words or doublewords, with the same operands
abbrev pub both : ℕ → Kind → Place → Place → List (Line Sense)
both n k d s = at n (bytes k d s) ∷ at (n + 1) (wide k d s) ∷ []

-- forms 0 to 5 of ADD OR ADC SBB AND SUB XOR CMP
abbrev pub alu : ℕ → List (Line Sense)
alu k = both (8 * k) Kind.Alu Rm Reg ++ both (8 * k + 2) Kind.Alu Reg Rm ++ both (8 * k + 4) Kind.Alu Accumulator Immediate

unfoldable pub senses : List (Line Sense)
senses =
    alu 0 ++ alu 1 ++ alu 2 ++ alu 3 ++ alu 4 ++ alu 5 ++ alu 6 ++ alu 7
    ++ from 0x40 0x47 (wide Kind.Inc OpcodeRegister Absent) ∷ from 0x48 0x4F (wide Kind.Dec OpcodeRegister Absent)
    ∷ from 0x50 0x57 (wide Kind.Push Absent OpcodeRegister) ∷ from 0x58 0x5F (wide Kind.Pop OpcodeRegister Absent)
    ∷ at 0x68 (wide Kind.Push Absent Immediate) ∷ at 0x6A (wide Kind.Push Absent SignedImmediate)
    ∷ at 0x69 (three Kind.ImulLow Reg Rm Immediate) ∷ at 0x6B (three Kind.ImulLow Reg Rm SignedImmediate)
    ∷ from 0x70 0x7F (alone Kind.JumpIf)
    ∷ at 0xE0 (alone Kind.Loopne) ∷ at 0xE1 (alone Kind.Loope) ∷ at 0xE2 (alone Kind.Loop) ∷ at 0xE3 (alone Kind.Jecxz)
    ∷ at 0xEB (alone Kind.Jump) ∷ at 0xE8 (alone Kind.Call) ∷ at 0xE9 (alone Kind.Jump)
    ∷ from 0x180 0x18F (alone Kind.JumpIf)
    ∷ both 0x80 Kind.AluGroup Rm Immediate ++ at 0x83 (wide Kind.AluGroup Rm SignedImmediate)
    ∷ both 0x84 Kind.Test Rm Reg ++ both 0x86 Kind.Xchg Rm Reg ++ both 0x88 Kind.Mov Rm Reg ++ both 0x8A Kind.Mov Reg Rm
    ++ at 0x8D (wide Kind.Lea Reg Rm)
    ∷ from 0x90 0x97 (wide Kind.Xchg Accumulator OpcodeRegister) ∷ at 0x98 (alone Kind.Convert) ∷ at 0x99 (alone Kind.Spread)
    ∷ at 0x9E (alone Kind.Sahf) ∷ at 0x9F (alone Kind.Lahf)
    ∷ both 0xA0 Kind.Mov Accumulator Offset ++ both 0xA2 Kind.Mov Offset Accumulator
    ++ at 0xC9 (alone Kind.Leave)
    ∷ both 0xA4 Kind.Movs Absent Absent ++ both 0xA6 Kind.Cmps Absent Absent
    ++ both 0xAA Kind.Stos Absent Absent ++ both 0xAC Kind.Lods Absent Absent ++ both 0xAE Kind.Scas Absent Absent
    ++ both 0xA8 Kind.Test Accumulator Immediate
    ++ from 0xB0 0xB7 (bytes Kind.Mov OpcodeRegister Immediate) ∷ from 0xB8 0xBF (wide Kind.Mov OpcodeRegister Immediate)
    ∷ both 0xC0 Kind.ShiftGroup Rm Immediate ++ both 0xD0 Kind.ShiftGroup Rm One ++ both 0xD2 Kind.ShiftGroup Rm Cl
    ++ at 0xC2 (wide Kind.Return Absent Immediate) ∷ at 0xC3 (alone Kind.Return)
    ∷ both 0xC6 Kind.Mov Rm Immediate
    ++ at 0xF5 (alone Kind.Cmc) ∷ at 0xF8 (alone Kind.Clc) ∷ at 0xF9 (alone Kind.Stc) ∷ at 0xFC (alone Kind.Cld) ∷ at 0xFD (alone Kind.Std)
    ∷ both 0xF6 Kind.ProductGroup Rm Immediate
    ++ at 0xFE (bytes Kind.IncDecGroup Rm Absent) ∷ at 0xFF (wide Kind.LastGroup Rm Rm)
    ∷ from 0x190 0x19F (bytes Kind.Set Rm Absent)
    ∷ at 0x1AF (three Kind.ImulLow Reg Rm Reg)
    ∷ at 0x1B6 (wide Kind.MovZeroByte Reg Rm) ∷ at 0x1B7 (wide Kind.MovZeroWord Reg Rm)
    ∷ at 0x1BE (wide Kind.MovSignByte Reg Rm) ∷ at 0x1BF (wide Kind.MovSignWord Reg Rm)
    ∷ from 0x1C8 0x1CF (wide Kind.Bswap OpcodeRegister Absent)
    ∷ from 0x140 0x14F (wide Kind.MovIf Reg Rm)
    ∷ at 0x1A3 (wide Kind.BitTest Rm Reg) ∷ at 0x1AB (wide Kind.BitTest Rm Reg)
    ∷ at 0x1B3 (wide Kind.BitTest Rm Reg) ∷ at 0x1BB (wide Kind.BitTest Rm Reg) ∷ at 0x1BA (wide Kind.BitTestGroup Rm Immediate)
    ∷ at 0x1BC (wide Kind.Bsf Reg Rm) ∷ at 0x1BD (wide Kind.Bsr Reg Rm)
    ∷ at 0x1A4 (three Kind.Shld Rm Reg Immediate) ∷ at 0x1A5 (three Kind.Shld Rm Reg Cl)
    ∷ at 0x1AC (three Kind.Shrd Rm Reg Immediate) ∷ at 0x1AD (three Kind.Shrd Rm Reg Cl)
    ∷ at 0x110 (wide Kind.MoveSingle Reg Rm) ∷ at 0x111 (wide Kind.MoveSingle Rm Reg)
    ∷ at 0x158 (wide Kind.ComputeSingle Reg Rm) ∷ at 0x159 (wide Kind.ComputeSingle Reg Rm) ∷ from 0x15C 0x15F (wide Kind.ComputeSingle Reg Rm)
    ∷ at 0x12F (wide Kind.CompareSingle Reg Rm)
    ∷ []

-- what an opcode means; one that is not listed would move nothing to nowhere
unfoldable pub sense_of : ℕ → Sense
sense_of k = listed senses (alone Kind.Mov) k
