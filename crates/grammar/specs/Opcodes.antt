-- The opcodes, line by line as document 01 lists them, and then document 02. An opcode is a number: 00 to FF alone, 100 to 1FF after 0F.
-- Assumes nothing.
use Rattle.std.specs.Prelude.{Option, Some, None, Bool, true, false, List, [], ◌∷◌, ◌++◌, ℕ, ◌+◌, ◌*◌, nat_le}
use Rattle.grammar.specs.Choice.{pick, both, either}
use Rattle.grammar.specs.declared.rule.ModRM.{ModRM}
use Rattle.grammar.specs.declared.rule.ModRM.TheVariants.{Any, Memory, AllBut6, Only0, AllBut1, Only01, Only01246, Only4567}
use Rattle.grammar.specs.declared.rule.Immediate.{Immediate}
use Rattle.grammar.specs.declared.rule.Immediate.TheVariants.{Imm8, Imm16, Imm32, ImmV, Address, Rel8, Rel32, Imm8For0, ImmVFor0}
use Rattle.grammar.specs.declared.rule.Prefix66.{Prefix66}
use Rattle.grammar.specs.declared.rule.Prefix66.TheVariants.{Allowed}
use Rattle.grammar.specs.declared.rule.PrefixRepeat.{PrefixRepeat}
use Rattle.grammar.specs.declared.rule.Rule.{Rule}

-- what the table has at an opcode's number: a rule, or none
abbrev pub Entry : Type 0
Entry = Option Rule

-- what a line says of the opcodes from `first` to `last`
pub record Line (A : Type 0) : Type 0 where
  pub first : ℕ
  pub last : ℕ
  pub says : A

-- of a range, and of one opcode
abbrev pub from : {A : Type 0} → ℕ → ℕ → A → Line A
from a b x = record { first = a; last = b; says = x }

abbrev pub at : {A : Type 0} → ℕ → A → Line A
at k x = from k k x

-- what the lines say of an opcode, and `other` where they do not list it
unfoldable pub listed : {A : Type 0} → List (Line A) → A → ℕ → A
listed [] other k = other
listed (l ∷ ls) other k = pick (both (nat_le l.first k) (nat_le k l.last)) l.says (listed ls other k)

-- whether the lines list an opcode
unfoldable pub lists : {A : Type 0} → List (Line A) → ℕ → Bool
lists [] k = false
lists (l ∷ ls) k = either (both (nat_le l.first k) (nat_le k l.last)) (lists ls k)

-- what follows an opcode
pub data Form : Type 0 where
  unlisted : Form
  form : ModRM → Immediate → Form

-- an opcode alone; with an immediate; with a ModR/M byte
abbrev pub plain : Form
plain = form ModRM.Absent Immediate.Absent

abbrev pub imm : Immediate → Form
imm i = form ModRM.Absent i

abbrev pub modrm : ModRM → Form
modrm m = form m Immediate.Absent

-- ADD OR ADC SBB AND SUB XOR CMP: forms 0 to 3 have ModR/M, 4 has imm8, 5 has imm v
abbrev pub alu : ℕ → List (Line Form)
alu k = from (8 * k) (8 * k + 3) (modrm Any) ∷ at (8 * k + 4) (imm Imm8) ∷ at (8 * k + 5) (imm ImmV) ∷ []

-- the lists, a paragraph for each of their lines
unfoldable pub forms : List (Line Form)
forms =
    -- 8k+0 to 8k+5 for k = 0..7: ADD OR ADC SBB AND SUB XOR CMP
    alu 0 ++ alu 1 ++ alu 2 ++ alu 3 ++ alu 4 ++ alu 5 ++ alu 6 ++ alu 7
    -- 40-4F INC, DEC; 50-5F PUSH, POP; 68 imm32; 6A imm8; 69 ModR/M imm v; 6B ModR/M imm8
    ++ from 0x40 0x4F plain ∷ from 0x50 0x5F plain ∷ at 0x68 (imm Imm32) ∷ at 0x6A (imm Imm8)
    ∷ at 0x69 (form Any ImmV) ∷ at 0x6B (form Any Imm8)
    -- 70-7F Jcc, E0-E3 LOOPNE LOOPE LOOP JECXZ, EB: rel8. E8, E9, 0F 80-8F: rel32
    ∷ from 0x70 0x7F (imm Rel8) ∷ from 0xE0 0xE3 (imm Rel8) ∷ at 0xEB (imm Rel8)
    ∷ at 0xE8 (imm Rel32) ∷ at 0xE9 (imm Rel32) ∷ from 0x180 0x18F (imm Rel32)
    -- 80 imm8, 81 imm v, 83 imm8, 84-8B: ModR/M. 8D ModR/M, memory only
    ∷ at 0x80 (form Any Imm8) ∷ at 0x81 (form Any ImmV) ∷ at 0x83 (form Any Imm8) ∷ from 0x84 0x8B (modrm Any)
    ∷ at 0x8D (modrm Memory)
    -- 90-99; 9E, 9F; A0-A3 with a 4-byte address; C9; A4-A7, AA-AF; A8 imm8; A9 imm v; B0-B7 imm8; B8-BF imm v
    ∷ from 0x90 0x99 plain ∷ at 0x9E plain ∷ at 0x9F plain ∷ from 0xA0 0xA3 (imm Address) ∷ at 0xC9 plain
    ∷ from 0xA4 0xA7 plain ∷ from 0xAA 0xAF plain ∷ at 0xA8 (imm Imm8) ∷ at 0xA9 (imm ImmV)
    ∷ from 0xB0 0xB7 (imm Imm8) ∷ from 0xB8 0xBF (imm ImmV)
    -- C0, C1 ModR/M imm8; D0-D3 ModR/M: all but /6. C2 imm16, C3
    ∷ at 0xC0 (form AllBut6 Imm8) ∷ at 0xC1 (form AllBut6 Imm8) ∷ from 0xD0 0xD3 (modrm AllBut6)
    ∷ at 0xC2 (imm Imm16) ∷ at 0xC3 plain
    -- C6 /0 imm8, C7 /0 imm v. F5 F8 F9 FC FD
    ∷ at 0xC6 (form Only0 Imm8) ∷ at 0xC7 (form Only0 ImmV)
    ∷ at 0xF5 plain ∷ at 0xF8 plain ∷ at 0xF9 plain ∷ at 0xFC plain ∷ at 0xFD plain
    -- F6, F7 all but /1 (/0 has imm8 or v). FE /0 /1. FF /0 /1 /2 /4 /6
    ∷ at 0xF6 (form AllBut1 Imm8For0) ∷ at 0xF7 (form AllBut1 ImmVFor0)
    ∷ at 0xFE (modrm Only01) ∷ at 0xFF (modrm Only01246)
    -- 0F 90-9F, AF, B6, B7, BE, BF with ModR/M; 0F C8-CF
    ∷ from 0x190 0x19F (modrm Any) ∷ at 0x1AF (modrm Any)
    ∷ at 0x1B6 (modrm Any) ∷ at 0x1B7 (modrm Any) ∷ at 0x1BE (modrm Any) ∷ at 0x1BF (modrm Any)
    ∷ from 0x1C8 0x1CF plain
    -- M-100: 0F 40-4F; 0F A3, AB, B3, BB; 0F BA /4 to /7 imm8; 0F BC, BD; 0F A4, A5, AC, AD, of which A4 and AC have imm8: all with ModR/M
    ∷ from 0x140 0x14F (modrm Any)
    ∷ at 0x1A3 (modrm Any) ∷ at 0x1AB (modrm Any) ∷ at 0x1B3 (modrm Any) ∷ at 0x1BB (modrm Any) ∷ at 0x1BA (form Only4567 Imm8)
    ∷ at 0x1BC (modrm Any) ∷ at 0x1BD (modrm Any)
    ∷ at 0x1A4 (form Any Imm8) ∷ at 0x1A5 (modrm Any) ∷ at 0x1AC (form Any Imm8) ∷ at 0x1AD (modrm Any)
    -- M-106: F3 0F 10, 11; F3 0F 58, 59, 5C-5F; 0F 2F: all with ModR/M
    ∷ at 0x110 (modrm Any) ∷ at 0x111 (modrm Any)
    ∷ at 0x158 (modrm Any) ∷ at 0x159 (modrm Any) ∷ from 0x15C 0x15F (modrm Any)
    ∷ at 0x12F (modrm Any)
    ∷ []

-- ALU forms 1, 3, 5
abbrev pub alu66 : ℕ → List (Line Prefix66)
alu66 k = at (8 * k + 1) Allowed ∷ at (8 * k + 3) Allowed ∷ at (8 * k + 5) Allowed ∷ []

-- 66 is allowed only before these
unfoldable pub with66 : List (Line Prefix66)
with66 =
    alu66 0 ++ alu66 1 ++ alu66 2 ++ alu66 3 ++ alu66 4 ++ alu66 5 ++ alu66 6 ++ alu66 7
    ++ from 0x40 0x4F Allowed ∷ at 0x69 Allowed ∷ at 0x6B Allowed
    ∷ at 0x81 Allowed ∷ at 0x83 Allowed ∷ at 0x85 Allowed ∷ at 0x87 Allowed
    ∷ at 0x89 Allowed ∷ at 0x8B Allowed ∷ from 0x90 0x99 Allowed
    ∷ at 0xA1 Allowed ∷ at 0xA3 Allowed ∷ at 0xA5 Allowed ∷ at 0xA7 Allowed
    ∷ at 0xA9 Allowed ∷ at 0xAB Allowed ∷ at 0xAD Allowed ∷ at 0xAF Allowed
    ∷ from 0xB8 0xBF Allowed ∷ at 0xC1 Allowed ∷ at 0xC7 Allowed
    ∷ at 0xD1 Allowed ∷ at 0xD3 Allowed ∷ at 0xF7 Allowed
    ∷ at 0xFF Prefix66.Only01
    ∷ at 0x1AF Allowed ∷ at 0x1B6 Allowed ∷ at 0x1BE Allowed
    -- and all of M-100's
    ∷ from 0x140 0x14F Allowed
    ∷ at 0x1A3 Allowed ∷ at 0x1AB Allowed ∷ at 0x1B3 Allowed ∷ at 0x1BB Allowed ∷ at 0x1BA Allowed
    ∷ at 0x1BC Allowed ∷ at 0x1BD Allowed
    ∷ at 0x1A4 Allowed ∷ at 0x1A5 Allowed ∷ at 0x1AC Allowed ∷ at 0x1AD Allowed
    ∷ []

-- F3 only before these, and before those that ask for it
unfoldable pub with_f3 : List (Line Bool)
with_f3 = from 0xA4 0xA7 true ∷ from 0xAA 0xAF true ∷ []

-- F2 only before these
unfoldable pub with_f2 : List (Line Bool)
with_f2 = at 0xA6 true ∷ at 0xA7 true ∷ at 0xAE true ∷ at 0xAF true ∷ []

-- M-106: F3 has to stand before these
unfoldable pub asks_f3 : List (Line Bool)
asks_f3 = at 0x110 true ∷ at 0x111 true ∷ at 0x158 true ∷ at 0x159 true ∷ from 0x15C 0x15F true ∷ []

-- by whether F3 is asked for, and else by whether F2 and whether F3 is allowed
unfoldable pub repeats_of : Bool → Bool → Bool → PrefixRepeat
repeats_of true f2 f3 = PrefixRepeat.F3Asked
repeats_of false false false = PrefixRepeat.Refused
repeats_of false true false = PrefixRepeat.F2
repeats_of false false true = PrefixRepeat.F3
repeats_of false true true = PrefixRepeat.Either

-- an opcode's form and the prefixes that it takes
unfoldable pub entry_of : Form → Prefix66 → PrefixRepeat → Entry
entry_of unlisted s r = None
entry_of (form m i) s r = Some (record { modrm = m; immediate = i; size = s; repeats = r })

-- the rule of an opcode: all that the lists say of it
unfoldable pub rule_of : ℕ → Entry
unfolding listed forms with66 with_f2 with_f3 asks_f3 repeats_of entry_of pick
rule_of k =
    entry_of (listed forms unlisted k) (listed with66 Prefix66.Refused k)
    (repeats_of (listed asks_f3 false k) (listed with_f2 false k) (listed with_f3 false k))
