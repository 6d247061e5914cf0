-- The grammar: an instruction is any byte string that is built as document 01 says.
-- Assumes nothing.
use Rattle.std.specs.Prelude.{◌≡◌, Bool, true, false, not, List, [], ◌∷◌, ◌++◌, ℕ, suc, ◌+◌, ◌/◌, ◌%◌, ◌<◌, nat_le, slice_index, ◌==◌}
use Rattle.grammar.specs.Choice.{pick, both, either}
use Rattle.grammar.specs.Opcodes.{rule_of}
use Rattle.grammar.specs.declared.rule.ModRM.{ModRM}
use Rattle.grammar.specs.declared.rule.Immediate.{Immediate}
use Rattle.grammar.specs.declared.rule.Prefix66.{Prefix66}
use Rattle.grammar.specs.declared.rule.PrefixRepeat.{PrefixRepeat}
use Rattle.grammar.specs.declared.rule.Repeat.{Repeat}
use Rattle.grammar.specs.declared.rule.Rule.{Rule}
use Rattle.std.specs.Prelude.{Some}

-- so many bytes
pub data Bytes : ℕ → List ℕ → Type 0 where
  end : Bytes 0 []
  and : {b n : ℕ} {bs : List ℕ} → b < 256 → Bytes n bs → Bytes (suc n) (b ∷ bs)

-- F2 or F3
pub data RepeatPrefix : Type 0 where
  F2 : RepeatPrefix
  F3 : RepeatPrefix

-- 66 at most once, F2 or F3 at most one of them, in either order
pub data Prefixes : Type 0 where
  plain : Prefixes
  size : Prefixes
  repeated : RepeatPrefix → Prefixes
  size_repeated : RepeatPrefix → Prefixes
  repeated_size : RepeatPrefix → Prefixes

-- its byte
unfoldable pub repeat_byte : RepeatPrefix → ℕ
repeat_byte F2 = 0xF2
repeat_byte F3 = 0xF3

-- the prefixes' bytes
unfoldable pub prefix_bytes : Prefixes → List ℕ
prefix_bytes plain = []
prefix_bytes size = 0x66 ∷ []
prefix_bytes (repeated r) = repeat_byte r ∷ []
prefix_bytes (size_repeated r) = 0x66 ∷ repeat_byte r ∷ []
prefix_bytes (repeated_size r) = repeat_byte r ∷ 0x66 ∷ []

-- whether 66 is among the prefixes
unfoldable pub narrow_of : Prefixes → Bool
narrow_of plain = false
narrow_of size = true
narrow_of (repeated r) = false
narrow_of (size_repeated r) = true
narrow_of (repeated_size r) = true

-- the same, in a decoded instruction
unfoldable pub repeat_of : RepeatPrefix → Repeat
repeat_of F2 = Repeat.F2
repeat_of F3 = Repeat.F3

-- which of F2 and F3 is among the prefixes
unfoldable pub repeat_in : Prefixes → Repeat
repeat_in plain = Repeat.Absent
repeat_in size = Repeat.Absent
repeat_in (repeated r) = repeat_of r
repeat_in (size_repeated r) = repeat_of r
repeat_in (repeated_size r) = repeat_of r

-- an opcode: one byte, alone or after 0F
pub data Opcode : Type 0 where
  alone : ℕ → Opcode
  after_0f : ℕ → Opcode

-- the byte itself
abbrev pub opcode_byte : Opcode → ℕ
opcode_byte (alone b) = b
opcode_byte (after_0f b) = b

-- the opcode's bytes
unfoldable pub opcode_bytes : Opcode → List ℕ
opcode_bytes (alone b) = b ∷ []
opcode_bytes (after_0f b) = 0x0F ∷ b ∷ []

-- the opcode's number in the lists
unfoldable pub opcode_number : Opcode → ℕ
opcode_number (alone b) = b
opcode_number (after_0f b) = 0x100 + b

-- the fields of a ModR/M byte, and a SIB byte's base
abbrev pub mod_of : ℕ → ℕ
mod_of m = m / 64

abbrev pub reg_of : ℕ → ℕ
reg_of m = m / 8 % 8

abbrev pub rm_of : ℕ → ℕ
rm_of m = m % 8

abbrev pub base_of : ℕ → ℕ
base_of s = s % 8

-- table 2-2: a SIB byte follows where R/M is 4 and Mod is not 3
abbrev pub has_sib : ℕ → Bool
has_sib m = both (rm_of m == 4) (not (mod_of m == 3))

-- the SIB byte's count
unfoldable pub sib_length : ℕ → ℕ
sib_length m = pick (has_sib m) 1 0

-- tables 2-2 and 2-3: with Mod 0, 4 bytes where R/M is 5, and where a SIB byte follows whose base is 5
unfoldable pub bare_length : ℕ → ℕ → ℕ
bare_length m sib = pick (rm_of m == 5) 4 (pick (both (rm_of m == 4) (base_of sib == 5)) 4 0)

-- the displacement's bytes, by Mod 0, 1, 2 and 3; `sib` is the SIB byte, if there is one
abbrev pub displacement_length : ℕ → ℕ → ℕ
displacement_length m sib = slice_index (bare_length m sib ∷ 1 ∷ 4 ∷ []) (mod_of m)

-- /0 /1 /2 /4 /6
abbrev pub only01246 : ℕ → Bool
only01246 field = either (nat_le field 2) (either (field == 4) (field == 6))

-- whether a ModR/M byte is one that the opcode's rule allows
abbrev pub allows : ModRM → ℕ → Bool
allows ModRM.Absent m = false
allows ModRM.Any m = true
allows ModRM.Memory m = not (mod_of m == 3)
allows ModRM.AllBut6 m = not (reg_of m == 6)
allows ModRM.Only0 m = reg_of m == 0
allows ModRM.AllBut1 m = not (reg_of m == 1)
allows ModRM.Only01 m = nat_le (reg_of m) 1
allows ModRM.Only01246 m = only01246 (reg_of m)
allows ModRM.Only4567 m = nat_le 4 (reg_of m)

-- the operand: none, or a ModR/M byte with SIB and displacement
pub data Operand : Type 0 where
  absent : Operand
  addressed : (modrm : ℕ) (sib displacement : List ℕ) → Operand

-- the operand's bytes
unfoldable pub operand_bytes : Operand → List ℕ
operand_bytes absent = []
operand_bytes (addressed m sib displacement) = m ∷ sib ++ displacement

-- the reg field, and 0 where there is none
unfoldable pub field_of : Operand → ℕ
field_of absent = 0
field_of (addressed m sib displacement) = reg_of m

-- the operand is as the opcode's rule and the tables say
pub data OperandFits : ModRM → Operand → Type 0 where
  without : OperandFits ModRM.Absent absent
  with : {g : ModRM} {m : ℕ} {sib displacement : List ℕ} → m < 256 → allows g m ≡ true → Bytes (sib_length m) sib
      → Bytes (displacement_length m (slice_index sib 0)) displacement → OperandFits g (addressed m sib displacement)

-- "v" is 4 bytes, or 2 under 66
abbrev pub operand_size : Bool → ℕ
operand_size false = 4
operand_size true = 2

-- how many bytes the immediate has, under 66 or not and with the reg field
abbrev pub immediate_length : Immediate → Bool → ℕ → ℕ
immediate_length Immediate.Absent narrow field = 0
immediate_length Immediate.Imm8 narrow field = 1
immediate_length Immediate.Imm16 narrow field = 2
immediate_length Immediate.Imm32 narrow field = 4
immediate_length Immediate.ImmV narrow field = operand_size narrow
immediate_length Immediate.Address narrow field = 4
immediate_length Immediate.Rel8 narrow field = 1
immediate_length Immediate.Rel32 narrow field = 4
immediate_length Immediate.Imm8For0 narrow field = pick (field == 0) 1 0
immediate_length Immediate.ImmVFor0 narrow field = pick (field == 0) (operand_size narrow) 0

-- whether 66, or its absence, is allowed before an opcode with this reg field
abbrev pub allows66 : Prefix66 → Bool → ℕ → Bool
allows66 Prefix66.Refused narrow field = not narrow
allows66 Prefix66.Allowed narrow field = true
allows66 Prefix66.Only01 narrow field = either (not narrow) (nat_le field 1)

-- whether F2, F3 or their absence is allowed before an opcode
abbrev pub allows_repeat : PrefixRepeat → Repeat → Bool
allows_repeat PrefixRepeat.Refused Repeat.Absent = true
allows_repeat PrefixRepeat.F2 Repeat.Absent = true
allows_repeat PrefixRepeat.F3 Repeat.Absent = true
allows_repeat PrefixRepeat.Either Repeat.Absent = true
allows_repeat PrefixRepeat.F3Asked Repeat.Absent = false
allows_repeat PrefixRepeat.Refused Repeat.F2 = false
allows_repeat PrefixRepeat.F2 Repeat.F2 = true
allows_repeat PrefixRepeat.F3 Repeat.F2 = false
allows_repeat PrefixRepeat.Either Repeat.F2 = true
allows_repeat PrefixRepeat.F3Asked Repeat.F2 = false
allows_repeat PrefixRepeat.Refused Repeat.F3 = false
allows_repeat PrefixRepeat.F2 Repeat.F3 = false
allows_repeat PrefixRepeat.F3 Repeat.F3 = true
allows_repeat PrefixRepeat.Either Repeat.F3 = true
allows_repeat PrefixRepeat.F3Asked Repeat.F3 = true

-- the parts of an instruction, in their order
pub record Parts : Type 0 where
  pub prefixes : Prefixes
  pub opcode : Opcode
  pub operand : Operand
  pub immediate : List ℕ

-- the parts joined
unfoldable pub bytes_of : Parts → List ℕ
bytes_of p = prefix_bytes p.prefixes ++ (opcode_bytes p.opcode ++ (operand_bytes p.operand ++ p.immediate))

-- the opcode is listed, and the other parts are as its rule says
pub record Built (p : Parts) : Type 0 where
  pub rule : Rule
  pub opcode : opcode_byte p.opcode < 256
  pub listed : rule_of (opcode_number p.opcode) ≡ Some rule
  pub size : allows66 rule.size (narrow_of p.prefixes) (field_of p.operand) ≡ true
  pub repeat : allows_repeat rule.repeats (repeat_in p.prefixes) ≡ true
  pub operand : OperandFits rule.modrm p.operand
  pub immediate : Bytes (immediate_length rule.immediate (narrow_of p.prefixes) (field_of p.operand)) p.immediate

-- these bytes are an instruction
pub record Instruction (bytes : List ℕ) : Type 0 where
  pub parts : Parts
  pub built : Built parts
  pub joined : bytes_of parts ≡ bytes

-- a cut of some code: a list of instructions that joined give the code
pub data Cut : List (List ℕ) → List ℕ → Type 0 where
  done : Cut [] []
  next : {bytes code : List ℕ} {later : List (List ℕ)} → Instruction bytes → Cut later code → Cut (bytes ∷ later) (bytes ++ code)
