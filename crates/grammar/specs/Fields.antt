-- Reading an instruction from the left: of some bytes a value and the bytes after it, or why none stands there.
-- That this is what the tree of Decoding reads is proved.
-- Assumes nothing.
use Rattle.std.specs.Prelude.{◌≡◌, Bool, true, false, if◌then◌else◌, List, [], ◌∷◌, ℕ, ◌+◌, ◌-◌, ◌==◌, nat_lt, Result, Ok, Err, length, take, drop}
use Rattle.width.specs.LittleEndian.{little_endian}
use Rattle.grammar.specs.Choice.{both}
use Rattle.grammar.specs.Opcodes.{rule_of}
use Rattle.grammar.specs.Grammar.{reg_of, has_sib, displacement_length, immediate_length, allows, allows66}
use Rattle.grammar.specs.Answers.{displaced}
use Rattle.grammar.specs.Decoding.{has_modrm, accepts, escapes}
use Rattle.grammar.specs.declared.rule.Repeat.{Repeat}
use Rattle.grammar.specs.declared.rule.Rule.{Rule}
use Rattle.grammar.specs.Opcodes.{Entry}
use Rattle.std.specs.Prelude.{None, Some}
use Rattle.grammar.specs.declared.instruction.Decoded.{Decoded}
use Rattle.grammar.specs.declared.instruction.Fault.{Fault}
use Rattle.grammar.specs.declared.decode.Prefixes.{Prefixes}
use Rattle.grammar.specs.declared.decode.Operand.{Operand}

infixl 10 ◌>>=◌
abbrev pub ◌>>=◌ : {A B : Type 0} → Result A Fault → (A → Result B Fault) → Result B Fault
(Ok x) >>= f = f x
(Err e) >>= f = Err e

-- what a reader returned and left is what reading gives
abbrev pub Reads : {A : Type 0} → List ℕ → Result A Fault → Result (A × List ℕ) Fault → Type 0
Reads new (Ok x) read = read ≡ Ok (x, new)
Reads new (Err e) read = read ≡ Err e

-- the next byte
abbrev pub byte_at : List ℕ → Result (ℕ × List ℕ) Fault
byte_at [] = Err Fault.Cut
byte_at (b ∷ bytes) = Ok (b, bytes)

-- the number of the next n bytes, the low byte first
abbrev pub number_at : ℕ → List ℕ → Result (ℕ × List ℕ) Fault
number_at n bytes = if nat_lt (length bytes) n then Err Fault.Cut else Ok (little_endian (take n bytes), drop n bytes)

-- the displacement of the next n bytes
abbrev pub displacement_at : ℕ → List ℕ → Result (ℕ × List ℕ) Fault
displacement_at n bytes = if nat_lt (length bytes) n then Err Fault.Cut else Ok (displaced (take n bytes), drop n bytes)

-- which prefixes stand before an opcode
abbrev pub prefixes : Bool → Repeat → Prefixes
prefixes narrow repeat = record { narrow = narrow; repeat = repeat }

-- prefixes, and the byte after them
abbrev pub byte_after : Prefixes → List ℕ → Result ((Prefixes × ℕ) × List ℕ) Fault
byte_after p bytes = do
  b ← byte_at bytes
  Ok ((p, b.0), b.1)

-- what follows F2 or F3: 66, or the opcode
unfoldable pub after_repeat_at : Repeat → List ℕ → Result ((Prefixes × ℕ) × List ℕ) Fault
after_repeat_at repeat bytes = do
  b ← byte_at bytes
  if b.0 == 0x66 then byte_after (prefixes true repeat) b.1 else Ok ((prefixes false repeat, b.0), b.1)

-- what follows 66: F2, F3 or the opcode
unfoldable pub after_66_at : List ℕ → Result ((Prefixes × ℕ) × List ℕ) Fault
after_66_at bytes = do
  b ← byte_at bytes
  if b.0 == 0xF2 then byte_after (prefixes true Repeat.F2) b.1 else (if b.0 == 0xF3 then byte_after (prefixes true Repeat.F3) b.1 else Ok ((prefixes true Repeat.Absent, b.0), b.1))

-- the prefixes, and the opcode's first byte
unfoldable pub prefixes_at : List ℕ → Result ((Prefixes × ℕ) × List ℕ) Fault
prefixes_at bytes = do
  b ← byte_at bytes
  if b.0 == 0x66 then after_66_at b.1 else (if b.0 == 0xF2 then after_repeat_at Repeat.F2 b.1 else (if b.0 == 0xF3 then after_repeat_at Repeat.F3 b.1 else Ok ((prefixes false Repeat.Absent, b.0), b.1)))

-- the opcode's number, its first byte being read
unfoldable pub opcode_at : Prefixes → ℕ → List ℕ → Result (ℕ × List ℕ) Fault
opcode_at p first bytes =
    if first == 0x0F
    then (if escapes p.narrow p.repeat then (byte_at bytes >>= λ b. Ok (0x100 + b.0, b.1)) else Err Fault.Unknown)
    else Ok (first, bytes)

-- the rule of an opcode, where it takes the prefixes
abbrev pub accepted : Prefixes → Entry → Result Rule Fault
accepted p None = Err Fault.Unknown
accepted p (Some rule) = if accepts p.narrow p.repeat rule then Ok rule else Err Fault.Unknown

-- the SIB byte, where one follows
unfoldable pub sib_at : ℕ → List ℕ → Result (ℕ × List ℕ) Fault
sib_at m bytes = if has_sib m then byte_at bytes else Ok (0, bytes)

-- what follows the ModR/M byte
unfoldable pub address_at : ℕ → List ℕ → Result (Operand × List ℕ) Fault
address_at m bytes = do
  sib ← sib_at m bytes
  displacement ← displacement_at (displacement_length m sib.0) sib.1
  Ok (record { modrm = m; sib = sib.0; displacement = displacement.0 }, displacement.1)

-- the ModR/M byte and what follows it
unfoldable pub modrm_at : Rule → Bool → List ℕ → Result (Operand × List ℕ) Fault
modrm_at rule narrow bytes = do
  m ← byte_at bytes
  if both (allows rule.modrm m.0) (allows66 rule.size narrow (reg_of m.0)) then address_at m.0 m.1 else Err Fault.Unknown

-- the operand, where there is one
unfoldable pub operand_at : Rule → Bool → List ℕ → Result (Operand × List ℕ) Fault
operand_at rule narrow bytes =
    if has_modrm rule.modrm then modrm_at rule narrow bytes else Ok (record { modrm = 0; sib = 0; displacement = 0 }, bytes)

-- the parts of an instruction of so many bytes
abbrev pub decoded : ℕ → ℕ → Prefixes → Operand → ℕ → Decoded
decoded size opcode p o immediate =
    record {
      length = size;
      opcode = opcode;
      narrow = p.narrow;
      repeat = p.repeat;
      modrm = o.modrm;
      sib = o.sib;
      displacement = o.displacement;
      immediate = immediate;
    }

-- what follows the prefixes and the opcode's first byte, of some bytes
unfoldable pub after_prefixes : List ℕ → Prefixes → ℕ → List ℕ → Result (Decoded × List ℕ) Fault
after_prefixes whole p first bytes = do
  opcode ← opcode_at p first bytes
  rule ← accepted p (rule_of opcode.0)
  operand ← operand_at rule p.narrow opcode.1
  immediate ← number_at (immediate_length rule.immediate p.narrow (reg_of operand.0.modrm)) operand.1
  Ok (decoded (length whole - length immediate.1) opcode.0 p operand.0 immediate.0, immediate.1)

-- an instruction
unfoldable pub instruction_at : List ℕ → Result (Decoded × List ℕ) Fault
instruction_at bytes = do
  p ← prefixes_at bytes
  after_prefixes bytes p.0.0 p.0.1 p.1
