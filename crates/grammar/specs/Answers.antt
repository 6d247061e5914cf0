-- What stands at the front of some bytes, by the grammar: a whole instruction in numbers, a cut one, or none.
-- Assumes nothing.
use Rattle.std.specs.Prelude.{◌≡◌, List, [], ◌∷◌, ◌++◌, ℕ, ◌+◌, length, take, nat_lt, slice_index, Result, Ok, Err}
use Rattle.width.specs.LittleEndian.{little_endian}
use Rattle.grammar.specs.Choice.{pick}
use Rattle.grammar.specs.Grammar.{Operand, absent, addressed, Parts, Instruction, bytes_of, opcode_number, narrow_of, repeat_in}
use Rattle.grammar.specs.declared.instruction.Decoded.{Decoded}
use Rattle.grammar.specs.declared.instruction.Fault.{Fault}

-- what stands at a place of the code: a whole instruction; or the code ends inside one, or none begins so
abbrev pub Found : Type 0
Found = Result Decoded Fault

-- a displacement as a 32-bit number: one byte is extended by sign
unfoldable pub displaced : List ℕ → ℕ
displaced [] = 0
displaced (b ∷ []) = pick (nat_lt b 128) b (b + 0xFFFFFF00)
displaced (a ∷ b ∷ bs) = little_endian (a ∷ b ∷ bs)

-- the operand's bytes as numbers, 0 where there are none
unfoldable pub modrm_of : Operand → ℕ
modrm_of absent = 0
modrm_of (addressed m sib displacement) = m

unfoldable pub sib_of : Operand → ℕ
sib_of absent = 0
sib_of (addressed m sib displacement) = slice_index sib 0

unfoldable pub displacement_of : Operand → ℕ
displacement_of absent = 0
displacement_of (addressed m sib displacement) = displaced displacement

-- an instruction's parts in numbers
unfoldable pub numbers : Parts → Decoded
numbers p =
    record {
      length = length (bytes_of p);
      opcode = opcode_number p.opcode;
      narrow = narrow_of p.prefixes;
      repeat = repeat_in p.prefixes;
      modrm = modrm_of p.operand;
      sib = sib_of p.operand;
      displacement = displacement_of p.operand;
      immediate = little_endian p.immediate;
    }

-- a decoded instruction's own bytes, among those from its place on
unfoldable pub own_bytes : Decoded → List ℕ → List ℕ
own_bytes d bytes = take d.length bytes

-- the bytes begin with an instruction
pub record Begins (bytes : List ℕ) : Type 0 where
  pub own : List ℕ
  pub instruction : Instruction own
  pub rest : List ℕ
  pub joined : own ++ rest ≡ bytes

-- the bytes are a proper prefix of an instruction
pub record Prefix (bytes : List ℕ) : Type 0 where
  pub next : ℕ
  pub more : List ℕ
  pub whole : Instruction (bytes ++ next ∷ more)

-- what is found at the front of the bytes
pub data Answers (bytes : List ℕ) : Found → Type 0 where
  instruction : (i : Begins bytes) → Answers bytes (Ok (numbers i.instruction.parts))
  cut : Prefix bytes → Answers bytes (Err Fault.Cut)
  unknown : (Begins bytes → ⊥) → (Prefix bytes → ⊥) → Answers bytes (Err Fault.Unknown)
