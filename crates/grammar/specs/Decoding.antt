-- How the decoder reads: the grammar as a tree, a subtree for each of its functions. That it reads the grammar exactly is proved.
-- Assumes nothing.
use Rattle.std.specs.Prelude.{◌≡◌, Bool, true, false, not, List, [], ◌∷◌, ℕ, ◌+◌, ◌≤◌, length, drop, slice_index, ◌==◌}
use Rattle.grammar.specs.Choice.{pick, both}
use Rattle.grammar.specs.Opcodes.{rule_of}
use Rattle.grammar.specs.Grammar.{reg_of, sib_length, displacement_length, immediate_length, allows, allows66, allows_repeat}
use Rattle.width.specs.LittleEndian.{little_endian}
use Rattle.grammar.specs.Answers.{displaced, Answers}
use Rattle.grammar.specs.Reading.{Tree, done, none, byte, Read, whole, short, wrong, run, bytes_then}
use Rattle.grammar.specs.declared.rule.ModRM.{ModRM}
use Rattle.grammar.specs.declared.rule.Immediate.{Immediate}
use Rattle.grammar.specs.declared.rule.Repeat.{Repeat}
use Rattle.grammar.specs.declared.rule.Rule.{Rule}
use Rattle.grammar.specs.Opcodes.{Entry}
use Rattle.std.specs.Prelude.{None, Some}
use Rattle.grammar.specs.declared.instruction.Decoded.{Decoded}
use Rattle.grammar.specs.Answers.{Found}
use Rattle.std.specs.Prelude.{Ok, Err}
use Rattle.grammar.specs.declared.instruction.Fault.{Fault}

-- a count of bytes that a number is read from: 0, 1, 2 or 4
pub record Count (n : ℕ) : Type 0 where
  pub four : n ≤ 4
  pub three : n ≡ 3 → ⊥

-- the numbers once so many bytes are read, up to the opcode
abbrev pub opened : ℕ → Bool → Repeat → ℕ → Decoded
opened n narrow repeat k =
    record { length = n; opcode = k; narrow = narrow; repeat = repeat; modrm = 0; sib = 0; displacement = 0; immediate = 0 }

-- with a ModR/M byte read
abbrev pub with_modrm : Decoded → ℕ → Decoded
with_modrm d m =
    record {
      length = d.length + 1;
      opcode = d.opcode;
      narrow = d.narrow;
      repeat = d.repeat;
      modrm = m;
      sib = d.sib;
      displacement = d.displacement;
      immediate = d.immediate;
    }

-- with a SIB byte read, if there is one
abbrev pub with_sib : Decoded → List ℕ → Decoded
with_sib d [] = d
with_sib d (s ∷ later) =
    record {
      length = d.length + 1;
      opcode = d.opcode;
      narrow = d.narrow;
      repeat = d.repeat;
      modrm = d.modrm;
      sib = s;
      displacement = d.displacement;
      immediate = d.immediate;
    }

-- with the whole length, the displacement and the immediate
abbrev pub closed : Decoded → ℕ → ℕ → ℕ → Decoded
closed d size displacement immediate =
    record {
      length = size;
      opcode = d.opcode;
      narrow = d.narrow;
      repeat = d.repeat;
      modrm = d.modrm;
      sib = d.sib;
      displacement = displacement;
      immediate = immediate;
    }

-- with the displacement's and the immediate's bytes read
abbrev pub ended : Decoded → List ℕ → List ℕ → Decoded
ended d ds is = closed d (d.length + length ds + length is) (displaced ds) (little_endian is)

-- the displacement and the immediate, of so many bytes each
unfoldable pub tail_tree : Decoded → ℕ → ℕ → Tree Decoded
tail_tree d displacement immediate = bytes_then displacement (λ ds. bytes_then immediate (λ is. done (ended d ds is)))

-- what follows the ModR/M byte
unfoldable pub address_tree : Immediate → Decoded → Tree Decoded
address_tree kind d =
    bytes_then (sib_length d.modrm)
    (λ sib. tail_tree (with_sib d sib) (displacement_length d.modrm (slice_index sib 0)) (immediate_length kind d.narrow (reg_of d.modrm)))

-- the ModR/M byte, where its rule and that of 66 allow it
unfoldable pub modrm_tree : Rule → Decoded → Tree Decoded
modrm_tree rule d =
    byte
    (λ m. pick (both (allows rule.modrm m) (allows66 rule.size d.narrow (reg_of m))) (address_tree rule.immediate (with_modrm d m)) none)

-- whether a ModR/M byte follows
abbrev pub has_modrm : ModRM → Bool
has_modrm ModRM.Absent = false
has_modrm ModRM.Any = true
has_modrm ModRM.Memory = true
has_modrm ModRM.AllBut6 = true
has_modrm ModRM.Only0 = true
has_modrm ModRM.AllBut1 = true
has_modrm ModRM.Only01 = true
has_modrm ModRM.Only01246 = true
has_modrm ModRM.Only4567 = true

-- what follows the opcode
unfoldable pub operand_tree : Rule → Decoded → Tree Decoded
operand_tree rule d =
    pick (has_modrm rule.modrm) (modrm_tree rule d) (tail_tree d 0 (immediate_length rule.immediate d.narrow 0))

-- whether the prefixes are allowed before an opcode, with reg field 0 where it has one
unfoldable pub accepts : Bool → Repeat → Rule → Bool
accepts narrow repeat rule = both (allows_repeat rule.repeats repeat) (allows66 rule.size narrow 0)

-- what follows the opcode, by its entry
unfoldable pub entry_tree : ℕ → Bool → Repeat → ℕ → Entry → Tree Decoded
entry_tree n narrow repeat k None = none
entry_tree n narrow repeat k (Some rule) = pick (accepts narrow repeat rule) (operand_tree rule (opened n narrow repeat k)) none

-- what follows the opcode's number, n bytes being read
unfoldable pub opcode_tree : ℕ → Bool → Repeat → ℕ → Tree Decoded
opcode_tree n narrow repeat k = entry_tree n narrow repeat k (rule_of k)

-- whether the prefixes are allowed before any opcode after 0F: F2 is not, and F3 not with 66
unfoldable pub escapes : Bool → Repeat → Bool
escapes narrow Repeat.Absent = true
escapes narrow Repeat.F2 = false
escapes narrow Repeat.F3 = not narrow

-- what follows 0F
unfoldable pub escape_tree : ℕ → Bool → Repeat → Tree Decoded
escape_tree n narrow repeat = pick (escapes narrow repeat) (byte (λ b. opcode_tree (n + 1) narrow repeat (0x100 + b))) none

-- what follows the opcode's first byte, n bytes standing before it
unfoldable pub first_tree : ℕ → Bool → Repeat → ℕ → Tree Decoded
first_tree n narrow repeat b = pick (b == 0x0F) (escape_tree (n + 1) narrow repeat) (opcode_tree (n + 1) narrow repeat b)

-- what follows 66
unfoldable pub size_tree : Tree Decoded
size_tree =
    byte
    (λ b. pick (b == 0xF2) (byte (first_tree 2 true Repeat.F2)) (pick (b == 0xF3) (byte (first_tree 2 true Repeat.F3)) (first_tree 1 true Repeat.Absent b)))

-- what follows F2 or F3
unfoldable pub repeat_tree : Repeat → Tree Decoded
repeat_tree r = byte (λ b. pick (b == 0x66) (byte (first_tree 2 true r)) (first_tree 1 false r b))

-- an instruction
unfoldable pub tree : Tree Decoded
tree =
    byte
    (λ b. pick (b == 0x66) size_tree
    (pick (b == 0xF2) (repeat_tree Repeat.F2)
    (pick (b == 0xF3) (repeat_tree Repeat.F3) (first_tree 0 false Repeat.Absent b))))

-- what is found, by what reading gives
unfoldable pub answer : Read Decoded → Found
answer (whole d rest) = Ok d
answer short = Err Fault.Cut
answer wrong = Err Fault.Unknown

-- what a tree finds at a place of the bytes
unfoldable pub found : Tree Decoded → List ℕ → ℕ → Found
found t bytes at = answer (run t (drop at bytes))

-- what stands at a place of the code
unfoldable pub decode_of : List ℕ → ℕ → Found
decode_of bytes at = found tree bytes at

-- what decode gives is what the tree finds, and so what the grammar says
pub record Decodes (code : List ℕ) (at : ℕ) (r : Found) : Type 0 where
  pub is : r ≡ decode_of code at
  pub answers : Answers (drop at code) r
