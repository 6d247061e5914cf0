-- The listing of a block: its text, from what the block check answers. Assumes nothing.
use Rattle.std.specs.Prelude.{List, [], ◌∷◌, ◌++◌, ℕ, zero, suc, ◌+◌, ◌%◌, length, nat_lt}
use Rattle.grammar.specs.Choice.{pick}
use Rattle.grammar.specs.Grammar.{opcode_bytes, Instruction, Cut, done, next}
use Rattle.grammar.specs.Decoding.{decode_of}
use Rattle.grammar.specs.Answers.{Found}
use Rattle.std.specs.Prelude.{Ok, Err}
use Rattle.grammar.specs.declared.instruction.Fault.{Fault}
use Rattle.blockcheck.specs.Blocks.{Judged}
use Rattle.text.specs.Ascii.{ascii}
use Rattle.text.specs.Written.{Wrote}
use Rattle.text.specs.Digits.{hexadecimal, hex_bytes}
use Rattle.text.specs.Fields.{tab, newline, field, refusal}

-- the fixed header
unfoldable pub header : List ℕ
header = ascii "offset\tlength\topcode\n"

-- how the last line begins
unfoldable pub accepted_word : List ℕ
accepted_word = ascii "accepted\t"

-- an opcode's number in capital hex: two digits, and four after 0F
unfoldable pub opcode_text : ℕ → List ℕ
opcode_text k = pick (nat_lt k 0x100) (hexadecimal 2 k) (hexadecimal 4 (0x0F00 + k % 0x100))

-- an instruction's line: its offset, how many bytes it has, its opcode
unfoldable pub line_of : ℕ → ℕ → ℕ → List ℕ
line_of offset size opcode = field offset tab ++ field size tab ++ opcode_text opcode ++ newline ∷ []

-- the line of an instruction found at offset i, and what follows it
unfoldable pub line_then : ℕ → Found → (ℕ → List ℕ) → List ℕ
line_then i (Ok d) later = line_of i d.length d.opcode ++ later (i + d.length)
line_then i (Err Fault.Cut) later = []
line_then i (Err Fault.Unknown) later = []

-- the lines of n instructions that stand one after another, from offset i on
unfoldable pub lines_from : List ℕ → ℕ → ℕ → List ℕ
lines_from code zero i = []
lines_from code (suc n) i = line_then i (decode_of code i) (lines_from code n)

-- by the grammar, an instruction's line: its offset and length in decimal, its opcode's bytes in capital hex
unfoldable pub instruction_line : ℕ → (bytes : List ℕ) → Instruction bytes → List ℕ
instruction_line i bytes instruction =
    field i tab ++ field (length bytes) tab ++ hex_bytes (opcode_bytes instruction.parts.opcode) ++ newline ∷ []

-- the lines of a cut's instructions, the first at offset i
unfoldable pub cut_lines : ℕ → {pieces : List (List ℕ)} {code : List ℕ} → Cut pieces code → List ℕ
cut_lines i done = []
cut_lines i (next {bytes} instruction later) = instruction_line i bytes instruction ++ cut_lines (i + length bytes) later

-- what follows the header, by the paper's number and value: the lines and the count where it is 0
unfoldable pub body_of : List ℕ → ℕ → ℕ → List ℕ
body_of code zero count = lines_from code count 0 ++ accepted_word ++ field count newline
body_of code (suc n) offset = refusal (suc n) offset

-- the whole text
unfoldable pub text_of : List ℕ → ℕ → ℕ → List ℕ
text_of code number value = header ++ body_of code number value

-- as long as the header, 65,536 lines of 12 bytes and the last line: no text is longer
abbrev pub longest : ℕ
longest = 786468

-- a block is listed: the check's number and value, its marks, and its text from the start of a buffer on
pub record Listed (code marks out : List ℕ) (next : ℕ) (marks_after out_after : List ℕ) : Type 0 where
  pub number : ℕ
  pub value : ℕ
  pub judged : Judged code marks number value marks_after
  pub wrote : Wrote out 0 (text_of code number value) next out_after
