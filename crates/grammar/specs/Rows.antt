-- The rows of the code's table of opcodes: for its private functions and those of `sense`; nothing here need be believed. Assumes nothing.
use denote.Enum.Declared.{tag_of}
use Rattle.std.specs.Prelude.{slice_index_or, List, [], ◌∷◌, ◌++◌, ℕ, ◌+◌, ◌*◌, ◌==◌}
use Rattle.grammar.specs.Choice.{pick}
use Rattle.grammar.specs.Opcodes.{Line, from, at, listed}
use Rattle.grammar.specs.contracts.rule.Row as R
use Rattle.grammar.specs.declared.rows.TheConstants.{ROWS}
use Rattle.grammar.specs.declared.rule.Row.{Row}

-- forms 0 to 5 of ADD OR ADC SBB AND SUB XOR CMP
abbrev pub alu : ℕ → List (Line ℕ)
alu k = at (8 * k) 0 ∷ at (8 * k + 1) 1 ∷ at (8 * k + 2) 2 ∷ at (8 * k + 3) 3 ∷ at (8 * k + 4) 4 ∷ at (8 * k + 5) 5 ∷ []

-- the row of each opcode, in the order of documents 01 and 02
unfoldable pub rows : List (Line ℕ)
rows =
    alu 0 ++ alu 1 ++ alu 2 ++ alu 3 ++ alu 4 ++ alu 5 ++ alu 6 ++ alu 7
    ++ from 0x40 0x47 6 ∷ from 0x48 0x4F 7 ∷ from 0x50 0x57 8 ∷ from 0x58 0x5F 9 ∷ at 0x68 10 ∷ at 0x6A 11 ∷ at 0x69 12 ∷ at 0x6B 13
    ∷ from 0x70 0x7F 14 ∷ at 0xE0 15 ∷ at 0xE1 16 ∷ at 0xE2 17 ∷ at 0xE3 18 ∷ at 0xEB 19 ∷ at 0xE8 20 ∷ at 0xE9 21
    ∷ from 0x180 0x18F 22
    ∷ at 0x80 23 ∷ at 0x81 24 ∷ at 0x83 25 ∷ at 0x84 26 ∷ at 0x85 27 ∷ at 0x86 28 ∷ at 0x87 29 ∷ at 0x88 30
    ∷ at 0x89 31 ∷ at 0x8A 32 ∷ at 0x8B 33 ∷ at 0x8D 34
    ∷ from 0x90 0x97 35 ∷ at 0x98 36 ∷ at 0x99 37 ∷ at 0x9E 38 ∷ at 0x9F 39 ∷ at 0xA0 40 ∷ at 0xA1 41 ∷ at 0xA2 42
    ∷ at 0xA3 43 ∷ at 0xC9 44 ∷ at 0xA4 45 ∷ at 0xA5 46 ∷ at 0xA6 47 ∷ at 0xA7 48 ∷ at 0xAA 49 ∷ at 0xAB 50
    ∷ at 0xAC 51 ∷ at 0xAD 52 ∷ at 0xAE 53 ∷ at 0xAF 54 ∷ at 0xA8 55 ∷ at 0xA9 56 ∷ from 0xB0 0xB7 57 ∷ from 0xB8 0xBF 58
    ∷ at 0xC0 59 ∷ at 0xC1 60 ∷ at 0xD0 61 ∷ at 0xD1 62 ∷ at 0xD2 63 ∷ at 0xD3 64 ∷ at 0xC2 65 ∷ at 0xC3 66
    ∷ at 0xC6 67 ∷ at 0xC7 68 ∷ at 0xF5 69 ∷ at 0xF8 70 ∷ at 0xF9 71 ∷ at 0xFC 72 ∷ at 0xFD 73
    ∷ at 0xF6 74 ∷ at 0xF7 75 ∷ at 0xFE 76 ∷ at 0xFF 77
    ∷ from 0x190 0x19F 78 ∷ at 0x1AF 79 ∷ at 0x1B6 80 ∷ at 0x1B7 81 ∷ at 0x1BE 82 ∷ at 0x1BF 83 ∷ from 0x1C8 0x1CF 84
    ∷ from 0x140 0x14F 85 ∷ at 0x1A3 86 ∷ at 0x1AB 86 ∷ at 0x1B3 86 ∷ at 0x1BB 86 ∷ at 0x1BA 87 ∷ at 0x1BC 88 ∷ at 0x1BD 89
    ∷ at 0x1A4 90 ∷ at 0x1A5 91 ∷ at 0x1AC 92 ∷ at 0x1AD 93
    ∷ at 0x110 94 ∷ at 0x111 95 ∷ at 0x158 96 ∷ at 0x159 96 ∷ from 0x15C 0x15F 96 ∷ at 0x12F 97
    ∷ []

-- 255: no such opcode
unfoldable pub row_of : ℕ → ℕ
row_of k = listed rows 255 k

-- the first opcode of which lines say r, and 1FF, which is none, where there is none
unfoldable pub first_in : List (Line ℕ) → ℕ → ℕ
first_in [] r = 0x1FF
first_in (l ∷ ls) r = pick (l.says == r) l.first (first_in ls r)

-- the first opcode of a row
unfoldable pub first_row : ℕ → ℕ
first_row r = first_in rows r

-- the row that the code's table has at an opcode's place
abbrev pub row_at : ℕ → Row
row_at k = slice_index_or ROWS k Row.Unlisted

-- its number above; 255: no such opcode
abbrev pub number_of : Row → ℕ
number_of r = pick (tag_of R.the_type r == 98) 255 (tag_of R.the_type r)
