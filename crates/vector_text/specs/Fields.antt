-- A line of test cases: its fields, parted by tabs, and the form that they have. Assumes nothing.
use Rattle.std.specs.Prelude.{Bool, true, false, ◌&&◌, ◌||◌, List, [], ◌∷◌, ◌++◌, ℕ, ◌-◌, ◌%◌, length, if◌then◌else◌, nat_le, nat_lt, slice_index_or, ◌==◌}
use Rattle.text.specs.Ascii.{ascii}
use Rattle.vector_text.specs.Hex.{are_digits, equal}

-- what parts the fields of a line
abbrev pub tab : ℕ
tab = 9

-- bytes put before the first of some fields
unfoldable pub before : List ℕ → List (List ℕ) → List (List ℕ)
before bytes [] = []
before bytes (field ∷ later) = (bytes ++ field) ∷ later

-- the fields of a line: one more than it has tabs
unfoldable pub fields : List ℕ → List (List ℕ)
fields [] = [] ∷ []
fields (b ∷ line) = if b == tab then [] ∷ fields line else before (b ∷ []) (fields line)

-- the field of a number, the first being 1; nothing if the line has fewer
unfoldable pub field_of : List ℕ → ℕ → List ℕ
field_of line number = slice_index_or (fields line) (number - 1) []

-- a number of so many hex digits at the most
abbrev pub is_number : ℕ → List ℕ → Bool
is_number most text = nat_lt 0 (length text) && nat_le (length text) most && are_digits text

-- a dash for no bytes
abbrev pub dash : List ℕ
dash = ascii "-"

-- a byte string: a dash, or two hex digits a byte
abbrev pub is_bytes : List ℕ → Bool
is_bytes text = equal text dash || (nat_lt 0 (length text) && length text % 2 == 0 && are_digits text)

-- what a field may be
pub data Sort : Type 0 where
  word : List ℕ → Sort
  number : ℕ → Sort
  bytes : Sort

-- the sort that a letter stands for: r the word run, c the word check, h the word hex, n a number of 32 bits, w one of 64, b bytes, any other the dash
abbrev pub sort_of : ℕ → Sort
sort_of letter =
    if letter == 114 then word (ascii "run")
    else (if letter == 99 then word (ascii "check")
    else (if letter == 104 then word (ascii "hex")
    else (if letter == 110 then number 8 else (if letter == 119 then number 16 else (if letter == 98 then bytes else word dash)))))

-- a field is of a sort
abbrev pub is_of : Sort → List ℕ → Bool
is_of (word letters) text = equal text letters
is_of (number most) text = is_number most text
is_of bytes text = is_bytes text

-- fields are of the sorts that letters stand for, one a letter
unfoldable pub formed : List (List ℕ) → List ℕ → Bool
formed [] [] = true
formed [] (letter ∷ letters) = false
formed (field ∷ later) [] = false
formed (field ∷ later) (letter ∷ letters) = is_of (sort_of letter) field && formed later letters
