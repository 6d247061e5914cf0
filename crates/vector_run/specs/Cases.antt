-- What a case's line says: its kind, the state, code or text, constants and area that it is called with, and the budget. Assumes nothing.
use Rattle.std.specs.Prelude.{ℕ, zero, suc, ◌+◌, ◌%◌, ◌^◌, Bool, ◌&&◌, List, [], ◌∷◌, ◌++◌, length, nat_le}
use Rattle.text.specs.Ascii.{ascii}
use Rattle.vector_text.specs.Hex.{value_of, bytes_of, padded}
use Rattle.vector_text.specs.Fields.{fields, field_of, formed}

-- the number in a field
unfoldable pub number_of : List ℕ → ℕ → ℕ
number_of line k = value_of (field_of line k) % 2 ^ 64

-- so many words, from a field on
unfoldable pub words_from : ℕ → ℕ → List ℕ → List ℕ
words_from zero k line = []
words_from (suc n) k line = value_of (field_of line k) % 2 ^ 32 ∷ words_from n (suc k) line

-- the state that a run is called with: the machine, in fields 2 to 11 and its singles in fields 34 to 41, and two words for steps and address
unfoldable pub state_before : List ℕ → List ℕ
state_before line = words_from 10 2 line ++ (words_from 8 34 line ++ (0 ∷ 0 ∷ []))

-- some bytes more than code, constants, data or marks may have
abbrev pub most : ℕ
most = 65540

-- the size in field k is at most that, and the bytes in the next field fit it
unfoldable pub area_fits : List ℕ → ℕ → Bool
area_fits line k = nat_le (number_of line k) most && nat_le (length (bytes_of (field_of line (k + 1)))) (number_of line k)

-- so many of the bytes in field k, and zeros behind them
unfoldable pub pad_to : List ℕ → ℕ → ℕ → List ℕ
pad_to line k size = padded size (bytes_of (field_of line k))

-- the code, or a hex file's text, of the size in field 13
unfoldable pub code_of : List ℕ → List ℕ
code_of line = pad_to line 14 (number_of line 13)

-- the data, the marks, or a hex file's code area, of the size in field 15
unfoldable pub area_of : List ℕ → List ℕ
area_of line = pad_to line 16 (number_of line 15)

-- a run's constants, of the size in field 32
unfoldable pub constants_of : List ℕ → List ℕ
constants_of line = pad_to line 33 (number_of line 32)

-- the form of a run's line
unfoldable pub is_run : List ℕ → Bool
is_run line = formed (fields line) (ascii "rnnnnnnnnnnwnbnbnwnnnnnnnnnnnnbnbnnnnnnnnnnnnnnnn")

-- the form of a check's line
unfoldable pub is_check : List ℕ → Bool
is_check line = formed (fields line) (ascii "c-----------nbnbn-n-----------b------------------")

-- the form of a hex file's line
unfoldable pub is_hex : List ℕ → Bool
is_hex line = formed (fields line) (ascii "h-----------nbnbn-n-----------b------------------")
