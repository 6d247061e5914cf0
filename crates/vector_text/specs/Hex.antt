-- Capital hex digits: the number and the bytes that they stand for, and an area that holds such bytes. Assumes nothing.
use Rattle.std.specs.Prelude.{Bool, true, ◌&&◌, ◌||◌, List, [], ◌∷◌, ℕ, zero, suc, ◌+◌, ◌-◌, ◌*◌, length, if◌then◌else◌, nat_le, bytes_eq}
use Rattle.text.specs.Digits.{read_on}

-- a digit from 0 to 9; 48 is `0`
abbrev pub is_figure : ℕ → Bool
is_figure b = nat_le 48 b && nat_le b 57

-- a digit from A to F; 65 is `A`
abbrev pub is_letter : ℕ → Bool
is_letter b = nat_le 65 b && nat_le b 70

-- a hex digit
abbrev pub is_digit : ℕ → Bool
is_digit b = is_figure b || is_letter b

-- what a digit stands for; 0 for any other byte
abbrev pub digit_of : ℕ → ℕ
digit_of b = if is_figure b then b - 48 else (if is_letter b then b - 55 else 0)

-- nothing but hex digits
abbrev pub are_digits : List ℕ → Bool
are_digits [] = true
are_digits (b ∷ text) = is_digit b && are_digits text

-- the number that digits stand for
unfoldable pub value_of : List ℕ → ℕ
value_of text = read_on 16 digit_of 0 text

-- the bytes that digits stand for, two digits a byte; a single byte, as the dash, stands for none
unfoldable pub bytes_of : List ℕ → List ℕ
bytes_of [] = []
bytes_of (a ∷ []) = []
bytes_of (a ∷ b ∷ text) = (16 * digit_of a + digit_of b) ∷ bytes_of text

-- the first n of some bytes, and zeros where there are fewer
unfoldable pub padded : ℕ → List ℕ → List ℕ
padded zero bytes = []
padded (suc n) [] = 0 ∷ padded n []
padded (suc n) (b ∷ bytes) = b ∷ padded n bytes

-- the same bytes
abbrev pub equal : List ℕ → List ℕ → Bool
equal = bytes_eq

-- an area holds all of some bytes, and zeros behind them
abbrev pub is_held : List ℕ → List ℕ → Bool
is_held area bytes = equal area (padded (length area) bytes) && nat_le (length bytes) (length area)
