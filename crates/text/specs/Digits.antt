-- Numbers in ASCII: decimal, and hexadecimal in capitals. Assumes nothing.
use Rattle.std.specs.Prelude.{List, [], ◌∷◌, ◌++◌, ℕ, zero, suc, ◌+◌, ◌-◌, ◌*◌, ◌/◌, ◌%◌, if◌then◌else◌, nat_lt}

-- the decimal digits of n, the most significant first, by at most so many divisions; 48 is `0`
unfoldable pub decimal_by : ℕ → ℕ → List ℕ
decimal_by zero n = (48 + n) ∷ []
decimal_by (suc k) n = if nat_lt n 10 then (48 + n) ∷ [] else decimal_by k (n / 10) ++ (48 + n % 10) ∷ []

-- the decimal digits of n, with no leading zeros; n divisions are enough
unfoldable pub decimal : ℕ → List ℕ
decimal n = decimal_by n n

-- a digit below 16: 48 is `0`, and 65 is `A`
unfoldable pub hex_digit : ℕ → ℕ
hex_digit d = if nat_lt d 10 then 48 + d else 55 + d

-- the last k digits of n in base 16, the most significant first
unfoldable pub hexadecimal : ℕ → ℕ → List ℕ
hexadecimal zero n = []
hexadecimal (suc k) n = hexadecimal k (n / 16) ++ hex_digit (n % 16) ∷ []

-- bytes in base 16, two digits each
unfoldable pub hex_bytes : List ℕ → List ℕ
hex_bytes [] = []
hex_bytes (b ∷ bytes) = hexadecimal 2 b ++ hex_bytes bytes

-- the number that digits in a base stand for, behind a number already read; `value` is that of a digit
unfoldable pub read_on : ℕ → (ℕ → ℕ) → ℕ → List ℕ → ℕ
read_on base value n [] = n
read_on base value n (d ∷ digits) = read_on base value (base * n + value d) digits

-- what a decimal digit stands for
abbrev pub figure : ℕ → ℕ
figure d = d - 48
