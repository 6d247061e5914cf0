-- Fields of a line, parted by tabs, and the line of a refusal. Assumes nothing.
use Rattle.std.specs.Prelude.{List, [], ◌∷◌, ◌++◌, ℕ}
use Rattle.text.specs.Ascii.{ascii}
use Rattle.text.specs.Digits.{decimal}

-- what parts the fields of a line
abbrev pub tab : ℕ
tab = 9

-- what ends a line
abbrev pub newline : ℕ
newline = 10

-- a number in decimal, and the byte after it
unfoldable pub field : ℕ → ℕ → List ℕ
field n end = decimal n ++ end ∷ []

-- how the line of a refusal begins
unfoldable pub refused_word : List ℕ
refused_word = ascii "refused\t"

-- the line of a refusal: the number, and the place that goes with it
unfoldable pub refusal : ℕ → ℕ → List ℕ
refusal number place = refused_word ++ field number tab ++ field place newline
