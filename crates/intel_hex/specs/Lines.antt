-- The lines of a text. Assumes nothing.
use Rattle.std.specs.Prelude.{List, [], ◌∷◌, ℕ, if◌then◌else◌, ◌==◌}

-- line feed
abbrev pub LF : ℕ
LF = 10

-- carriage return
abbrev pub CR : ℕ
CR = 13

-- a byte put before the first of some lines; it is a line where there is none
unfoldable pub before : ℕ → List (List ℕ) → List (List ℕ)
before b [] = (b ∷ []) ∷ []
before b (line ∷ later) = (b ∷ line) ∷ later

-- the lines of a text, each with the LF that ends it; bytes after the last LF are a line without one
unfoldable pub lines_of : List ℕ → List (List ℕ)
lines_of [] = []
lines_of (b ∷ text) = if b == LF then (b ∷ []) ∷ lines_of text else before b (lines_of text)
