-- The word that a cell of the image is kept as: 100h more than the byte given, and 0 where none is. For the private functions; nothing here need be believed. Assumes nothing.
use Rattle.std.specs.Prelude.{ℕ, ◌+◌, ◌%◌, if◌then◌else◌, ◌==◌, Option, None, Some}

-- the word of a cell
unfoldable pub word_of : Option ℕ → ℕ
word_of None = 0
word_of (Some b) = 0x100 + b

-- the cell of a word
unfoldable pub cell_of : ℕ → Option ℕ
cell_of word = if word == 0 then None else Some (word % 0x100)
