-- A text in ASCII, as bytes. Assumes nothing.
use Rattle.std.specs.Prelude.{List, [], ◌∷◌, ℕ}
use Prim.Native.Char.{code}
use Prim.Native.String.{String, [] as end, ◌∷◌ as ◌before◌}

-- the codes of the characters
unfoldable pub ascii : String → List ℕ
ascii end = []
ascii (c before s) = code c ∷ ascii s
