-- The opcodes that have a displacement, by which the code tells them: for its private functions; nothing here need be believed. Assumes nothing.
use Rattle.std.specs.Prelude.{Bool, true, List, [], ◌∷◌}
use Rattle.grammar.specs.Opcodes.{Line, from, at}

-- 70-7F Jcc, E0-E3 LOOPNE LOOPE LOOP JECXZ, EB: rel8
abbrev pub rel8 : List (Line Bool)
rel8 = from 0x70 0x7F true ∷ from 0xE0 0xE3 true ∷ at 0xEB true ∷ []

-- E8, E9, 0F 80-8F: rel32
abbrev pub rel32 : List (Line Bool)
rel32 = from 0xE8 0xE9 true ∷ from 0x180 0x18F true ∷ []
