-- The starts of some code, and what acceptance asks of it. Assumes nothing.
use mathlib.Core.List.{List, Memᴰ}
use Rattle.std.specs.Prelude.{ℕ}
use Rattle.grammar.specs.Grammar.{Cut}
use Rattle.blockcheck.specs.Blocks.{Sized, starts_from, Good}

-- an instruction of a cut of the code begins at this offset
pub record Start (code : List ℕ) (i : ℕ) : Type 0 where
  pub pieces : List (List ℕ)
  pub cut : Cut pieces code
  pub among : Memᴰ i (starts_from 0 pieces)

-- the code has a length that is allowed, a cut, and no displacement that goes astray
pub record Acceptable (code : List ℕ) : Type 0 where
  pub sized : Sized code
  pub pieces : List (List ℕ)
  pub cut : Cut pieces code
  pub good : Good (starts_from 0 pieces) 0 cut
