-- `grammar::parts::displacement_length` meets its contract, by Mod.
-- Assumes nothing.
use mathlib.Core.Path.{sym}
use mathlib.Core.List.{[], ◌∷◌}
use Prim.Native.Nat.{◌/◌}
use borrow.Author.Rules.{rules}
use Rattle.grammar.specs.Grammar.{bare_length}
use Rattle.std.proofs.lemmas.List.{get_or_past}
use Rattle.grammar.proofs.parts.displacement_length.Goals as goal

pub returns-in-0 : goal.returns-in-0
returns-in-0 c = rw c.in-0.is c.bare_length.ensures

pub returns-in-1 : goal.returns-in-1
returns-in-1 c = rw c.in-1.is

pub returns-in-2 : goal.returns-in-2
returns-in-2 c = rw c.in-2.is

pub returns-in_default : goal.returns-in_default
returns-in_default c =
    let a = c.args in
    sym (get_or_past (bare_length a.m a.sib ∷ 1 ∷ 4 ∷ []) (a.m / 64) 0 (search rules))
