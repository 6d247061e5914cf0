-- `blockcheck::marks::level_of` meets its contract: by whether the mark is 0. Assumes nothing.
use mathlib.Core.Path.{◌≡◌, refl, ◌∙◌}
use Rattle.std.specs.Prelude.{Bool, true, false, if◌then◌else◌}
use mathlib.Core.Bool.{not}
use lib.Dec.{eqb}
use mir.Val.{bool_byte}
use Rattle.blockcheck.specs.Passes.{level_of}
use Rattle.blockcheck.proofs.marks.level_of.Goals as goal

-- 1 where the mark is not 0
as_number : (b : Bool) → bool_byte (not b) ≡ (if b then 0 else 1)
as_number true = refl
as_number false = refl

pub returns : goal.returns
unfolding level_of
returns c = c.from.ensures ∙ as_number (eqb c.args.mark 0)
