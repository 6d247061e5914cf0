-- `Integer::low` meets its contract: 2 ^ 33 makes the difference a natural with the same rest. Assumes nothing.
use mathlib.Core.Path.{◌∙◌}
use native.Mathlib.Omega.{arith}
use Rattle.width.proofs.Widths.{lifted}
use Rattle.arith.proofs.integers.Integer.low.Goals as goal

pub returns : goal.returns
returns c =
    record {
      is = c.low.ensures.is ∙ lifted _ _ _ (omega (arith, c.requires));
      below = c.low.ensures.below;
    }
