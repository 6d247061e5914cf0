-- `Size::sign_extended` meets its contract: the rank, lifted by 2 ^ 33, has the extension for its rest. Assumes nothing.
use Rattle.std.proofs.Common.{◌∙◌}
use Rattle.width.proofs.Widths.{extended}
use Rattle.width.proofs.Size.sign_extended.Goals as goal

pub returns : goal.returns
returns c =
    record {
      is = c.low.ensures.is ∙ rw (c.from.ensures, c.half.ensures) (extended _ _ _ _ c.rank.ensures);
      below = c.low.ensures.below;
    }
