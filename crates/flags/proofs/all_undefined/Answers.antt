-- `flags::all_undefined` meets its contract: each flag by the one policy. Assumes nothing.
use Rattle.flags.specs.Results.{all_undefined}
use Rattle.flags.proofs.all_undefined.Goals as goal

pub returns : goal.returns
unfolding all_undefined
returns c =
    simp (
      c.undefined-6.ensures,
      c.undefined-5.ensures,
      c.undefined-4.ensures,
      c.undefined-3.ensures,
      c.undefined-2.ensures,
      c.undefined.ensures,
    )
