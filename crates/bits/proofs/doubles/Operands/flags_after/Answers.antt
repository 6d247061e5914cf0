-- `bits::doubles::Operands::flags_after` meets its contract: by what each part gives. Assumes nothing.
use Rattle.bits.specs.Doubles.{flags_after}
use Rattle.bits.proofs.doubles.Operands.flags_after.Goals as goal

pub returns : goal.returns
unfolding flags_after
returns c =
    rw (
      c.resulting.ensures,
      c.overflow_after.ensures,
      c.undefined-a.ensures,
      c.last_out-c.ensures,
      c.double_moved-r.ensures.is,
    )
