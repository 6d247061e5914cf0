use Rattle.grammar.proofs.Counts.{displacement_count}
use Rattle.grammar.proofs.cursor.Cursor.address.Goals as goal

pub displacement-requires : goal.displacement-requires
displacement-requires c = rw c.displacement_length.ensures (displacement_count c.args.modrm _)
