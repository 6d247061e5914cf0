use Rattle.grammar.proofs.Counts.{immediate_count}
use Rattle.grammar.proofs.cursor.Cursor.instruction.Goals as goal

pub number-requires : goal.number-requires
number-requires c = rw c.immediate_length.ensures (immediate_count _ _ _)
