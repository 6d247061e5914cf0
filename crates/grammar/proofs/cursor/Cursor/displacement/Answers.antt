use Rattle.std.proofs.Common.{subst}
use Rattle.grammar.specs.Fields.{Reads}
use Rattle.grammar.proofs.Endian.{number_displacement}
use Rattle.grammar.proofs.cursor.Cursor.displacement.Goals as goal

pub returns-clause-reads : goal.returns-clause-reads
returns-clause-reads c =
    subst (Reads c.number.new.self c.number.result) (number_displacement c.args.n c.args.self.now c.if-n-eq1.false) c.number.ensures.reads
