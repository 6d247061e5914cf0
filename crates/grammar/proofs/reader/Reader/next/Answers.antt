-- `grammar::reader::Reader::next` meets its contract, as `read` does.
use Rattle.grammar.proofs.Lefts.{decodes_left}
use Rattle.grammar.proofs.reader.Reader.next.Goals as goal

pub returns-clause-left : goal.returns-clause-left
returns-clause-left c = decodes_left c.args.self.code.now c.args.self.at c.read.ensures
