-- `grammar::reader::read` meets its contract: what a cursor returns is what decode gives.
use Rattle.std.proofs.Common.{arith}
use Rattle.grammar.proofs.Lefts.{read_is}
use Rattle.grammar.proofs.reader.read.Goals as goal

pub returns : goal.returns
returns c = read_is c.args.code.now c.args.at (λ i. omega (arith, c.type_inv.code i)) c.new.ensures c.instruction.new.self _ c.instruction.ensures
