-- `vector_run::taken::Taken::rest` meets its contract: nothing, or a line. Assumes nothing.
use Rattle.std.proofs.Common.{rules, length-take}
use Rattle.vector_run.proofs.Taking.{rest_none, rest_some}
use Rattle.vector_run.proofs.taken.Taken.rest.Goals as goal

pub returns-then-self-eq0 : goal.returns-then-self-eq0
returns-then-self-eq0 g c = rest_none _ (rw c.if-self-eq0.true)

pub returns : goal.returns
returns g c = rest_some _ (λ e. c.if-self-eq0.false (search (rules, length-take))) c.take_line.ensures
