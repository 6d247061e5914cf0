-- `vector_run::reading::take_line` meets its contract: too long, the header, or a case. Assumes nothing.
use Rattle.std.proofs.Common.{sym, ◌∙◌}
use Rattle.vector_run.specs.Lines.{the_header}
use Rattle.vector_run.proofs.Taking.{counts_long, counts_case}
use Rattle.vector_run.proofs.reading.take_line.Goals as goal

pub returns-then-line-ge1024 : goal.returns-then-line-ge1024
returns-then-line-ge1024 g c = counts_long c.if-line-ge1024.true c.counting.ensures

pub returns-then-is_header : goal.returns-then-is_header
returns-then-is_header g c = the_header c.if-line-ge1024.false (sym c.is_header.ensures ∙ c.if-is_header.true)

pub returns : goal.returns
returns g c = counts_case c.if-line-ge1024.false (sym c.is_header.ensures ∙ c.if-is_header.false) c.judge.ensures c.counting-2.ensures
