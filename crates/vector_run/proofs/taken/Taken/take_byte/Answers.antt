-- `vector_run::taken::Taken::take_byte` meets its contract: a newline, a byte that is held, or one without room. Assumes nothing.
use Rattle.std.proofs.Common.{refl, rules}
use Rattle.vector_run.proofs.Taking.{took_line, took_byte, took_full}
use Rattle.vector_run.proofs.taken.Taken.take_byte.Goals as goal

pub returns-then-byte-eq10 : goal.returns-then-byte-eq10
returns-then-byte-eq10 g c = took_line _ _ c.if-byte-eq10.true c.take_line-self.ensures refl

pub returns-then-self-lt1024 : goal.returns-then-self-lt1024
returns-then-self-lt1024 g c = took_byte _ _ c.if-byte-eq10.false (search rules) (search rules) refl refl refl

pub returns-else-self-lt1024 : goal.returns-else-self-lt1024
returns-else-self-lt1024 g c = took_full _ c.if-byte-eq10.false (search rules) (search rules) (search rules)
