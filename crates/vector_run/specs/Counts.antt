-- The count of the cases. Assumes nothing.
use Rattle.std.specs.Prelude.{ℕ, ◌+◌, ◌%◌, ◌^◌, Ok, Err}
use Rattle.vector_run.specs.declared.tally.Tally.{Tally}
use Rattle.vector_run.specs.Findings.{Finding}

-- how many cases differ, of one
abbrev pub others : Finding → ℕ
others (Ok same) = 0
others (Err difference) = 1

-- with one case more, of this finding
abbrev pub counted : Tally → Finding → Tally
counted t finding = record { cases = (t.cases + 1) % 2 ^ 64; differing = (t.differing + others finding) % 2 ^ 64 }
