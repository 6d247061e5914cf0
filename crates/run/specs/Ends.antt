-- What the private functions of a run answer, in the words of `Runs`: nothing here need be believed. Assumes nothing.
use Rattle.std.specs.Prelude.{List, ℕ, Result, Ok, Err}
use Rattle.machine.specs.declared.registers.Machine.{Machine}
use Rattle.run.specs.declared.refusal.Refusal.{Refusal}
use Rattle.run.specs.declared.End.{End}
use Rattle.run.specs.Runs.{Ended, number_of, number_at, address_at}

-- the number of a refusal, 0 where there is none
abbrev pub refused_with : {A : Type 0} → Result A Refusal → ℕ
refused_with (Ok u) = 0
refused_with (Err r) = number_of r

-- what steps that leave this machine and these data end with
abbrev pub ended : ℕ → End → Machine → List ℕ → Ended
ended steps end m d = record { machine = m; area = d; steps = steps; number = number_at end; address = address_at end m.eip }
