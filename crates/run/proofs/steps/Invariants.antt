-- What holds in the loop of `steps`: what is left to do gives the whole run's end. Assumes nothing.
use Rattle.std.proofs.Common.{◌≡◌, ◌-◌}
use Rattle.run.specs.Steps.{fixed_to}
use Rattle.run.specs.Runs.{run_from}
use Rattle.run.specs.Sites.{Keeps}
use Rattle.run.proofs.steps.Given as goal

abbrev pub invariant-loop-n : goal.invariant-loop-n
invariant-loop-n l =
    (run_from (fixed_to l.code l.fn.memory.constants.now) l.budget l.fn.m l.fn.memory.area.now 0 ≡ run_from (fixed_to l.code l.fn.memory.constants.now) (l.budget - l.n) l.m l.memory.area.now l.n)
    × (l.memory.constants.now ≡ l.fn.memory.constants.now)
    × (l.memory.area.ghost_name ≡ l.fn.memory.area.ghost_name)
    × Keeps l.code l.kept
