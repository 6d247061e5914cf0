-- What holds in the loops of `blockcheck::marks::level`.
use Rattle.std.proofs.Common.{◌≡◌, ◌++◌, map, take, drop}
use Rattle.blockcheck.specs.Passes.{level_of}
use Rattle.blockcheck.proofs.marks.level.Given as goal

-- the marks so far are levelled
abbrev pub invariant-loop-mark : goal.invariant-loop-mark
invariant-loop-mark l = l.marks ≡ map level_of (take l.mark-index l.fn.marks) ++ drop l.mark-index l.fn.marks
