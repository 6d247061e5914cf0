-- `flags::even` meets its contract: a number an arm. Assumes nothing.
use mathlib.Core.Path.{◌≡◌}
use native.Mathlib.Omega.{arith}
use Rattle.flags.specs.Conditions.{holds, conditions, meets}
use Rattle.flags.proofs.even.Goals as goal

pub returns-in-0 : goal.returns-in-0
unfolding meets holds conditions
returns-in-0 c = rw c.in-0.is

pub returns-in-1 : goal.returns-in-1
unfolding meets holds conditions
returns-in-1 c = rw c.in-1.is

pub returns-in-2 : goal.returns-in-2
unfolding meets holds conditions
returns-in-2 c = rw c.in-2.is

pub returns-then-f : goal.returns-then-f
unfolding meets holds conditions
returns-then-f c = rw (c.in-3.is, c.if-f.true)

pub returns-else-f : goal.returns-else-f
unfolding meets holds conditions
returns-else-f c = rw (c.in-3.is, c.if-f.false)

pub returns-in-4 : goal.returns-in-4
unfolding meets holds conditions
returns-in-4 c = rw c.in-4.is

pub returns-in-5 : goal.returns-in-5
unfolding meets holds conditions
returns-in-5 c = rw c.in-5.is

pub returns-in-6 : goal.returns-in-6
unfolding meets holds conditions
returns-in-6 c = rw c.in-6.is

pub returns-then-f-2 : goal.returns-then-f-2
unfolding meets holds conditions
returns-then-f-2 c = let last : c.args.n ≡ 7 = omega arith in rw (last, c.if-f-2.true)

pub returns-else-f-2 : goal.returns-else-f-2
unfolding meets holds conditions
returns-else-f-2 c = let last : c.args.n ≡ 7 = omega arith in rw (last, c.if-f-2.false)
