-- `blockcheck::landing::first_astray` meets its contract: the starts before `at` are fine. Assumes nothing.
use native.Mathlib.Omega.{arith}
use Rattle.blockcheck.proofs.Seeking.{begins, as_long, goes, stops, ends}
use Rattle.blockcheck.proofs.landing.first_astray.Goals as goal

pub loop-at-init : goal.loop-at-init
loop-at-init c = begins c.requires

pub looks_well-requires : goal.looks_well-requires
looks_well-requires c = omega (arith, as_long c.loop-at.invariant)

pub returns-then-not-looks_well : goal.returns-then-not-looks_well
returns-then-not-looks_well c =
    stops c.loop-at.invariant (rw c.if-not-looks_well.true at c.looks_well.ensures)

pub loop-at-preserved : goal.loop-at-preserved
loop-at-preserved c =
    goes c.loop-at.invariant (omega arith) (rw c.if-not-looks_well.false at c.looks_well.ensures)

pub returns : goal.returns
returns c = ends c.loop-at.invariant (omega arith)
