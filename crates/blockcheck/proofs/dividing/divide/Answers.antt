-- `blockcheck::dividing::divide` meets its contract: what stands before `at` is cut and marked. Assumes nothing.
use mathlib.Core.Path.{◌≡◌, ap, sym, ◌∙◌}
use native.Mathlib.Omega.{arith}
use lib.ListN.{length, length-replicate}
use borrow.Author.Rules.{rules}
use Rattle.std.proofs.lemmas.Result.{err_from_is_err_and}
use Rattle.blockcheck.proofs.Extents.{was_ok, was_fault, begins, goes, ends, fails}
use Rattle.blockcheck.proofs.Levels.{coded_long}
use Rattle.grammar.proofs.Answered.{found_standing}
use Rattle.grammar.specs.Decoding.{decode_of}
use Rattle.std.specs.Prelude.{Ok}
use Rattle.blockcheck.proofs.dividing.divide.Goals as goal

-- the instruction that decode found
found : (c : goal.After-struct_known-1)
    → decode_of c.args.code.now c.loop-at.at ≡ Ok c.in_ok-d.d
found c =
    sym c.read.ensures.is ∙ was_ok _ c.in_ok-d.d c.read.result c.in_ok-d.ensures.cases (λ fault p. p)

pub loop-at-init : goal.loop-at-init
loop-at-init c = rw c.requires (begins c.args.code.now)

pub bounds-marks-at : goal.bounds-marks-at
bounds-marks-at c =
    let l = c.loop-at in
    omega (arith, coded_long l.invariant.coded)

pub loop-at-preserved : goal.loop-at-preserved
loop-at-preserved c =
    rw c.mark_of.ensures
    (goes c.in_ok-d.d c.loop-at.invariant (found c))

pub overflow_add-at : goal.overflow_add-at
overflow_add-at c = omega (arith, (loop-at-preserved c).inside)

pub overflow_add-count : goal.overflow_add-count
overflow_add-count c = omega (arith, c.loop-at.invariant.few)

pub loop-at-smaller : goal.loop-at-smaller
loop-at-smaller c = omega (arith, (loop-at-preserved c).inside, (found_standing _ _ _ (found c)).some)

pub returns-in_err-d : goal.returns-in_err-d
returns-in_err-d c =
    let p = err_from_is_err_and c.from_residual.result c.from_residual.ensures.1 in
    rw (p.1, p.2)
    (let (fault, e, q) = was_fault _ c.in_err-d.field-0.0 c.read.result c.in_err-d.ensures.cases c.loop-at.at (λ fault p. search rules) in rw q (fails fault c.loop-at.invariant c.loop-at-test.true (sym c.read.ensures.is ∙ e)))

pub shape_of-marks : goal.shape_of-marks
shape_of-marks c = coded_long c.loop-at.invariant.coded ∙ sym (ap length c.requires ∙ length-replicate _ _)

pub returns : goal.returns
returns c = ends c.loop-at.invariant c.loop-at-test.false
