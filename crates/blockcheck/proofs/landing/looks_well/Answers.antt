-- `blockcheck::landing::looks_well` meets its contract: by the mark, and by what stands here. Assumes nothing.
use mathlib.Core.Path.{sym, ◌∙◌}
use native.Mathlib.Omega.{arith}
use Rattle.blockcheck.proofs.Seeking.{other_mark, found_instruction, found_nothing}
use Rattle.grammar.proofs.Answered.{found_inside}
use Rattle.blockcheck.proofs.landing.looks_well.Goals as goal

pub returns-then-marks-at-ne2 : goal.returns-then-marks-at-ne2
returns-then-marks-at-ne2 c =
    let a = c.args in
    other_mark a.code.now a.marks.now a.at c.if-marks-at-ne2.true

pub arrives-requires : goal.arrives-requires
arrives-requires c =
    let a = c.args in
    let e = sym c.read.ensures.is ∙ c.in-Ok.is in
    omega (arith, found_inside a.code.now a.at c.in-Ok.d e)

pub returns-in-Ok : goal.returns-in-Ok
returns-in-Ok c =
    let a = c.args in
    let e = sym c.read.ensures.is ∙ c.in-Ok.is in
    found_instruction a.code.now a.marks.now a.at c.in-Ok.d e c.if-marks-at-ne2.false c.arrives.ensures

pub returns-in-Err : goal.returns-in-Err
returns-in-Err c =
    let a = c.args in
    found_nothing a.code.now a.marks.now a.at (sym c.read.ensures.is ∙ c.in-Err.is)
