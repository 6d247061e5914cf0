-- `intel_hex::judging::judge_data` meets its contract: by where the bytes lie. Assumes nothing.
use Prim.Native.Nat.{◌+◌, ◌-◌, ◌*◌}
use native.Mathlib.Nat.{pos_of_ne-zero}
use native.Mathlib.Omega.{arith}
use borrow.Author.Rules.{rules}
use Rattle.intel_hex.proofs.Judgements.{judged_empty, judged_outside, judged_clash, judged_laid}
use Rattle.intel_hex.specs.Files.{code_base}
use Rattle.intel_hex.proofs.judging.judge_data.Goals as goal

pub returns-then-line-eq0 : goal.returns-then-line-eq0
returns-then-line-eq0 c =
    judged_empty c.args.size c.args.file c.args.image.now.cells c.args.line.now.bytes.now c.requires.not_ended c.args.line.now.count c.requires.summed.0 c.requires.summed.1 c.if-line-eq0.true

pub returns-then-start-lt-CODE : goal.returns-then-start-lt-CODE
returns-then-start-lt-CODE c =
    judged_outside c.args.size c.args.file c.args.image.now.cells c.args.line.now.bytes.now c.requires.not_ended c.args.line.now.count c.requires.summed.0 c.requires.summed.1 0 (pos_of_ne-zero c.if-line-eq0.false)
    (λ w. omega (arith, w.from, c.if-start-lt-CODE.true, c.offset.ensures))

pub returns-then-end-gt-MOST : goal.returns-then-end-gt-MOST
returns-then-end-gt-MOST c =
    judged_outside c.args.size c.args.file c.args.image.now.cells c.args.line.now.bytes.now c.requires.not_ended c.args.line.now.count c.requires.summed.0 c.requires.summed.1 (c.args.line.now.count - 1) (omega (arith, pos_of_ne-zero c.if-line-eq0.false))
    (λ w. omega (arith, w.below, w.inside, c.then-end-gt-MOST.either, c.if-start-lt-CODE.false, c.offset.ensures, pos_of_ne-zero c.if-line-eq0.false))

pub returns-in_err-lay : goal.returns-in_err-lay
returns-in_err-lay c =
    let h = judged_clash c.args.size c.args.file c.args.image.now.cells c.args.line.now.bytes.now c.requires.not_ended c.args.line.now.count c.requires.summed.0 c.requires.summed.1 (c.from.result * 65536 + c.from-2.result - code_base) (omega (arith, c.from.ensures, c.from-2.ensures, c.offset.ensures, c.if-start-lt-CODE.false)) c.if-end-gt-MOST.false c.if-end-size.false
    c.in_err-lay.field-0.0 c.in_err-lay.ensures in
    search rules

pub returns : goal.returns
returns c =
    rw c.reaching.ensures
    (judged_laid c.args.size c.args.file c.args.image.now.cells c.args.line.now.bytes.now c.requires.not_ended c.args.line.now.count c.requires.summed.0 c.requires.summed.1 (c.from.result * 65536 + c.from-2.result - code_base) (omega (arith, c.from.ensures, c.from-2.ensures, c.offset.ensures, c.if-start-lt-CODE.false)) c.if-end-gt-MOST.false c.if-end-size.false
    c.lay.result c.in_ok-lay.was (pos_of_ne-zero c.if-line-eq0.false) c.lay.ensures)
