-- `intel_hex::judging::judge_record` meets its contract: by the sum, and then by the type. Assumes nothing.
use mathlib.Core.Path.{sym, ◌∙◌}
use native.Mathlib.Omega.{arith}
use Rattle.intel_hex.proofs.Adding.{added, not_added}
use Rattle.intel_hex.proofs.Judgements.{judged_sum, judged_type, judged_end, judged_upper}
use Rattle.intel_hex.specs.Reading.{record_in}
use Rattle.intel_hex.proofs.judging.judge_record.Goals as goal

pub returns-then-sum-ne0 : goal.returns-then-sum-ne0
returns-then-sum-ne0 c =
    judged_sum c.args.size c.args.file c.args.image.now.cells c.args.line.now.bytes.now c.requires.not_ended (record_in c.args.line.now.bytes.now c.args.line.now.count) c.requires.is_record.reads
    (not_added c.args.line.now.bytes.now c.args.line.now.count c.requires.is_record.counted (λ e. c.if-sum-ne0.true (c.sum.ensures ∙ e)))

pub judge_data-requires-clause-summed : goal.judge_data-requires-clause-summed
judge_data-requires-clause-summed c =
    (added c.args.line.now.bytes.now c.args.line.now.count c.requires.is_record.counted c.requires.is_record.reads (sym c.sum.ensures ∙ c.if-sum-ne0.false), sym c.kind.ensures ∙ c.in-0.is)

pub returns-in-1 : goal.returns-in-1
returns-in-1 c =
    rw c.judge_end.ensures
    (judged_end c.args.size c.args.file c.args.image.now.cells c.args.line.now.bytes.now c.requires.not_ended c.args.line.now.count (added c.args.line.now.bytes.now c.args.line.now.count c.requires.is_record.counted c.requires.is_record.reads (sym c.sum.ensures ∙ c.if-sum-ne0.false)) (sym c.kind.ensures ∙ c.in-1.is))

pub returns-in-4 : goal.returns-in-4
returns-in-4 c =
    rw c.judge_upper.ensures
    (judged_upper c.args.size c.args.file c.args.image.now.cells c.args.line.now.bytes.now c.requires.not_ended c.args.line.now.count (added c.args.line.now.bytes.now c.args.line.now.count c.requires.is_record.counted c.requires.is_record.reads (sym c.sum.ensures ∙ c.if-sum-ne0.false)) (sym c.kind.ensures ∙ c.in-4.is))

pub returns-in_default : goal.returns-in_default
returns-in_default c =
    let is = c.kind.ensures in
    judged_type c.args.size c.args.file c.args.image.now.cells c.args.line.now.bytes.now c.requires.not_ended c.args.line.now.count (added c.args.line.now.bytes.now c.args.line.now.count c.requires.is_record.counted c.requires.is_record.reads (sym c.sum.ensures ∙ c.if-sum-ne0.false)) (λ e. omega arith) (λ e. omega arith) (λ e. omega arith)
