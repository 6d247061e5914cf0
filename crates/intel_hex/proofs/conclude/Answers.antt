-- `intel_hex::conclude` meets its contract: no end record, no data byte, or the code. Assumes nothing.
use borrow.Author.Tests.{not-true, not-false}
use Rattle.intel_hex.proofs.Concluding.{concluded_open, concluded_empty, concluded_code, copied_into}
use Rattle.intel_hex.proofs.conclude.Goals as goal

pub returns-then-not-file : goal.returns-then-not-file
returns-then-not-file c = concluded_open c.args.file c.args.image.now.cells c.args.code.now (not-true _ c.if-not-file.true)

pub returns-then-file-eq0 : goal.returns-then-file-eq0
returns-then-file-eq0 c = concluded_empty c.args.file c.args.image.now.cells c.args.code.now (not-false _ c.if-not-file.false) c.if-file-eq0.true

pub returns : goal.returns
returns c = concluded_code c.args.file c.args.image.now.cells c.args.code.now (not-false _ c.if-not-file.false) c.if-file-eq0.false (copied_into _ c.requires.1 c.copy_to.ensures)
