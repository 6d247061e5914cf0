-- `intel_hex::read` meets its contract: a faulty line refuses the text, and without one it is concluded. Assumes nothing.
use borrow.Author.Rules.{rules}
use Rattle.intel_hex.proofs.Concluding.{found_concluded, found_refused}
use Rattle.intel_hex.proofs.read.Goals as goal

pub returns-in_err-file : goal.returns-in_err-file
returns-in_err-file c = let h = found_refused (rw c.in_err-file.was at c.judge.ensures) in search rules

pub returns : goal.returns
returns c = found_concluded c.conclude.result (rw c.in_ok-file.was at c.judge.ensures) c.conclude.ensures
