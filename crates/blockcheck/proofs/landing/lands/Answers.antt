-- `blockcheck::landing::lands` meets its contract: below the code, past the marks, or by the mark. Assumes nothing.
use Rattle.blockcheck.proofs.Seeking.{below_code, past_marks, at_mark}
use Rattle.blockcheck.proofs.landing.lands.Goals as goal

pub returns-then-address-lt-CODE : goal.returns-then-address-lt-CODE
returns-then-address-lt-CODE c starts shows = below_code starts c.args.address c.if-address-lt-CODE.true

pub returns-then-marks-at : goal.returns-then-marks-at
returns-then-marks-at c starts shows = past_marks shows c.args.address c.if-address-lt-CODE.false c.if-marks-at.true

pub returns : goal.returns
returns c starts shows = at_mark shows c.args.address c.if-address-lt-CODE.false
