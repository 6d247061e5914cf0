-- What is read, and the line that tells it.
use native.Mathlib.Omega.{arith}
use Rattle.intel_hex.proofs.Outcomes.{refusal_numbers}
use Rattle.text.specs.Ascii.{ascii}
use Rattle.unhex_text.proofs.Telling.{told_code, told_refused}
use Rattle.unhex_text.specs.Unhexing.{too_long_line, too_long}
use Rattle.unhex_text.proofs.tell.Goals as goal

pub returns-then-text-gt1048576 : goal.returns-then-text-gt1048576
unfolding too_long_line ascii
returns-then-text-gt1048576 c = record { line = _; told = too_long c.if-text-gt1048576.true; adds = c.bytes.ensures }

pub returns-in-Ok : goal.returns-in-Ok
returns-in-Ok c = record { line = _; told = told_code c.if-text-gt1048576.false (rw c.in-Ok.is at c.read.ensures); adds = c.put_code.ensures }

pub returns-in-Err : goal.returns-in-Err
returns-in-Err c =
    record {
      line = _;
      told =
          told_refused c.if-text-gt1048576.false (omega (arith, c.number-number.ensures, refusal_numbers c.in-Err.refused.fault))
          (rw (c.in-Err.is, ← c.number-number.ensures) at c.read.ensures);
      adds = c.refusal.ensures;
    }
