-- `blockcheck::check` meets its contract: the lengths come first. Assumes nothing.
use mathlib.Core.Path.{◌≡◌, sym, ◌∙◌}
use mathlib.Core.Bool.{false}
use mathlib.Core.List.{List}
use Prim.Native.Nat.{ℕ, ◌≤◌}
use native.Mathlib.Omega.{arith}
use lib.Dec.{eqb}
use lib.ListN.{length}
use borrow.Author.Tests.{eqb-true, eqb-false}
use Rattle.blockcheck.specs.Blocks.{Sized, bad_length, bad_marks}
use Rattle.blockcheck.specs.Passes.{Concluded}
use Rattle.blockcheck.proofs.check.Goals as goal
use Rattle.blockcheck.proofs.check.Goals.{then-is_empty-via-then-is_empty, then-is_empty-via-else-is_empty+then-code-gt-MOST_BYTES}

-- code that is not empty has a length that is allowed
sized : {code : List ℕ} → false ≡ eqb (length code) 0 → length code ≤ 65536 → Sized code
sized {code} some most = record { some = omega (arith, eqb-false (length code) 0 (sym some)); most = most }

pub returns-then-is_empty : goal.returns-then-is_empty
returns-then-is_empty c =
    bad_length (λ s. elim c.then-is_empty.branch [
      | then-is_empty-via-then-is_empty w ↦ omega (arith, s.some, eqb-true _ _ (sym c.is_empty.ensures ∙ w.if-is_empty.true))
      | then-is_empty-via-else-is_empty+then-code-gt-MOST_BYTES w ↦ omega (arith, s.most, w.if-code-gt-MOST_BYTES.true)
    ])

pub returns-then-marks-code : goal.returns-then-marks-code
returns-then-marks-code c = bad_marks (sized c.if-is_empty.ensures c.if-code-gt-MOST_BYTES.false) c.if-marks-code.true

pub judge-judged-requires : goal.judge-judged-requires
judge-judged-requires c = (sized c.if-is_empty.ensures c.if-code-gt-MOST_BYTES.false, c.if-marks-code.false)

pub returns : goal.returns
unfolding Concluded
returns c = rw c.finish.ensures (c.judge-judged.ensures _ c.if-marks-code.false)
