-- `intel_hex::line::pairs` meets its contract: those counted and those still to come are all. Assumes nothing.
use mathlib.Core.Path.{◌≡◌, sym, ◌∙◌}
use mathlib.Core.List.{List}
use Prim.Native.Nat.{ℕ, suc, ◌+◌, ◌-◌, ◌≤◌}
use native.Mathlib.Omega.{arith}
use lib.ListN.{length, take, drop, length-drop}
use Rattle.std.proofs.lemmas.List.{take_rest}
use Rattle.intel_hex.specs.Reading.{pairs_in}
use Rattle.intel_hex.proofs.Places.{pairs_few, pairs_go, pairs_stop}
use Rattle.intel_hex.proofs.line.pairs.Goals as goal

-- a pair more is counted
counted : (text left : List ℕ) (n : ℕ) → 2 ≤ length left → n + length left ≤ length text → n + pairs_in left ≡ pairs_in text
    → pairs_in left ≡ suc (pairs_in (drop 2 left))
    → (n + 1 + length (take (length left - 2) (drop 2 left)) ≤ length text) × (n + 1 + pairs_in (take (length left - 2) (drop 2 left)) ≡ pairs_in text)
counted text left n long few all more = rw (take_rest left 2) (omega (arith, length-drop 2 left), omega arith)

pub returns-then-not-is_pair : goal.returns-then-not-is_pair
returns-then-not-is_pair c =
    let loop = c.loop-left in
    omega (arith, loop.invariant.1, pairs_stop loop.left.now c.in-len2-up.len_at_least (sym c.is_pair.ensures ∙ c.if-not-is_pair.true))

pub loop-left-preserved : goal.loop-left-preserved
loop-left-preserved c =
    let loop = c.loop-left in
    counted c.args.text.now loop.left.now loop.n c.in-len2-up.len_at_least loop.invariant.0 loop.invariant.1
    (pairs_go loop.left.now c.in-len2-up.len_at_least (sym c.is_pair.ensures ∙ c.if-not-is_pair.false))

pub returns : goal.returns
returns c =
    let loop = c.loop-left in
    omega (arith, loop.invariant.1, pairs_few loop.left.now c.in_default.len_below)
