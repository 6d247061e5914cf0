-- `intel_hex::line::Line::read` meets its contract: a line that fails a test shows no record, and one that passes all is one. Assumes nothing.
use mathlib.Core.Path.{◌≡◌, refl, sym, ◌∙◌}
use mathlib.Core.Bool.{false≢true, true}
use Prim.Native.Nat.{◌+◌, ◌*◌, ◌<◌, ◌≤◌}
use native.Mathlib.Nat.{pos_of_ne-zero}
use native.Mathlib.Omega.{arith}
use borrow.Author.Rules.{rules}
use borrow.Author.Tests.{eqb-true, eqb-false}
use lib.ListN.{length, drop}
use Rattle.std.proofs.lemmas.List.{take_rest}
use Rattle.intel_hex.proofs.Forms.{reads_shown, reads_end, shows_reads}
use Rattle.intel_hex.proofs.Places.{pairs_long}
use Rattle.intel_hex.specs.Reading.{pairs_in, is_end}
use Rattle.intel_hex.proofs.line.Line.read.Goals.{then-is_empty-via-then-is_empty, then-is_empty-via-else-is_empty+then-bytes-ne58, then-n-count-via-then-n-count, then-n-count-via-else-n-count+then-not-is_end}
use Rattle.intel_hex.proofs.line.Line.read.Goals as goal

pub returns-then-is_empty : goal.returns-then-is_empty
returns-then-is_empty c =
    elim c.then-is_empty.branch [
      | then-is_empty-via-then-is_empty w ↦
          (λ r is. let s = reads_shown is in let none = eqb-true _ _ (sym c.is_empty.ensures ∙ w.if-is_empty.true) in omega (arith, s.some, none))
      | then-is_empty-via-else-is_empty+then-bytes-ne58 w ↦ (λ r is. w.if-bytes-ne58.true (reads_shown is).first)
    ]

pub returns-then-n-lt5 : goal.returns-then-n-lt5
returns-then-n-lt5 c =
    let counted : c.pairs-n.result ≡ pairs_in (drop 1 c.args.bytes.now) = rw (take_rest c.args.bytes.now 1) at c.pairs-n.ensures in
    (λ r is. let s = reads_shown is in omega (arith, s.pairs, counted, c.if-n-lt5.true))

pub byte_at-requires : goal.byte_at-requires
byte_at-requires c =
    let counted : c.pairs-n.result ≡ pairs_in (drop 1 c.args.bytes.now) = rw (take_rest c.args.bytes.now 1) at c.pairs-n.ensures in
    let long = pairs_long c.args.bytes.now c.pairs-n.result counted (omega (arith, c.if-n-lt5.false)) in
    omega (arith, long, c.if-n-lt5.false)

pub slice_bounds-is_end-count : goal.slice_bounds-is_end-count
slice_bounds-is_end-count c =
    let counted : c.pairs-n.result ≡ pairs_in (drop 1 c.args.bytes.now) = rw (take_rest c.args.bytes.now 1) at c.pairs-n.ensures in
    pairs_long c.args.bytes.now c.pairs-n.result counted (omega (arith, c.if-n-lt5.false))

pub slice_bounds-is_end-start : goal.slice_bounds-is_end-start
slice_bounds-is_end-start c =
    let counted : c.pairs-n.result ≡ pairs_in (drop 1 c.args.bytes.now) = rw (take_rest c.args.bytes.now 1) at c.pairs-n.ensures in
    let long : 1 + 2 * c.pairs-n.result ≤ length c.args.bytes.now = pairs_long c.args.bytes.now c.pairs-n.result counted (omega (arith, c.if-n-lt5.false)) in
    search rules

pub returns-then-n-count : goal.returns-then-n-count
returns-then-n-count c =
    let counted : c.pairs-n.result ≡ pairs_in (drop 1 c.args.bytes.now) = rw (take_rest c.args.bytes.now 1) at c.pairs-n.ensures in
    elim c.then-n-count.branch [
      | then-n-count-via-then-n-count w ↦
          (λ r is. let s = reads_shown is in w.if-n-count.true (omega (arith, s.pairs, s.count, counted, c.from-count.ensures, c.byte_at.ensures)))
      | then-n-count-via-else-n-count+then-not-is_end w ↦
          (λ r is.
          false≢true (sym (sym (rw (take_rest c.args.bytes.now (1 + 2 * c.pairs-n.result)) at w.is_end.ensures) ∙ w.if-not-is_end.true) ∙ reads_end c.pairs-n.result is counted))
    ]

pub invariant_of-result : goal.invariant_of-result
invariant_of-result c =
    let counted : c.pairs-n.result ≡ pairs_in (drop 1 c.args.bytes.now) = rw (take_rest c.args.bytes.now 1) at c.pairs-n.ensures in
    let long : 1 + 2 * c.pairs-n.result ≤ length c.args.bytes.now = pairs_long c.args.bytes.now c.pairs-n.result counted (omega (arith, c.if-n-lt5.false)) in
    record { long = omega (arith, long, c.if-n-count.false) }

pub returns : goal.returns
returns c =
    let counted : c.pairs-n.result ≡ pairs_in (drop 1 c.args.bytes.now) = rw (take_rest c.args.bytes.now 1) at c.pairs-n.ensures in
    let some : 0 < length c.args.bytes.now = pos_of_ne-zero (eqb-false _ _ (sym c.is_empty.ensures ∙ c.if-is_empty.false)) in
    let ended : is_end (drop (1 + 2 * c.pairs-n.result) c.args.bytes.now) ≡ true =
    sym (rw (take_rest c.args.bytes.now (1 + 2 * c.pairs-n.result)) at c.is_end.ensures) ∙ c.if-not-is_end.false in
    let is = c.from-count.ensures ∙ c.byte_at.ensures in
    (refl, record { counted = is; reads = shows_reads c.args.bytes.now c.pairs-n.result c.from-count.result some c.if-bytes-ne58.false counted is c.if-n-count.false ended })
