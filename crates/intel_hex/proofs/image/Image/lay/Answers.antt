-- `intel_hex::image::Image::lay` meets its contract: the data bytes before `k` are laid. Assumes nothing.
use mathlib.Core.Path.{ap, sym, ◌∙◌}
use mathlib.Core.Bool.{false≢true}
use Prim.Native.Nat.{◌+◌}
use native.Mathlib.Omega.{arith}
use Rattle.std.proofs.lemmas.List.{get_or_default}
use Rattle.std.specs.Prelude.{None, is_some}
use Rattle.intel_hex.proofs.Picture.{none_is, laying_none, laying_more, laying_clash, laying_all}
use Rattle.intel_hex.proofs.image.Image.lay.Goals as goal

pub loop-k-init : goal.loop-k-init
loop-k-init c = λ bytes shows. laying_none c.args.line.now.bytes.now c.args.from shows

pub returns-then-is_given : goal.returns-then-is_given
returns-then-is_given c =
    λ bytes shows.
    let so = c.loop-k.invariant bytes shows in
    let read = get_or_default c.loop-k.self.cells (c.args.from + c.loop-k.k) c.index-self-from.result None (omega (arith, c.requires, c.loop-k-test.true, so.shows.long)) in
    laying_clash so c.args.line.now.count c.loop-k-test.true (λ e. false≢true (sym (ap is_some (read ∙ e)) ∙ sym c.is_given.ensures ∙ c.if-is_given.true))

pub loop-k-preserved : goal.loop-k-preserved
loop-k-preserved c =
    λ bytes shows.
    let so = c.loop-k.invariant bytes shows in
    let read = get_or_default c.loop-k.self.cells (c.args.from + c.loop-k.k) c.index-self-from.result None (omega (arith, c.requires, c.loop-k-test.true, so.shows.long)) in
    rw (c.given.ensures, c.data-byte.ensures)
    (laying_more so (omega (arith, c.requires, c.loop-k-test.true)) (sym read ∙ none_is _ (sym c.is_given.ensures ∙ c.if-is_given.false)))

pub returns : goal.returns
returns c = λ bytes shows. laying_all (c.loop-k.invariant bytes shows) c.args.line.now.count (omega (arith, c.loop-k.auto.k-end, c.loop-k-test.false))
