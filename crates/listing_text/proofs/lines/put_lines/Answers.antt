-- The lines still to come complete those of the code.
use mathlib.Core.Path.{◌≡◌, sym, ap, ◌∙◌}
use native.Mathlib.Omega.{arith}
use lib.ListN.{length}
use Rattle.grammar.proofs.Answered.{own_length, found_inside}
use Rattle.grammar.specs.Decoding.{decode_of}
use Rattle.std.specs.Prelude.{Ok}
use Rattle.listing_text.proofs.Completing.{none_left, none_found, goes, ends}
use Rattle.listing_text.proofs.lines.put_lines.Goals as goal

pub returns-in_default : goal.returns-in_default
returns-in_default c = ends c.loop.invariant (none_found _ _ _ _ (sym c.read.ensures.is ∙ c.in_default.is))

pub overflow_add-offset : goal.overflow_add-offset
overflow_add-offset c =
    let code = c.args.code.now in
    let offset = c.loop.offset in
    let d = c.in-Ok.instruction in
    let found : decode_of code offset ≡ Ok d = sym c.read.ensures.is ∙ c.in-Ok.is in
    let sized = ap length c.own_bytes-own.ensures ∙ own_length code offset d found in
    omega (arith, sized, found_inside code offset d found)

pub loop-preserved : goal.loop-preserved
loop-preserved c =
    let code = c.args.code.now in
    let offset = c.loop.offset in
    let d = c.in-Ok.instruction in
    let found : decode_of code offset ≡ Ok d = sym c.read.ensures.is ∙ c.in-Ok.is in
    goes d c.loop.invariant (omega arith) found (ap length c.own_bytes-own.ensures ∙ own_length code offset d found) c.put_line.ensures

pub returns : goal.returns
returns c = ends c.loop.invariant (none_left _ _ _ (omega arith))
