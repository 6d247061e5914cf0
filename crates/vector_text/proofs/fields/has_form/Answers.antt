-- `vector_text::fields::has_form` meets its contract: as many fields as letters, each of its letter's sort. Assumes nothing.
use Rattle.std.proofs.Common.{length, sym, ◌∙◌, ◌+◌, true, false, drop_of_length-le}
use Rattle.vector_text.proofs.Parts.{left_behind, formed_more, no_field, no_letter}
use Rattle.vector_text.proofs.fields.has_form.Goals as goal

pub returns-in_default : goal.returns-in_default
returns-in_default c = no_field c.args.sorts.now c.loop-sort.sort-index c.loop-sort-test.true ∙ (rw c.in_default.is at c.loop-sort.invariant)

pub returns-then-not-is_of : goal.returns-then-not-is_of
returns-then-not-is_of c =
    let wrong = formed_more c.in-Some.rest.now c.args.sorts.now c.loop-sort.sort-index c.field-text.result.now false c.loop-sort-test.true c.field-text.ensures (sym c.if-not-is_of.true ∙ c.is_of.ensures) in
    sym wrong ∙ (rw c.in-Some.is at c.loop-sort.invariant)

pub loop-sort-preserved : goal.loop-sort-preserved
loop-sort-preserved c =
    let right = formed_more c.in-Some.rest.now c.args.sorts.now c.loop-sort.sort-index c.field-text.result.now true c.loop-sort-test.true c.field-text.ensures (sym c.if-not-is_of.false ∙ c.is_of.ensures) in
    rw (left_behind c.in-Some.rest.now (length c.field-text.result.now + 1) c.get-left.result c.get-left.ensures.lookup.0)
    (sym right ∙ (rw c.in-Some.is at c.loop-sort.invariant))

pub returns : goal.returns
returns c =
    no_letter c.loop-sort.left c.is_none.result c.is_none.ensures
    ∙ (rw (drop_of_length-le c.args.sorts.now c.loop-sort-test.false) at c.loop-sort.invariant)
