-- `vector_text::fields::field` meets its contract: the part of that number. Assumes nothing.
use Rattle.std.proofs.Common.{eqb, rules, tests}
use Rattle.std.proofs.lemmas.Option.{unwrap_or-slice_get}
use Rattle.std.proofs.lemmas.Iterator.Consumers.{nth_from_yields_List}
use Rattle.std.proofs.lemmas.Iterator.Splits.{YieldsList-from_slice_split}
use Rattle.vector_text.specs.Fields.{tab, field_of}
use Rattle.vector_text.proofs.Parts.{fields_split, part_now}
use Rattle.vector_text.proofs.fields.field.Goals as goal

pub returns : goal.returns
unfolding field_of
returns c =
    let found = nth_from_yields_List c.nth.result _ c.saturating_sub.result c.nth.ensures.ran (YieldsList-from_slice_split _ (λ b. eqb b tab) c.args.line.now c.split.ensures.rest c.split.ensures.done c.split.ensures.closure (λ x r q k. search (rules, tests))) in
    rw (c.unwrap_or.ensures, part_now, found, c.saturating_sub.ensures, unwrap_or-slice_get, fields_split c.args.line.now)
