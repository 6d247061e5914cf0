-- The fields of what is left of the line have the form that the letters left stand for just if all of the line has its form. Assumes nothing.
use Rattle.std.proofs.Common.{◌≡◌, drop}
use Rattle.vector_text.specs.Fields.{fields, formed}
use Rattle.vector_text.proofs.Parts.{fields_left}
use Rattle.vector_text.proofs.fields.has_form.Given as goal

abbrev pub invariant-loop-sort : goal.invariant-loop-sort
invariant-loop-sort l = formed (fields_left l.left) (drop l.sort-index l.sorts) ≡ formed (fields l.line) l.sorts
