-- `sense::table::sense` meets its contract: the rows' meanings are those of the lists, one opcode after the other.
use Rattle.std.proofs.Common.{refl, sym, ap, ◌∙◌, get_or, ℕ, ◌≡◌, ◌≤◌}
use denote.Enum.Declared.{tag_of}
use Rattle.grammar.specs.contracts.rule.Row as R
use Rattle.grammar.specs.declared.rule.Row.{Row}
use Rattle.grammar.specs.Choice.{pick}
use Rattle.grammar.specs.Opcodes.{listed}
use Rattle.grammar.specs.Rows.{row_at}
use Rattle.grammar.proofs.Alike.{row_past}
use Rattle.grammar.proofs.Below.{everywhere, values}
use Rattle.grammar.proofs.Entries.{says_other, lists_past, ends}
use Rattle.sense.specs.declared.table.TheConstants.{SENSES}
use Rattle.sense.specs.declared.Kind.{Kind}
use Rattle.sense.specs.declared.Sense.{Sense}
use Rattle.sense.specs.Senses.{alone, senses, sense_of}
use Rattle.sense.proofs.table.sense.Goals as goal

-- the meaning of an opcode's row
abbrev pub looked_up : ℕ → Sense
looked_up k = get_or SENSES (tag_of R.the_type (row_at k)) (alone Kind.Alu)

-- the table says what the lists say, one opcode after the other
all_alike : values looked_up 0 512 ≡ values sense_of 0 512
unfolding sense_of senses listed pick
all_alike = refl

-- and past them, nothing
none_past : (k : ℕ) → 512 ≤ k → looked_up k ≡ sense_of k
unfolding sense_of senses ends
none_past k over =
    ap (λ (r : Row). get_or SENSES (tag_of R.the_type r) (alone Kind.Alu)) (row_past k over)
    ∙ sym (says_other senses (alone Kind.Mov) k (lists_past senses 512 k tt over))

pub returns : goal.returns
returns c = ap (λ (r : Row). get_or SENSES (tag_of R.the_type r) (alone Kind.Alu)) c.row.ensures.at ∙ everywhere looked_up sense_of 512 all_alike none_past c.args.opcode
