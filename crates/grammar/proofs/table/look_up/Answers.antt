-- `grammar::table::look_up` meets its contract: the rows' rules are those of the lists, one opcode after the other.
use Rattle.std.proofs.Common.{refl, sym, ap, ◌∙◌, get_or, ℕ, ◌≡◌, ◌≤◌, None}
use denote.Enum.Declared.{tag_of}
use Rattle.grammar.specs.contracts.rule.Row as R
use Rattle.grammar.specs.declared.rule.Row.{Row}
use Rattle.grammar.specs.declared.table.TheConstants.{RULES}
use Rattle.grammar.specs.Opcodes.{Entry, rule_of, forms}
use Rattle.grammar.specs.Rows.{row_at}
use Rattle.grammar.proofs.Alike.{row_past}
use Rattle.grammar.proofs.Below.{everywhere, values}
use Rattle.grammar.proofs.Entries.{without_rule, lists_past, ends}
use Rattle.grammar.proofs.table.look_up.Goals as goal

-- the entry of an opcode's row
abbrev pub looked_up : ℕ → Entry
looked_up k = get_or RULES (tag_of R.the_type (row_at k)) None

-- the table says what the lists say, one opcode after the other
all_alike : values looked_up 0 512 ≡ values rule_of 0 512
unfolding rule_of forms
all_alike = refl

-- and past them, nothing
none_past : (k : ℕ) → 512 ≤ k → looked_up k ≡ rule_of k
unfolding forms ends
none_past k over =
    ap (λ (r : Row). get_or RULES (tag_of R.the_type r) None) (row_past k over) ∙ sym (without_rule k (lists_past forms 512 k tt over))

pub returns : goal.returns
returns c = ap (λ (r : Row). get_or RULES (tag_of R.the_type r) None) c.row.ensures.at ∙ everywhere looked_up rule_of 512 all_alike none_past c.args.opcode
