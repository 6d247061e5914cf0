-- The rows of the table of opcodes: equal opcodes have one row, and an opcode has what the first one of its row has.
-- Assumes nothing.
use mathlib.Core.Path.{◌≡◌, refl, ap, sym, ◌∙◌}
use Prim.Native.Nat.{ℕ, ◌≤◌}
use Rattle.grammar.specs.Choice.{pick}
use Rattle.grammar.specs.Opcodes.{forms, rule_of}
use Rattle.std.proofs.lemmas.List.{get_or_past}
use Rattle.grammar.specs.declared.rows.TheConstants.{ROWS}
use Rattle.grammar.specs.declared.rule.Row.{Row}
use Rattle.grammar.specs.Rows.{rows, row_of, first_in, first_row, row_at}
use Rattle.grammar.proofs.Below.{values, everywhere}
use Rattle.grammar.proofs.Entries.{says_other, without_rule, ends, lists_past}

-- if each opcode below 512 has what the first one of its row has, and each above what one that is none has, then every opcode has what the first one of its row has
pub alike : {A : Type 0} (f : ℕ → A) → values (λ k. f (first_row (row_of k))) 0 512 ≡ values f 0 512
    → ((k : ℕ) → 512 ≤ k → f 0x1FF ≡ f k) → (k : ℕ) {r : ℕ} → r ≡ row_of k → f (first_row r) ≡ f k
unfolding rows row_of first_in first_row ends pick
alike f each past k row =
    ap (λ (x : ℕ). f (first_row x)) row
    ∙ everywhere (λ k. f (first_row (row_of k))) f 512 each
    (λ k over. ap (λ (x : ℕ). f (first_row x)) (says_other rows 255 k (lists_past rows 512 k tt over)) ∙ past k over) k

-- an opcode's rule is that of the first one of its row
pub row_rule : (k : ℕ) {r : ℕ} → r ≡ row_of k → rule_of (first_row r) ≡ rule_of k
unfolding rows row_of first_in first_row rule_of forms ends
row_rule = alike rule_of refl (λ k over. sym (without_rule k (lists_past forms 512 k tt over)))

-- past the table there is no row
pub row_past : (k : ℕ) → 512 ≤ k → row_at k ≡ Row.Unlisted
row_past k over = get_or_past ROWS k Row.Unlisted over
