-- The rows' meanings: each opcode means what the first one of its row does, and the lists of meanings name the same opcodes as the grammar's.
-- Assumes nothing.
use mathlib.Core.Path.{◌≡◌, refl, sym, ◌∙◌}
use mathlib.Core.Bool.{true}
use Prim.Native.Nat.{ℕ}
use Rattle.grammar.specs.Choice.{pick}
use Rattle.grammar.specs.Opcodes.{listed, lists, forms}
use Rattle.grammar.specs.Rows.{rows, row_of, first_in, first_row}
use Rattle.grammar.specs.Grammar.{Parts, Built, opcode_number}
use Rattle.grammar.proofs.Below.{values, everywhere}
use Rattle.grammar.proofs.Entries.{says_other, ruled_listed, ends, lists_past}
use Rattle.grammar.proofs.Alike.{alike}
use Rattle.sense.specs.declared.Kind.{Kind}
use Rattle.sense.specs.Senses.{alone, senses, sense_of}

-- an opcode's meaning is that of the first one of its row
pub row_sense : (k : ℕ) {r : ℕ} → r ≡ row_of k → sense_of (first_row r) ≡ sense_of k
unfolding rows row_of first_row first_in senses sense_of listed pick ends
row_sense = alike sense_of refl (λ k over. sym (says_other senses (alone Kind.Mov) k (lists_past senses 512 k tt over)))

-- the lists of meanings name the grammar's opcodes, one after the other
all_meant : values (lists senses) 0 512 ≡ values (lists forms) 0 512
unfolding lists senses forms
all_meant = refl

-- an opcode is listed with a meaning exactly if the grammar lists it
pub meant_exactly : (k : ℕ) → lists senses k ≡ lists forms k
unfolding senses forms ends
meant_exactly =
    everywhere (lists senses) (lists forms) 512 all_meant (λ k over. lists_past senses 512 k tt over ∙ sym (lists_past forms 512 k tt over))

-- so the opcode of each instruction has a meaning of its own
pub instruction_meant : {p : Parts} → Built p → lists senses (opcode_number p.opcode) ≡ true
instruction_meant {p} built = meant_exactly (opcode_number p.opcode) ∙ ruled_listed (opcode_number p.opcode) built.listed
