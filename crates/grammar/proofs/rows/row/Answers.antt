-- `grammar::rows::row` meets its contract: the table says what the lists say, one opcode after the other.
use Rattle.std.proofs.Common.{refl, sym, ap, ◌∙◌, ◌≡◌}
use Rattle.std.proofs.lemmas.List.{get_or_past, get_or_default}
use Rattle.grammar.specs.Opcodes.{listed}
use Rattle.grammar.specs.Choice.{pick}
use Rattle.grammar.specs.Rows.{rows, row_of, row_at, number_of}
use Rattle.grammar.specs.declared.rows.TheConstants.{ROWS}
use Rattle.grammar.specs.declared.rule.Row.{Row}
use Rattle.grammar.proofs.Below.{carried, values}
use Rattle.grammar.proofs.Entries.{says_other, lists_past, ends}
use Rattle.grammar.proofs.rows.row.Goals as goal

all_alike : values (λ k. number_of (row_at k)) 0 512 ≡ values row_of 0 512
unfolding row_of rows listed pick
all_alike = refl

pub returns-then-opcode-lt512 : goal.returns-then-opcode-lt512
returns-then-opcode-lt512 c =
    let h = c.if-opcode-lt512.true in
    let same = get_or_default ROWS c.args.opcode Row.AluRmRegByte Row.Unlisted h in
    record { at = same; row = ap number_of same ∙ carried (λ k. number_of (row_at k)) row_of 512 all_alike c.args.opcode h }

pub returns-else-opcode-lt512 : goal.returns-else-opcode-lt512
unfolding row_of rows ends pick
returns-else-opcode-lt512 c = record { at = sym (get_or_past ROWS c.args.opcode Row.Unlisted c.if-opcode-lt512.false); row = sym (says_other rows 255 c.args.opcode (lists_past rows 512 c.args.opcode tt c.if-opcode-lt512.false)) }
