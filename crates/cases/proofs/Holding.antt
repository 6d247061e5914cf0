-- All of the table of document 01's cases holds of the written rules. Assumes nothing.
use mathlib.Core.Path.{refl}
use mathlib.Core.List.{List, [], ◌∷◌, ◌++◌, map}
use lib.Count.{ones}
use Rattle.width.specs.LittleEndian as LittleEndian
use Rattle.width.specs.Sizes as Sizes
use Rattle.width.specs.Numbers as Numbers
use Rattle.flags.specs.Results as Results
use Rattle.flags.specs.Word as Word
use Rattle.arith.specs.Sums as Sums
use Rattle.arith.specs.Binary as Binary
use Rattle.arith.specs.Single as Single
use Rattle.shift.specs.Values as Values
use Rattle.shift.specs.Changes as Changes
use Rattle.product.specs.Divide as Divide
use Rattle.machine.specs.Registers as Registers
use Rattle.machine.specs.Memory as Memory
use Rattle.grammar.specs.Opcodes as Opcodes
use Rattle.grammar.specs.Grammar as Grammar
use Rattle.grammar.specs.Answers as Answers
use Rattle.grammar.specs.Reading as Reading
use Rattle.grammar.specs.Decoding as Decoding
use Rattle.grammar.specs.Cases as Bytes
use Rattle.grammar.proofs.Cases.{case13_holds}
use Rattle.sense.specs.Operations as Operations
use Rattle.sense.specs.Senses as Senses
use Rattle.plan.specs.Addresses as Addresses
use Rattle.plan.specs.Plans as Plans
use Rattle.effect.specs.Words as Words
use Rattle.effect.specs.Arithmetic as Arithmetic
use Rattle.effect.specs.Moves as Moves
use Rattle.effect.specs.Branches as Branches
use Rattle.effect.specs.Strings as Strings
use Rattle.effect.specs.All as Effects
use Rattle.blockcheck.specs.Blocks.{code_base}
use Rattle.blockcheck.specs.Cases as Blocks
use Rattle.blockcheck.proofs.Cases.{case_14_holds}
use Rattle.run.specs.Steps as Steps
use Rattle.run.specs.Runs as Runs
use Rattle.cases.specs.Lines.{Gives, Case, bytes, block, Holds, All}
use Rattle.cases.specs.Table.{cases_1_to_12, table}
use Rattle.cases.proofs.Keeping.{keeps_machine}

-- the cases of a run: all but the one for any machine compute
runs_hold : All cases_1_to_12
unfolding All Holds Gives cases_1_to_12 ones code_base
    LittleEndian.little_endian LittleEndian.bytes_of
    Sizes.bits Sizes.modulus Sizes.half Sizes.bytes
    Numbers.bit Numbers.bit_at Numbers.residue Numbers.rest Numbers.beyond Numbers.meaning Numbers.signed Numbers.outside Numbers.negative
    Results.undefined_flag Results.all_undefined Results.parity Results.resulting
    Word.word_of Word.flags_of Word.passes
    Sums.value_of Sums.carries Sums.adjusts Sums.overflows Sums.flags_of
    Binary.sum_flags Binary.binary_value Binary.binary_flags
    Single.single_value Single.single_flags
    Values.masked Values.turned_right Values.turned_left Values.with_carry Values.through_left Values.shifted Values.shift_value
    Changes.carry_after Changes.overflow_once Changes.overflow_after Changes.rotate_flags Changes.changed Changes.flags_after Changes.shift_flags
    Divide.joined Divide.divided Divide.divided_unsigned Divide.divided_signed Divide.unsigned_division Divide.signed_division
    Registers.register Registers.with_register Registers.with_eip Registers.with_flags Registers.holder Registers.lowest Registers.bits_from Registers.part Registers.replaced Registers.with_part
    Memory.data_base Memory.constants_base Memory.holds Memory.first_outside Memory.first_unread Memory.part_of Memory.read_of Memory.numbered Memory.load_of Memory.stored_of Memory.store_of
    Opcodes.rule_of
    Grammar.sib_length Grammar.bare_length
    Answers.displaced
    Reading.run Reading.bytes_then
    Decoding.tail_tree Decoding.address_tree Decoding.modrm_tree Decoding.operand_tree Decoding.accepts Decoding.entry_tree Decoding.opcode_tree Decoding.first_tree Decoding.tree Decoding.answer Decoding.found Decoding.decode_of Decoding.repeat_tree
    Operations.binary_at Operations.shift_at Operations.product_at Operations.operation_of
    Senses.senses Senses.sense_of
    Addresses.scaled_index Addresses.base_register Addresses.address_base Addresses.effective_address
    Plans.size_of Plans.operand_of Plans.is_offset Plans.address_in Plans.next_of Plans.plan_for Plans.plan_of
    Words.becomes Words.faults Words.onward Words.value Words.assign Words.read_or Words.read_of Words.writes
    Arithmetic.arithmetic_address Arithmetic.arithmetic_reads Arithmetic.assigns Arithmetic.settled Arithmetic.binary Arithmetic.single Arithmetic.shift Arithmetic.upper Arithmetic.doubled Arithmetic.quotient Arithmetic.divided Arithmetic.divided_signed Arithmetic.arithmetic_effect
    Moves.move_reads Moves.move_effect
    Branches.counted
    Strings.passed Strings.round Strings.round_reads Strings.compares Strings.over Strings.repeated Strings.with_machine Strings.idle Strings.string_reads Strings.rounded Strings.string_effect
    Effects.address_by Effects.reads_by Effects.effect_by
    Steps.home Steps.inside Steps.committed Steps.finished Steps.performed Steps.operand_address Steps.planned Steps.executed Steps.step_of Steps.stored Steps.loaded
    Runs.on_moved Runs.run_from Runs.refusal Runs.opened Runs.closed Runs.taken Runs.run_of
runs_hold = (refl, (refl, (refl, (refl, (refl, (refl, (refl, (keeps_machine, (refl, (refl, (refl, (refl, (refl, (refl, (refl, (refl, tt))))))))))))))))

-- two tables that hold are one that holds
pub both : (cases more : List Case) → All cases → All more → All (cases ++ more)
unfolding All
both [] more h k = k
both (c ∷ cases) more h k = (h.0, both cases more h.1 k)

-- what the grammar's table says of bytes, line by line
pub bytes_hold : (cases : List Bytes.BytesCase) → Bytes.All cases → All (map bytes cases)
unfolding All Holds Bytes.All
bytes_hold [] h = tt
bytes_hold (c ∷ cases) h = (h.0, bytes_hold cases h.1)

-- what the block check's table says of blocks, line by line
blocks_hold : (cases : List Blocks.BlockCase) → Blocks.All cases → All (map block cases)
unfolding All Holds Blocks.All
blocks_hold [] h = tt
blocks_hold (c ∷ cases) h = (h.0, blocks_hold cases h.1)

-- all of the table holds
pub all_hold : All table
unfolding table
all_hold =
    both (cases_1_to_12 ++ map bytes Bytes.case13) (map block Blocks.case_14)
    (both cases_1_to_12 (map bytes Bytes.case13) runs_hold (bytes_hold Bytes.case13 case13_holds))
    (blocks_hold Blocks.case_14 case_14_holds)
