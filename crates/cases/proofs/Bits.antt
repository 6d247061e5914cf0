-- All of the table of M-100's cases holds of the written rules. Assumes nothing.
use mathlib.Core.Path.{refl}
use mathlib.Core.List.{◌++◌, map}
use lib.Count.{ones, count_leading_zeros, count_trailing_zeros}
use Rattle.width.specs.LittleEndian as LittleEndian
use Rattle.width.specs.Sizes as Sizes
use Rattle.width.specs.Numbers as Numbers
use Rattle.flags.specs.Conditions as Conditions
use Rattle.flags.specs.Results as Results
use Rattle.flags.specs.Word as Word
use Rattle.shift.specs.Values as Values
use Rattle.bits.specs.Tests as Tests
use Rattle.bits.specs.Scans as Scans
use Rattle.bits.specs.Doubles as Doubles
use Rattle.machine.specs.Registers as Registers
use Rattle.machine.specs.Memory as Memory
use Rattle.grammar.specs.Opcodes as Opcodes
use Rattle.grammar.specs.Grammar as Grammar
use Rattle.grammar.specs.Answers as Answers
use Rattle.grammar.specs.Reading as Reading
use Rattle.grammar.specs.Decoding as Decoding
use Rattle.grammar.specs.Cases.{cases_m_100}
use Rattle.grammar.proofs.Cases.{cases_m_100_hold}
use Rattle.sense.specs.Operations as Operations
use Rattle.sense.specs.Senses as Senses
use Rattle.plan.specs.Addresses as Addresses
use Rattle.plan.specs.Plans as Plans
use Rattle.effect.specs.Words as Words
use Rattle.effect.specs.Arithmetic as Arithmetic
use Rattle.effect.specs.Bits as Bits
use Rattle.effect.specs.Moves as Moves
use Rattle.effect.specs.All as Effects
use Rattle.blockcheck.specs.Blocks.{code_base}
use Rattle.run.specs.Steps as Steps
use Rattle.run.specs.Runs as Runs
use Rattle.cases.specs.Lines.{Gives, bytes, Holds, All}
use Rattle.cases.specs.Bits.{bit_tests, bit_scans, double_shifts, conditional_moves, bits_table}
use Rattle.cases.proofs.Holding.{both, bytes_hold}

-- the cases of a run compute
runs_hold : All (bit_tests ++ bit_scans ++ double_shifts ++ conditional_moves)
unfolding All Holds Gives bit_tests bit_scans double_shifts conditional_moves ones count_leading_zeros count_trailing_zeros code_base
    LittleEndian.little_endian LittleEndian.bytes_of
    Sizes.bits Sizes.modulus Sizes.half Sizes.bytes
    Numbers.bit Numbers.bit_at Numbers.residue Numbers.rest Numbers.meaning Numbers.signed Numbers.negative
    Conditions.holds Conditions.conditions Conditions.meets
    Results.undefined_flag Results.all_undefined Results.parity Results.resulting
    Word.word_of Word.flags_of Word.passes
    Values.masked
    Tests.selected Tests.with_bit Tests.bit_after Tests.test_value Tests.test_flags Tests.unit_address
    Scans.scan_value Scans.scan_flags
    Doubles.double_moved Doubles.last_out Doubles.overflow_after Doubles.flags_after Doubles.double_value Doubles.double_flags
    Registers.register Registers.with_register Registers.with_eip Registers.with_flags Registers.holder Registers.lowest Registers.bits_from Registers.part Registers.replaced Registers.with_part
    Memory.data_base Memory.constants_base Memory.holds Memory.first_outside Memory.first_unread Memory.part_of Memory.read_of Memory.numbered Memory.load_of Memory.stored_of Memory.store_of
    Opcodes.rule_of
    Grammar.sib_length Grammar.bare_length
    Answers.displaced
    Reading.run Reading.bytes_then
    Decoding.tail_tree Decoding.address_tree Decoding.modrm_tree Decoding.operand_tree Decoding.accepts Decoding.entry_tree Decoding.opcode_tree Decoding.escapes Decoding.escape_tree Decoding.first_tree Decoding.size_tree Decoding.tree Decoding.answer Decoding.found Decoding.decode_of
    Operations.bit_test_at Operations.operation_of
    Senses.senses Senses.sense_of
    Addresses.base_register Addresses.address_base Addresses.effective_address
    Plans.size_of Plans.operand_of Plans.is_offset Plans.address_in Plans.next_of Plans.plan_for Plans.plan_of
    Words.becomes Words.onward Words.value Words.assign Words.read_or Words.read_of Words.writes
    Arithmetic.arithmetic_address Arithmetic.arithmetic_reads Arithmetic.settled Arithmetic.arithmetic_effect
    Bits.unit_of Bits.changes Bits.bit_tested Bits.scanned Bits.double_shifted Bits.bits_computed
    Moves.move_reads Moves.chosen Moves.move_effect
    Effects.address_by Effects.reads_by Effects.effect_by
    Steps.home Steps.inside Steps.committed Steps.finished Steps.performed Steps.operand_address Steps.planned Steps.executed Steps.step_of Steps.stored Steps.loaded
    Runs.on_moved Runs.run_from Runs.refusal Runs.opened Runs.closed Runs.taken Runs.run_of
runs_hold = (refl, (refl, (refl, (refl, (refl, (refl, (refl, (refl, (refl, (refl, (refl, (refl, (refl, (refl, (refl, (refl, (refl, (refl, (refl, (refl, (refl, (refl, (refl, (refl, (refl, (refl, (refl, (refl, (refl, (refl, (refl, (refl, (refl, (refl, (refl, tt)))))))))))))))))))))))))))))))))))

-- all of the table holds
pub bits_hold : All bits_table
unfolding bits_table
bits_hold =
    both (bit_tests ++ bit_scans ++ double_shifts ++ conditional_moves) (map bytes cases_m_100) runs_hold (bytes_hold cases_m_100 cases_m_100_hold)
