-- All of the table of M-106's cases holds of the written rules. Assumes nothing.
use mathlib.Core.Path.{refl}
use mathlib.Core.List.{◌++◌, map}
use lib.Count.{count_trailing_zeros}
use lib.Ieee as Ieee
use Rattle.width.specs.LittleEndian as LittleEndian
use Rattle.width.specs.Sizes as Sizes
use Rattle.width.specs.Numbers as Numbers
use Rattle.flags.specs.Word as Word
use Rattle.scalar.specs.Singles as Scalars
use Rattle.machine.specs.Registers as Registers
use Rattle.machine.specs.Memory as Memory
use Rattle.grammar.specs.Opcodes as Opcodes
use Rattle.grammar.specs.Grammar as Grammar
use Rattle.grammar.specs.Answers as Answers
use Rattle.grammar.specs.Reading as Reading
use Rattle.grammar.specs.Decoding as Decoding
use Rattle.grammar.specs.Cases.{cases_m_106}
use Rattle.grammar.proofs.Cases.{cases_m_106_hold}
use Rattle.sense.specs.Operations as Operations
use Rattle.sense.specs.Senses as Senses
use Rattle.plan.specs.Addresses as Addresses
use Rattle.plan.specs.Plans as Plans
use Rattle.effect.specs.Words as Words
use Rattle.effect.specs.Singles as Singles
use Rattle.effect.specs.All as Effects
use Rattle.blockcheck.specs.Blocks.{code_base}
use Rattle.run.specs.Steps as Steps
use Rattle.run.specs.Runs as Runs
use Rattle.cases.specs.Lines.{Gives, bytes, Holds, All}
use Rattle.cases.specs.Singles.{rounded_singles, chosen_singles, compared_singles, moved_singles, singles_table}
use Rattle.cases.proofs.Holding.{both, bytes_hold}

-- the cases of a run compute
runs_hold : All (rounded_singles ++ chosen_singles ++ compared_singles ++ moved_singles)
unfolding All Holds Gives rounded_singles chosen_singles compared_singles moved_singles count_trailing_zeros code_base
    Ieee.span Ieee.climb Ieee.size Ieee.odd Ieee.units Ieee.round Ieee.neg Ieee.sum Ieee.add Ieee.sub Ieee.mul Ieee.div Ieee.lt Ieee.is_nan Ieee.nan_bits Ieee.of_fields Ieee.of_bits Ieee.to_bits
    LittleEndian.little_endian LittleEndian.bytes_of
    Sizes.bits Sizes.modulus Sizes.bytes
    Numbers.bit Numbers.bit_at Numbers.residue Numbers.rest
    Word.word_of Word.flags_of Word.passes
    Scalars.is_single_nan Scalars.is_zero Scalars.number Scalars.quieted Scalars.first_nan Scalars.result_of Scalars.rounded Scalars.chosen Scalars.computed Scalars.answer Scalars.compared
    Registers.register Registers.with_eip Registers.with_flags Registers.with_xmm Registers.bits_in Registers.with_bits Registers.single Registers.with_single
    Memory.data_base Memory.constants_base Memory.holds Memory.first_outside Memory.first_unread Memory.part_of Memory.read_of Memory.numbered Memory.load_of Memory.stored_of Memory.store_of
    Opcodes.rule_of
    Grammar.sib_length Grammar.bare_length
    Answers.displaced
    Reading.run Reading.bytes_then
    Decoding.tail_tree Decoding.address_tree Decoding.modrm_tree Decoding.operand_tree Decoding.accepts Decoding.entry_tree Decoding.opcode_tree Decoding.escapes Decoding.escape_tree Decoding.first_tree Decoding.repeat_tree Decoding.tree Decoding.answer Decoding.found Decoding.decode_of
    Operations.compute_at Operations.operation_of
    Senses.senses Senses.sense_of
    Addresses.base_register Addresses.address_base Addresses.effective_address
    Plans.size_of Plans.operand_of Plans.is_offset Plans.address_in Plans.next_of Plans.plan_for Plans.plan_of
    Words.becomes Words.writes Words.sets Words.onward Words.read_or Words.read_of
    Singles.single_value Singles.assign_single Singles.single_reads Singles.single_moved Singles.single_computed Singles.single_compared
    Effects.address_by Effects.reads_by Effects.effect_by
    Steps.home Steps.inside Steps.committed Steps.finished Steps.performed Steps.operand_address Steps.planned Steps.executed Steps.step_of Steps.stored Steps.loaded
    Runs.on_moved Runs.run_from Runs.refusal Runs.opened Runs.closed Runs.taken Runs.run_of
runs_hold = (refl, (refl, (refl, (refl, (refl, (refl, (refl, (refl, (refl, (refl, (refl, (refl, (refl, (refl, (refl, (refl, (refl, (refl, (refl, (refl, (refl, (refl, (refl, (refl, (refl, (refl, (refl, (refl, (refl, (refl, (refl, (refl, (refl, (refl, (refl, (refl, (refl, (refl, (refl, (refl, (refl, (refl, (refl, (refl, (refl, (refl, (refl, (refl, (refl, (refl, (refl, (refl, (refl, (refl, tt))))))))))))))))))))))))))))))))))))))))))))))))))))))

-- all of the table holds
pub singles_hold : All singles_table
unfolding singles_table
singles_hold =
    both (rounded_singles ++ chosen_singles ++ compared_singles ++ moved_singles) (map bytes cases_m_106) runs_hold (bytes_hold cases_m_106 cases_m_106_hold)
