-- All of the tables of M-104's and M-105's cases holds of the written rules. Assumes nothing.
use mathlib.Core.Path.{◌≡◌, refl, sym, ap, ◌∙◌}
use mathlib.Core.List.{List, [], ◌∷◌, ◌++◌}
use Prim.Native.Nat.{ℕ, zero, suc, ◌+◌}
use native.Mathlib.Nat.{zero-add, suc-add}
use native.Mathlib.Omega.{arith}
use lib.Count.{ones}
use lib.ListN.{length, take, drop, length-replicate}
use Rattle.width.specs.LittleEndian as LittleEndian
use Rattle.width.specs.Sizes as Sizes
use Rattle.width.specs.Numbers as Numbers
use Rattle.flags.specs.Results as Results
use Rattle.flags.specs.Word as Word
use Rattle.arith.specs.Sums as Sums
use Rattle.arith.specs.Binary as Binary
use Rattle.shift.specs.Values as Values
use Rattle.shift.specs.Changes as Changes
use Rattle.machine.specs.Registers as Registers
use Rattle.machine.specs.Memory as Memory
use Rattle.grammar.specs.Opcodes as Opcodes
use Rattle.grammar.specs.Grammar as Grammar
use Rattle.grammar.specs.Answers as Answers
use Rattle.grammar.specs.Reading as Reading
use Rattle.grammar.specs.Decoding as Decoding
use Rattle.sense.specs.Operations as Operations
use Rattle.sense.specs.Senses as Senses
use Rattle.plan.specs.Addresses as Addresses
use Rattle.plan.specs.Plans as Plans
use Rattle.effect.specs.Words as Words
use Rattle.effect.specs.Arithmetic as Arithmetic
use Rattle.effect.specs.Moves as Moves
use Rattle.effect.specs.Stacks as Stacks
use Rattle.effect.specs.Branches as Branches
use Rattle.effect.specs.Strings as Strings
use Rattle.effect.specs.All as Effects
use Rattle.blockcheck.specs.Blocks.{code_base}
use Rattle.run.specs.declared.Lent.{Lent}
use Rattle.run.specs.Steps as Steps
use Rattle.run.specs.Runs as Runs
use Rattle.run.proofs.Law.{refusal_changes_nothing}
use Rattle.cases.specs.Lines.{ends, stops, lending, Gives, Holds, All}
use Rattle.cases.specs.Table.{pointing}
use Rattle.cases.specs.Constants.{four, reads, operands, stacks, strings, many, refuses, lengths, constants_table}
use Rattle.cases.specs.Outside.{unread, unwritten, others, outside_table}
use Rattle.cases.proofs.Holding.{both}

-- the last of 65,536 constants, and the byte behind it
abbrev Longest : Type 0
Longest =
    (constants : List ℕ) → length constants ≡ 65_536 → take 1 (drop 65_535 constants) ≡ 0x5A ∷ []
    → Gives (lending constants (ends (0x8A ∷ 0x06 ∷ []) (pointing 0 0 0 0x0020_FFFF 0) four 1 (pointing 2 0x5A 0 0x0020_FFFF 0) four))
    × Gives (lending constants (stops (0x8A ∷ 0x06 ∷ []) (pointing 0 0 0 0x0021_0000 0) four 1 (pointing 0 0 0 0x0021_0000 0) four 0 5 0x0021_0000))

-- the cases with eight constants or none compute, and so do those two
computed : All (reads ++ operands ++ stacks ++ strings) × (All outside_table × Longest)
unfolding All Holds Gives reads operands stacks strings unread unwritten others outside_table ones code_base
    LittleEndian.little_endian LittleEndian.bytes_of
    Sizes.bits Sizes.modulus Sizes.half Sizes.bytes
    Numbers.bit Numbers.bit_at Numbers.residue Numbers.rest Numbers.beyond Numbers.meaning Numbers.signed Numbers.outside Numbers.negative
    Results.undefined_flag Results.all_undefined Results.parity Results.resulting
    Word.word_of Word.flags_of Word.passes
    Sums.value_of Sums.carries Sums.adjusts Sums.overflows Sums.flags_of
    Binary.sum_flags Binary.difference_flags Binary.binary_value Binary.binary_flags
    Values.masked Values.shifted Values.shift_value
    Changes.shift_flags
    Registers.register Registers.with_register Registers.with_eip Registers.with_flags Registers.holder Registers.lowest Registers.bits_from Registers.part Registers.replaced Registers.with_part
    Memory.data_base Memory.constants_base Memory.holds Memory.first_outside Memory.first_unread Memory.part_of Memory.read_of Memory.numbered Memory.load_of Memory.stored_of Memory.store_of
    Opcodes.rule_of
    Grammar.sib_length Grammar.bare_length
    Answers.displaced
    Reading.run Reading.bytes_then
    Decoding.tail_tree Decoding.address_tree Decoding.modrm_tree Decoding.operand_tree Decoding.accepts Decoding.entry_tree Decoding.opcode_tree Decoding.escapes Decoding.escape_tree Decoding.first_tree Decoding.repeat_tree Decoding.size_tree Decoding.tree Decoding.answer Decoding.found Decoding.decode_of
    Operations.binary_at Operations.shift_at Operations.operation_of
    Senses.senses Senses.sense_of
    Addresses.scaled_index Addresses.base_register Addresses.address_base Addresses.effective_address
    Plans.size_of Plans.operand_of Plans.is_offset Plans.address_in Plans.next_of Plans.plan_for Plans.plan_of
    Words.becomes Words.onward Words.value Words.assign Words.read_or Words.read_of Words.writes
    Arithmetic.arithmetic_address Arithmetic.arithmetic_reads Arithmetic.assigns Arithmetic.settled Arithmetic.binary Arithmetic.shift Arithmetic.arithmetic_effect
    Moves.move_reads Moves.move_effect
    Stacks.above Stacks.below Stacks.pushed Stacks.stack_reads Stacks.stack_effect
    Branches.counted
    Strings.passed Strings.round Strings.round_reads Strings.compares Strings.over Strings.repeated Strings.with_machine Strings.idle Strings.string_reads Strings.rounded Strings.string_effect
    Effects.address_by Effects.reads_by Effects.effect_by
    Steps.home Steps.inside Steps.committed Steps.finished Steps.performed Steps.operand_address Steps.planned Steps.executed Steps.step_of Steps.stored Steps.loaded
    Runs.on_moved Runs.run_from Runs.refusal Runs.opened Runs.closed Runs.taken Runs.refused Runs.run_of
computed = (
  (refl, (refl, (refl, (refl, (refl, (refl, (refl, (refl, (refl, (refl, (refl, (refl, (refl, (refl, (refl, (refl, (refl, (refl, (refl, (refl, (refl, (refl, (refl, (refl, (refl, (refl, (refl, (refl, (refl, (refl, (refl, (refl, (refl, (refl, tt)))))))))))))))))))))))))))))))))),
  (
    (refl, (refl, (refl, (refl, (refl, (refl, (refl, (refl, (refl, (refl, (refl, (refl, (refl, (refl, (refl, (refl, (refl, (refl, (refl, (refl, (refl, (refl, (refl, (refl, (refl, (refl, (refl, (refl, (refl, (refl, (refl, (refl, (refl, (refl, (refl, (refl, (refl, (refl, (refl, (refl, (refl, (refl, (refl, tt))))))))))))))))))))))))))))))))))))))))))),
    λ constants long last. (rw (long, last), rw long),
  ),
)

-- so many alike, but for the first of them
drop_many : (k n : ℕ) → drop k (many (k + n)) ≡ many n
drop_many zero n = rw zero-add
drop_many (suc k) n = rw suc-add (drop_many k n)

module _ (constants : List ℕ) (given : Lent) (budget : ℕ) where
  -- a refused run hands back what was handed in
  refuses_with : (code area : List ℕ) (n : ℕ) → Runs.refusal_of (Steps.fixed_to code constants) area given.word budget ≡ suc n
      → Gives (lending constants (refuses code given area budget (suc n)))
  unfolding Gives Runs.refused
  refuses_with code area n is =
      refusal_changes_nothing (Steps.fixed_to code constants) given area budget (λ e. let z : suc n ≡ 0 = sym is ∙ e in omega arith) ∙ rw is

  -- 15: more than 65,536 constants
  too_many : length constants ≡ 65_537 → Gives (lending constants (refuses (0x8A ∷ 0x06 ∷ []) given four budget 15))
  unfolding Runs.refusal
  too_many long = refuses_with (0x8A ∷ 0x06 ∷ []) four 14 (rw long)

  -- 11 before it
  too_much : (area : List ℕ) → length area ≡ 65_537 → Gives (lending constants (refuses (0x8A ∷ 0x06 ∷ []) given area budget 11))
  unfolding Runs.refusal
  too_much area long = refuses_with (0x8A ∷ 0x06 ∷ []) area 10 (rw long)

  -- 10 before both
  no_code : Gives (lending constants (refuses [] given four budget 10))
  unfolding Runs.refusal
  no_code = refuses_with [] four 9 refl

-- the cases with very many hold
lengths_hold : All lengths
unfolding All Holds lengths
lengths_hold =
    let whole = computed.1.1 (many 65_536) (length-replicate {A = ℕ} 65_536 0x5A) (ap (take 1) (drop_many 65_535 1)) in
    let over = length-replicate {A = ℕ} 65_537 0x5A in (
      whole.0,
      (
        whole.1,
        (
          too_many (many 65_537) _ 1 over,
          (
            too_many (many 65_537) _ 0 over,
            (
              too_many (many 65_537) _ 1 over,
              (
                too_many (many 65_537) _ 1_000_001 over,
                (no_code (many 65_537) _ 1, (too_much (many 65_537) _ 1 (many 65_537) over, tt)),
              ),
            ),
          ),
        ),
      ),
    )

-- all of M-104's table holds
pub constants_hold : All constants_table
unfolding constants_table
constants_hold = both (reads ++ operands ++ stacks ++ strings) lengths computed.0 lengths_hold

-- all of M-105's table holds
pub outside_hold : All outside_table
outside_hold = computed.1.0
