-- Case 8 of document 01 on any machine with OF clear: C0 D0 09 changes only EIP. Assumes nothing.
use mathlib.Core.Path.{◌≡◌}
use mathlib.Core.Bool.{false}
use mathlib.Core.List.{[], ◌∷◌}
use Prim.Native.Nat.{ℕ, ◌^◌, ◌<◌}
use native.Mathlib.Omega.{arith}
use Rattle.width.specs.declared.Size.TheVariants.{Byte}
use Rattle.width.specs.Sizes as Sizes
use Rattle.width.specs.Numbers as Numbers
use Rattle.flags.specs.declared.Flags.{Flags}
use Rattle.flags.specs.Word as Word
use Rattle.flags.proofs.RoundTrips.{packed}
use Rattle.shift.specs.declared.Shift.TheVariants.{Rcl}
use Rattle.shift.specs.Values as Values
use Rattle.shift.specs.Changes as Changes
use Rattle.shift.proofs.Cases as Shifts
use Rattle.machine.specs.Registers as Registers
use Rattle.grammar.specs.Opcodes as Opcodes
use Rattle.grammar.specs.Grammar as Grammar
use Rattle.width.specs.LittleEndian as LittleEndian
use Rattle.grammar.specs.Answers as Answers
use Rattle.grammar.specs.Reading as Reading
use Rattle.grammar.specs.Decoding as Decoding
use Rattle.sense.specs.Operations as Operations
use Rattle.sense.specs.Senses as Senses
use Rattle.plan.specs.Plans as Plans
use Rattle.effect.specs.Words as Words
use Rattle.effect.specs.Arithmetic as Arithmetic
use Rattle.effect.specs.All as Effects
use Rattle.blockcheck.specs.Blocks.{code_base}
use Rattle.run.specs.Steps as Steps
use Rattle.run.specs.Runs as Runs
use Rattle.cases.specs.Lines.{Gives, Keeps}

-- RCL of AL by 9 keeps AL, and the flags where OF is clear
kept : (al : ℕ) (f : Flags) → al < 2 ^ 8 → f.of ≡ false → (Values.shift_value Rcl Byte al 9 f.cf ≡ al) × (Changes.shift_flags Rcl Byte al 9 f ≡ f)
unfolding Shifts.All Shifts.Holds Shifts.cases
kept = (Shifts.all_hold).1.0

-- bit 11 of the flags word is OF
clear : (word : ℕ) → Numbers.bit_at 11 word ≡ false → (Word.flags_of word).of ≡ false
unfolding Word.flags_of
clear word o = o

-- AL put back into EAX
put_back : (eax : ℕ) → eax < 2 ^ 32 → Registers.replaced 0 8 eax (Registers.bits_from 0 8 eax) ≡ eax
unfolding Registers.bits_from Registers.replaced
put_back eax h = omega arith

-- AL is a byte
byte : (eax : ℕ) → Registers.bits_from 0 8 eax < 2 ^ 8
unfolding Registers.bits_from
byte eax = omega arith

-- C0 D0 09 on any such machine
pub keeps_machine : Keeps (0xC0 ∷ 0xD0 ∷ 0x09 ∷ [])
unfolding Keeps Gives
    Sizes.bits Sizes.modulus Numbers.residue Numbers.rest
    Registers.register Registers.with_register Registers.with_eip Registers.with_flags Registers.holder Registers.lowest Registers.part Registers.with_part
    Opcodes.rule_of Grammar.sib_length Grammar.bare_length
    LittleEndian.little_endian Answers.displaced Reading.run Reading.bytes_then
    Decoding.tail_tree Decoding.address_tree Decoding.modrm_tree Decoding.operand_tree Decoding.accepts Decoding.entry_tree Decoding.opcode_tree Decoding.first_tree Decoding.tree Decoding.answer Decoding.found Decoding.decode_of
    Operations.shift_at Operations.operation_of Senses.senses Senses.sense_of
    Plans.size_of Plans.operand_of Plans.is_offset Plans.address_in Plans.next_of Plans.plan_for Plans.plan_of
    Words.becomes Words.onward Words.value Words.assign Words.read_or Words.read_of
    Arithmetic.arithmetic_address Arithmetic.arithmetic_reads Arithmetic.settled Arithmetic.shift Arithmetic.arithmetic_effect
    Effects.address_by Effects.reads_by Effects.effect_by
    code_base
    Steps.home Steps.inside Steps.committed Steps.finished Steps.performed Steps.operand_address Steps.planned Steps.executed Steps.step_of
    Runs.on_moved Runs.run_from Runs.refusal Runs.opened Runs.closed Runs.taken Runs.run_of
keeps_machine eax others singles word h p o =
    let k = kept (Registers.bits_from 0 8 eax) (Word.flags_of word) (byte eax) (clear word o) in
    rw (p, k.0, k.1, packed word p, put_back eax h)
