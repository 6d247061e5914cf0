-- No instruction passes 11 bytes: a test over the rules, under each choice of prefixes.
-- Assumes nothing.
use mathlib.Core.Path.{◌≡◌, refl, ap}
use mathlib.Core.Bool.{Bool, true, false}
use mathlib.Core.List.{List}
use Prim.Native.Nat.{ℕ, ◌+◌, ◌<◌, ◌≤◌}
use native.Mathlib.Omega.{arith}
use lib.Dec.{T, leb, leb→le, eqb}
use lib.ListN.{length, get_or, length-append}
use Rattle.grammar.specs.Choice.{pick, both}
use Rattle.grammar.specs.Opcodes.{rule_of, listed}
use Rattle.grammar.specs.Grammar.{F2, F3, Prefixes, plain, size, repeated, size_repeated, repeated_size, prefix_bytes, narrow_of, repeat_of, repeat_in, Opcode, alone, after_0f, opcode_byte, opcode_bytes, opcode_number, Operand, operand_bytes, field_of, OperandFits, without, with, displacement_length, immediate_length, bytes_of, Instruction}
use Rattle.grammar.specs.Answers.{numbers}
use Rattle.grammar.specs.Decoding.{decode_of, has_modrm, accepts}
use Rattle.grammar.specs.declared.rule.ModRM.{ModRM}
use Rattle.grammar.specs.declared.rule.Immediate.{Immediate}
use Rattle.grammar.specs.declared.rule.Repeat.{Repeat}
use Rattle.grammar.specs.declared.rule.Rule.{Rule}
use Rattle.grammar.specs.Opcodes.{Entry}
use Rattle.std.specs.Prelude.{None, Some}
use Rattle.grammar.specs.declared.instruction.Decoded.{Decoded}
use Rattle.std.specs.Prelude.{Ok}
use Rattle.grammar.proofs.Below.{every, below, both_left, both_right, both_hold}
use Rattle.grammar.proofs.Counts.{displacement_count}
use Rattle.grammar.proofs.Operands.{bytes_length, sib_length_lem, allows_has}
use Rattle.grammar.proofs.Answered.{found_standing}
use Rattle.grammar.proofs.Exact.{allows66_zero}

-- how many bytes the parts have at most
abbrev prefix_most : Bool → Repeat → ℕ
prefix_most false Repeat.Absent = 0
prefix_most false Repeat.F2 = 1
prefix_most false Repeat.F3 = 1
prefix_most true Repeat.Absent = 1
prefix_most true Repeat.F2 = 2
prefix_most true Repeat.F3 = 2

operand_most : Bool → ℕ
operand_most true = 6
operand_most false = 0

abbrev immediate_most : Immediate → Bool → ℕ
immediate_most kind narrow = immediate_length kind narrow 0

-- and they have no more
prefix_most_lem : (p : Prefixes) → length (prefix_bytes p) ≡ prefix_most (narrow_of p) (repeat_in p)
unfolding prefix_bytes narrow_of repeat_in repeat_of
prefix_most_lem plain = refl
prefix_most_lem size = refl
prefix_most_lem (repeated F2) = refl
prefix_most_lem (repeated F3) = refl
prefix_most_lem (size_repeated F2) = refl
prefix_most_lem (size_repeated F3) = refl
prefix_most_lem (repeated_size F2) = refl
prefix_most_lem (repeated_size F3) = refl

operand_most_lem : {g : ModRM} {o : Operand} → OperandFits g o → length (operand_bytes o) ≤ operand_most (has_modrm g)
unfolding operand_bytes operand_most
operand_most_lem without = omega arith
operand_most_lem (with {g} {m} {sib} {displacement} small allowed sibs displaces) =
    let short = sib_length_lem m sibs in
    let long = bytes_length displaces in
    let four : displacement_length m (get_or sib 0 0) ≤ 4 = (displacement_count m (get_or sib 0 0)).four in
    rw (allows_has g m allowed) (simp length-append (omega arith))

-- a choice against none
pick_most : (c : Bool) (n : ℕ) → pick c n 0 ≤ n
unfolding pick
pick_most true n = omega arith
pick_most false n = omega arith

immediate_most_lem : (kind : Immediate) (narrow : Bool) (field : ℕ) → immediate_length kind narrow field ≤ immediate_most kind narrow
unfolding pick
immediate_most_lem Immediate.Absent narrow field = omega arith
immediate_most_lem Immediate.Imm8 narrow field = omega arith
immediate_most_lem Immediate.Imm16 narrow field = omega arith
immediate_most_lem Immediate.Imm32 narrow field = omega arith
immediate_most_lem Immediate.ImmV narrow field = omega arith
immediate_most_lem Immediate.Address narrow field = omega arith
immediate_most_lem Immediate.Rel8 narrow field = omega arith
immediate_most_lem Immediate.Rel32 narrow field = omega arith
immediate_most_lem Immediate.Imm8For0 narrow field = pick_most (eqb field 0) _
immediate_most_lem Immediate.ImmVFor0 narrow field = pick_most (eqb field 0) _

-- an opcode of n bytes, with all that may follow under some prefixes it accepts
most : Bool → Repeat → ℕ → Rule → ℕ
most narrow repeat n rule = prefix_most narrow repeat + n + operand_most (has_modrm rule.modrm) + immediate_most rule.immediate narrow

-- the rule lets no instruction with these prefixes pass 11 bytes
short : Bool → Repeat → ℕ → Rule → Bool
short narrow repeat n rule = pick (accepts narrow repeat rule) (leb (most narrow repeat n rule) 11) true

-- with 66 or without it
short_either : Repeat → ℕ → Rule → Bool
short_either repeat n rule = both (short true repeat n rule) (short false repeat n rule)

-- whichever prefixes it has
short_all : ℕ → Entry → Bool
short_all n None = true
short_all n (Some rule) = both (short_either Repeat.Absent n rule) (both (short_either Repeat.F2 n rule) (short_either Repeat.F3 n rule))

-- the test over the opcodes alone, and over those after 0F
short_alone : T (every (λ k. short_all 1 (rule_of k)) 0 0x100)
unfolding short_all short_either short most operand_most accepts rule_of
short_alone = tt

short_after_0f : T (every (λ k. short_all 2 (rule_of (0x100 + k))) 0 0x100)
unfolding short_all short_either short most operand_most accepts rule_of
short_after_0f = tt

-- at each opcode
short_opcode : (o : Opcode) → opcode_byte o < 256 → T (short_all (length (opcode_bytes o)) (rule_of (opcode_number o)))
unfolding opcode_bytes opcode_number
short_opcode (alone b) h = below (λ k. short_all 1 (rule_of k)) 0x100 short_alone b h
short_opcode (after_0f b) h = below (λ k. short_all 2 (rule_of (0x100 + k))) 0x100 short_after_0f b h

-- with each choice of prefixes
short_repeat : (repeat : Repeat) (n : ℕ) (rule : Rule) → T (short_all n (Some rule)) → T (short_either repeat n rule)
unfolding short_all
short_repeat Repeat.Absent n rule t = both_left (short_either Repeat.Absent n rule) (both (short_either Repeat.F2 n rule) (short_either Repeat.F3 n rule)) t
short_repeat Repeat.F2 n rule t =
    both_left (short_either Repeat.F2 n rule) (short_either Repeat.F3 n rule)
    (both_right (short_either Repeat.Absent n rule) (both (short_either Repeat.F2 n rule) (short_either Repeat.F3 n rule)) t)
short_repeat Repeat.F3 n rule t =
    both_right (short_either Repeat.F2 n rule) (short_either Repeat.F3 n rule)
    (both_right (short_either Repeat.Absent n rule) (both (short_either Repeat.F2 n rule) (short_either Repeat.F3 n rule)) t)

short_narrow : (narrow : Bool) (repeat : Repeat) (n : ℕ) (rule : Rule) → T (short_either repeat n rule) → T (short narrow repeat n rule)
unfolding short_either
short_narrow true repeat n rule t = both_left (short true repeat n rule) (short false repeat n rule) t
short_narrow false repeat n rule t = both_right (short true repeat n rule) (short false repeat n rule) t

-- so by its rule
short_rule : (narrow : Bool) (repeat : Repeat) (n : ℕ) (rule : Rule) (e : Entry) → e ≡ Some rule → accepts narrow repeat rule ≡ true
    → T (short_all n e) → most narrow repeat n rule ≤ 11
unfolding short pick
short_rule narrow repeat n rule e listed accepted t =
    let whole : T (short_all n (Some rule)) = rw listed at t in
    let test : T (short narrow repeat n rule) = short_narrow narrow repeat n rule (short_repeat repeat n rule whole) in
    leb→le (most narrow repeat n rule) 11 (rw accepted at test)

-- no instruction passes 11 bytes
pub eleven : {bytes : List ℕ} → Instruction bytes → length bytes ≤ 11
unfolding bytes_of most accepts
eleven i =
    let p = i.parts in
    let b = i.built in
    let narrow = narrow_of p.prefixes in
    let repeat = repeat_in p.prefixes in
    let accepted = both_hold b.repeat (allows66_zero b.rule.size narrow (field_of p.operand) b.size) in
    let all = short_rule narrow repeat _ b.rule _ b.listed accepted (short_opcode p.opcode b.opcode) in
    let prefixes = prefix_most_lem p.prefixes in
    let operand = operand_most_lem b.operand in
    let immediate = immediate_most_lem b.rule.immediate narrow (field_of p.operand) in
    let long = bytes_length b.immediate in
    omega (arith, simp length-append at (ap length i.joined))

-- nor does one that decode finds
pub found_eleven : (code : List ℕ) (at : ℕ) (d : Decoded) → decode_of code at ≡ Ok d → d.length ≤ 11
unfolding numbers
found_eleven code at d e =
    let s = found_standing code at d e in
    let same : length (bytes_of s.own.parts) ≡ d.length = ap (λ (x : Decoded). x.length) s.numbered in
    let short = eleven (record { parts = s.own.parts; built = s.own.built; joined = refl }) in
    omega arith
