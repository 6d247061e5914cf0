-- The displacement of a jump, a call or a loop is that of its immediate's bytes.
-- Assumes nothing.
use mathlib.Core.Path.{◌≡◌, refl, ap, ◌∙◌}
use mathlib.Core.List.{List, [], ◌∷◌}
use mathlib.Core.Bool.{true, false}
use Prim.Native.Nat.{ℕ, ◌+◌, ◌*◌, ◌%◌}
use native.Mathlib.Omega.{arith}
use Rattle.grammar.specs.Choice.{pick}
use Rattle.grammar.specs.Opcodes.{lists, forms, rule_of}
use Rattle.grammar.specs.Displacements.{rel8, rel32}
use Rattle.grammar.specs.Grammar.{Bytes, end, and, Parts, Built}
use Rattle.width.specs.LittleEndian.{little_endian}
use Rattle.grammar.specs.Answers.{displaced, numbers}
use Rattle.grammar.specs.Relative.{relative_by, relative_in, relative_of}
use Rattle.grammar.specs.declared.rule.Immediate.{Immediate}
use Rattle.grammar.specs.declared.instruction.Decoded.{Decoded}
use Rattle.grammar.specs.Relative.{Relative}
use Rattle.std.specs.Prelude.{None, Some}
use Rattle.grammar.proofs.Below.{values, everywhere}
use Rattle.grammar.proofs.Entries.{without_rule, ends, lists_past}

-- what an opcode makes of an immediate, by whether it is one of those that have rel8, or rel32
abbrev pub near : ℕ → ℕ → Relative
near k = pick (lists rel8 k) (relative_by Immediate.Rel8) (pick (lists rel32 k) (relative_by Immediate.Rel32) (λ n. None))

-- the rules say the same, one opcode after the other
all_near : values near 0 512 ≡ values (λ k. relative_in (rule_of k)) 0 512
unfolding lists rule_of pick
all_near = refl

-- so each opcode's rule does
pub near_rule : (k n : ℕ) → near k n ≡ relative_in (rule_of k) n
unfolding forms ends pick
near_rule k n =
    ap (λ (f : ℕ → Relative). f n)
    (everywhere near (λ k. relative_in (rule_of k)) 512 all_near
    (λ k over. rw (lists_past rel8 512 k tt over, lists_past rel32 512 k tt over, without_rule k (lists_past forms 512 k tt over))) k)

-- so what a decoded instruction's immediate is, by its opcode
module _ (d : Decoded) where
  pub short : lists rel8 d.opcode ≡ true → relative_by Immediate.Rel8 d.immediate ≡ relative_of d
  unfolding relative_of pick
  short e = rw e at (near_rule d.opcode d.immediate)

  pub long : lists rel8 d.opcode ≡ false → lists rel32 d.opcode ≡ true → Some d.immediate ≡ relative_of d
  unfolding relative_of pick
  long e f = rw (e, f) at (near_rule d.opcode d.immediate)

  pub other : lists rel8 d.opcode ≡ false → lists rel32 d.opcode ≡ false → None ≡ relative_of d
  unfolding relative_of pick
  other e f = rw (e, f) at (near_rule d.opcode d.immediate)

-- the rule of the opcode decides
by_rule : (p : Parts) (built : Built p) → relative_of (numbers p) ≡ relative_by built.rule.immediate (little_endian p.immediate)
unfolding relative_of numbers
by_rule p built = ap (λ e. relative_in e (little_endian p.immediate)) built.listed

-- one byte, and four
one_byte : {is : List ℕ} → Bytes 1 is → displaced (little_endian is % 256 ∷ []) ≡ displaced is
unfolding little_endian
one_byte (and {b} h end) = let same : (b + 256 * 0) % 256 ≡ b = omega arith in ap (λ (n : ℕ). displaced (n ∷ [])) same

four_bytes : {is : List ℕ} → Bytes 4 is → little_endian is ≡ displaced is
unfolding displaced
four_bytes (and a (and b more)) = refl

-- rel8
pub relative_8 : (p : Parts) (built : Built p) → built.rule.immediate ≡ Immediate.Rel8 → relative_of (numbers p) ≡ Some (displaced p.immediate)
relative_8 p built e =
    let one : Bytes 1 p.immediate = rw e at built.immediate in
    by_rule p built ∙ rw e (ap Some (one_byte one))

-- rel32
pub relative_32 : (p : Parts) (built : Built p) → built.rule.immediate ≡ Immediate.Rel32 → relative_of (numbers p) ≡ Some (displaced p.immediate)
relative_32 p built e =
    let four : Bytes 4 p.immediate = rw e at built.immediate in
    by_rule p built ∙ rw e (ap Some (four_bytes four))
