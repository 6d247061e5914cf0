-- The decoder's tree reads exactly the grammar: what it spells is built as the grammar says, and the other way round.
-- Assumes nothing.
use mathlib.Core.Path.{◌≡◌, refl, ap, sym, ◌∙◌}
use mathlib.Core.Bool.{Bool, true, false}
use mathlib.Core.List.{List, [], ◌∷◌, ◌++◌}
use mathlib.Core.Logic.{⊎_elim}
use Prim.Native.Nat.{ℕ, ◌+◌, ◌<◌}
use native.Mathlib.Nat.{add_assoc}
use native.Mathlib.Omega.{arith}
use lib.Dec.{eqb}
use lib.ListN.{length}
use borrow.Author.Tests.{eqb-true, ne_eqb}
use Rattle.grammar.specs.Opcodes.{rule_of}
use Rattle.grammar.specs.Grammar.{Instruction, field_of, RepeatPrefix, F2, F3, repeat_byte, repeat_of, Prefixes, plain, size, repeated, size_repeated, repeated_size, prefix_bytes, narrow_of, repeat_in, Opcode, alone, after_0f, opcode_byte, opcode_bytes, opcode_number, Operand, operand_bytes, allows66, allows_repeat, Parts, bytes_of, Built}
use Rattle.grammar.specs.Answers.{numbers}
use Rattle.grammar.specs.Reading.{none, byte}
use Rattle.grammar.specs.Decoding.{opened, operand_tree, accepts, entry_tree, opcode_tree, escapes, escape_tree, first_tree, size_tree, repeat_tree, tree}
use Rattle.grammar.specs.declared.rule.Prefix66.{Prefix66}
use Rattle.grammar.specs.declared.rule.Repeat.{Repeat}
use Rattle.grammar.specs.declared.rule.Rule.{Rule}
use Rattle.grammar.specs.Opcodes.{Entry}
use Rattle.std.specs.Prelude.{None, Some}
use Rattle.grammar.specs.declared.instruction.Decoded.{Decoded}
use Rattle.grammar.proofs.Trees.{Spells, spells_no, read, spells_yes, pick_spells, none_spells, held}
use Rattle.grammar.proofs.Operands.{operand_spells, spells_operand, gathered}
use Rattle.grammar.proofs.Unlisted.{unlisted_0f, unlisted_66, unlisted_f2, unlisted_f3}
use Rattle.grammar.proofs.Below.{some_passes, both_hold, both_left_held, both_right_held}
use Rattle.grammar.proofs.Escapes.{accepts_entry, escapes_some}

-- 66 is allowed with reg field 0 where it is allowed with any
pub allows66_zero : (s : Prefix66) (narrow : Bool) (field : ℕ) → allows66 s narrow field ≡ true → allows66 s narrow 0 ≡ true
allows66_zero Prefix66.Refused narrow field e = e
allows66_zero Prefix66.Allowed narrow field e = refl
allows66_zero Prefix66.Only01 true field e = refl
allows66_zero Prefix66.Only01 false field e = refl

-- a listed opcode that takes the prefixes
opcode_spells : (n : ℕ) (narrow : Bool) (repeat : Repeat) (k : ℕ) {rule : Rule} {x : Decoded} {bytes : List ℕ} → rule_of k ≡ Some rule
    → accepts narrow repeat rule ≡ true → Spells (operand_tree rule (opened n narrow repeat k)) x bytes → Spells (opcode_tree n narrow repeat k) x bytes
unfolding opcode_tree entry_tree
opcode_spells n narrow repeat k e accepted s = rw e (spells_yes none accepted s)

-- what follows an opcode is spelled by its rule alone
spells_opcode : (n : ℕ) (narrow : Bool) (repeat : Repeat) (k : ℕ) {x : Decoded} {bytes : List ℕ} → Spells (opcode_tree n narrow repeat k) x bytes
    → (rule : Rule) × (rule_of k ≡ Some rule) × (accepts narrow repeat rule ≡ true) × Spells (operand_tree rule (opened n narrow repeat k)) x bytes
unfolding opcode_tree entry_tree
spells_opcode n narrow repeat k {x} {bytes} s = go (rule_of k) refl s
  where
    go : (e : Entry) → rule_of k ≡ e → Spells (entry_tree n narrow repeat k e) x bytes
        → (rule : Rule) × (rule_of k ≡ Some rule) × (accepts narrow repeat rule ≡ true) × Spells (operand_tree rule (opened n narrow repeat k)) x bytes
    go None e s = absurd (none_spells s refl)
    go (Some rule) e s = let (accepted, t) = held (accepts narrow repeat rule) _ s in (rule, e, accepted, t)

-- parts, one by one
abbrev parts_of : Prefixes → Opcode → Operand → List ℕ → Parts
parts_of p o m is = record { prefixes = p; opcode = o; operand = m; immediate = is }

-- what follows some prefixes, in parts
record Body (p : Prefixes) (x : Decoded) (bytes : List ℕ) : Type 0 where
  opcode : Opcode
  operand : Operand
  immediate : List ℕ
  built : Built (parts_of p opcode operand immediate)
  numbered : numbers (parts_of p opcode operand immediate) ≡ x
  joined : opcode_bytes opcode ++ (operand_bytes operand ++ immediate) ≡ bytes

-- what follows an opcode's bytes
spells_body : (p : Prefixes) (o : Opcode) (n : ℕ) {x : Decoded} {bytes : List ℕ} → n ≡ length (prefix_bytes p) + length (opcode_bytes o)
    → opcode_byte o < 256 → Spells (opcode_tree n (narrow_of p) (repeat_in p) (opcode_number o)) x bytes → Body p x (opcode_bytes o ++ bytes)
unfolding accepts
spells_body p o n read_on small s =
    let (rule, listed, accepted, t) = spells_opcode n (narrow_of p) (repeat_in p) (opcode_number o) s in
    let ops = spells_operand rule (opened n (narrow_of p) (repeat_in p) (opcode_number o)) (both_right_held (allows_repeat rule.repeats (repeat_in p)) _ accepted) t in
    record {
      opcode = o;
      operand = ops.operand;
      immediate = ops.immediate;
      built =
          record {
            rule = rule;
            opcode = small;
            listed = listed;
            size = ops.size;
            repeat = both_left_held _ _ accepted;
            operand = ops.fits;
            immediate = ops.long;
          };
      numbered = sym (gathered p o n read_on ops.operand ops.immediate ops.fits) ∙ ops.numbered;
      joined = ap (λ (l : List ℕ). opcode_bytes o ++ l) ops.joined;
    }

-- what follows the prefixes
spells_first : (p : Prefixes) {x : Decoded} {bytes : List ℕ} → Spells (byte (first_tree (length (prefix_bytes p)) (narrow_of p) (repeat_in p))) x bytes
    → Body p x bytes
unfolding first_tree escape_tree opcode_bytes opcode_number
spells_first p {x} (read {b} {bs} small s) =
    ⊎_elim
    (λ t. rw (eqb-true b 0x0F t.0) (escaped (held (escapes (narrow_of p) (repeat_in p)) _ t.1).1))
    (λ t. spells_body p (alone b) (length (prefix_bytes p) + 1) refl small t.1)
    (pick_spells (eqb b 0x0F) _ _ s)
  where
    escaped : {bs : List ℕ} → Spells (byte (λ c. opcode_tree (length (prefix_bytes p) + 1 + 1) (narrow_of p) (repeat_in p) (0x100 + c))) x bs → Body p x (0x0F ∷ bs)
    escaped (read {b = c} small u) = spells_body p (after_0f c) (length (prefix_bytes p) + 1 + 1) (omega arith) small u

-- an instruction, and its numbers
pub record Spelled (x : Decoded) (bytes : List ℕ) : Type 0 where
  pub instruction : Instruction bytes
  pub numbered : numbers instruction.parts ≡ x

-- with the prefixes before it
behind : (p : Prefixes) {x : Decoded} {bytes : List ℕ} → Body p x bytes → Spelled x (prefix_bytes p ++ bytes)
unfolding bytes_of
behind p b =
    record {
      instruction =
          record {
            parts = parts_of p b.opcode b.operand b.immediate;
            built = b.built;
            joined = ap (λ (l : List ℕ). prefix_bytes p ++ l) b.joined;
          };
      numbered = b.numbered;
    }

-- what follows 66
spells_size : {x : Decoded} {bytes : List ℕ} → Spells size_tree x bytes → Spelled x (0x66 ∷ bytes)
unfolding size_tree prefix_bytes narrow_of repeat_in repeat_of repeat_byte
spells_size (read {b} small s) =
    ⊎_elim (λ t. rw (eqb-true b 0xF2 t.0) (behind (size_repeated F2) (spells_first (size_repeated F2) t.1)))
    (λ t.
    ⊎_elim (λ u. rw (eqb-true b 0xF3 u.0) (behind (size_repeated F3) (spells_first (size_repeated F3) u.1)))
    (λ u. behind size (spells_first size (read small u.1)))
    (pick_spells (eqb b 0xF3) _ _ t.1))
    (pick_spells (eqb b 0xF2) _ _ s)

-- what follows F2 or F3
spells_repeat : (r : RepeatPrefix) {x : Decoded} {bytes : List ℕ} → Spells (repeat_tree (repeat_of r)) x bytes → Spelled x (repeat_byte r ∷ bytes)
unfolding repeat_tree prefix_bytes narrow_of repeat_in
spells_repeat r (read {b} small s) =
    ⊎_elim (λ t. rw (eqb-true b 0x66 t.0) (behind (repeated_size r) (spells_first (repeated_size r) t.1)))
    (λ t. behind (repeated r) (spells_first (repeated r) (read small t.1)))
    (pick_spells (eqb b 0x66) _ _ s)

-- what the tree spells is an instruction
pub spells_tree : {x : Decoded} {bytes : List ℕ} → Spells tree x bytes → Spelled x bytes
unfolding tree prefix_bytes narrow_of repeat_in repeat_of repeat_byte
spells_tree (read {b} small s) =
    ⊎_elim (λ t. rw (eqb-true b 0x66 t.0) (spells_size t.1))
    (λ t.
    ⊎_elim (λ u. rw (eqb-true b 0xF2 u.0) (spells_repeat F2 u.1))
    (λ u.
    ⊎_elim (λ v. rw (eqb-true b 0xF3 v.0) (spells_repeat F3 v.1)) (λ v. behind plain (spells_first plain (read small v.1)))
    (pick_spells (eqb b 0xF3) _ _ u.1))
    (pick_spells (eqb b 0xF2) _ _ t.1))
    (pick_spells (eqb b 0x66) _ _ s)

-- an opcode's first byte, and what follows it
abbrev lead : Opcode → ℕ
lead (alone b) = b
lead (after_0f b) = 0x0F

abbrev second : Opcode → List ℕ
second (alone b) = []
second (after_0f b) = b ∷ []

-- the first byte is a byte
lead_small : (o : Opcode) → opcode_byte o < 256 → lead o < 256
lead_small (alone b) h = h
lead_small (after_0f b) h = omega arith

-- an unlisted byte is no listed opcode
unlike : (b v : ℕ) {rule : Rule} → rule_of b ≡ Some rule → rule_of v ≡ None → eqb b v ≡ false
unlike b v listed e = ne_eqb b v (λ same. let z : ◌≡◌ {A = ℕ} 0 1 = cc in omega arith)

-- and, but for 0F, begins none
not_lead : (o : Opcode) {rule : Rule} (v : ℕ) → rule_of (opcode_number o) ≡ Some rule → rule_of v ≡ None → eqb 0x0F v ≡ false → eqb (lead o) v ≡ false
unfolding opcode_number
not_lead (alone b) v listed e f = unlike b v listed e
not_lead (after_0f b) v listed e f = f

-- an opcode and what follows it
first_spells : (n : ℕ) (narrow : Bool) (repeat : Repeat) (o : Opcode) {rule : Rule} {x : Decoded} {bytes : List ℕ} → opcode_byte o < 256
    → rule_of (opcode_number o) ≡ Some rule → accepts narrow repeat rule ≡ true
    → Spells (operand_tree rule (opened (n + length (opcode_bytes o)) narrow repeat (opcode_number o))) x bytes
    → Spells (first_tree n narrow repeat (lead o)) x (second o ++ bytes)
unfolding first_tree escape_tree opcode_bytes opcode_number accepts_entry
first_spells n narrow repeat (alone b) small listed accepted s =
    spells_no _ (unlike b 0x0F listed unlisted_0f) (opcode_spells (n + 1) narrow repeat b listed accepted s)
first_spells n narrow repeat (after_0f b) {rule} small listed accepted s =
    spells_yes _ refl
    (spells_yes none
    (sym (escapes_some narrow repeat) ∙ some_passes (λ k. accepts_entry narrow repeat (rule_of k)) 0x100 0x100 (0x100 + b) (omega arith) (omega arith) (rw listed accepted))
    (read small (opcode_spells (n + 1 + 1) narrow repeat (0x100 + b) listed accepted (rw (add_assoc n 1 1) s))))

-- F2 or F3 and what follows it
repeat_spells : (r : RepeatPrefix) {x : Decoded} {bytes : List ℕ} → Spells (repeat_tree (repeat_of r)) x bytes → Spells tree x (repeat_byte r ∷ bytes)
unfolding tree repeat_of repeat_byte
repeat_spells F2 s = read {b = 0xF2} (omega arith) (spells_no _ refl (spells_yes _ refl s))
repeat_spells F3 s = read {b = 0xF3} (omega arith) (spells_no _ refl (spells_no _ refl (spells_yes _ refl s)))

-- prefixes, and an opcode after them
module _ (o : Opcode) (rule : Rule) (small : opcode_byte o < 256) (listed : rule_of (opcode_number o) ≡ Some rule) where
  not_66 : eqb (lead o) 0x66 ≡ false
  not_66 = not_lead o 0x66 listed unlisted_66 refl

  not_f2 : eqb (lead o) 0xF2 ≡ false
  not_f2 = not_lead o 0xF2 listed unlisted_f2 refl

  not_f3 : eqb (lead o) 0xF3 ≡ false
  not_f3 = not_lead o 0xF3 listed unlisted_f3 refl

  prefix_spells : (p : Prefixes) {x : Decoded} {bytes : List ℕ}
      → Spells (first_tree (length (prefix_bytes p)) (narrow_of p) (repeat_in p) (lead o)) x bytes → Spells tree x (prefix_bytes p ++ lead o ∷ bytes)
  unfolding tree size_tree repeat_tree prefix_bytes narrow_of repeat_in repeat_of repeat_byte
  prefix_spells plain s = read (lead_small o small) (spells_no _ not_66 (spells_no _ not_f2 (spells_no _ not_f3 s)))
  prefix_spells size s =
      read {b = 0x66} (omega arith) (spells_yes _ refl (read (lead_small o small) (spells_no _ not_f2 (spells_no _ not_f3 s))))
  prefix_spells (repeated r) s = repeat_spells r (read (lead_small o small) (spells_no _ not_66 s))
  prefix_spells (size_repeated F2) s =
      read {b = 0x66} (omega arith) (spells_yes _ refl (read {b = 0xF2} (omega arith) (spells_yes _ refl (read (lead_small o small) s))))
  prefix_spells (size_repeated F3) s =
      read {b = 0x66} (omega arith) (spells_yes _ refl (read {b = 0xF3} (omega arith) (spells_no _ refl (spells_yes _ refl (read (lead_small o small) s)))))
  prefix_spells (repeated_size r) s = repeat_spells r (read {b = 0x66} (omega arith) (spells_yes _ refl (read (lead_small o small) s)))

-- the opcode's bytes are these
opcode_joined : (o : Opcode) (bytes : List ℕ) → opcode_bytes o ++ bytes ≡ lead o ∷ (second o ++ bytes)
unfolding opcode_bytes
opcode_joined (alone b) bytes = refl
opcode_joined (after_0f b) bytes = refl

-- an instruction is spelled by the tree
module _ (P : Parts) (built : Built P) where
  after_prefixes :
      Spells (first_tree (length (prefix_bytes P.prefixes)) (narrow_of P.prefixes) (repeat_in P.prefixes) (lead P.opcode)) (numbers P)
      (second P.opcode ++ (operand_bytes P.operand ++ P.immediate))
  unfolding accepts
  after_prefixes =
      let p = P.prefixes in
      let o = P.opcode in
      let n = length (prefix_bytes p) + length (opcode_bytes o) in
      first_spells (length (prefix_bytes p)) (narrow_of p) (repeat_in p) o built.opcode built.listed
      (both_hold built.repeat (allows66_zero built.rule.size (narrow_of p) (field_of P.operand) built.size))
      (rw (← gathered p o n refl P.operand P.immediate built.operand)
      (operand_spells built.rule (opened n (narrow_of p) (repeat_in p) (opcode_number o)) refl built.operand built.size built.immediate))

  -- the whole instruction
  pub tree_spells : Spells tree (numbers P) (bytes_of P)
  unfolding bytes_of
  tree_spells =
      rw (opcode_joined P.opcode (operand_bytes P.operand ++ P.immediate))
      (prefix_spells P.opcode built.rule built.opcode built.listed P.prefixes after_prefixes)
