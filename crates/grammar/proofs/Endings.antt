-- Wherever the tree reads on, some bytes complete an instruction.
-- Assumes nothing.
use mathlib.Core.Path.{◌≡◌, refl, ap, sym, ◌∙◌}
use mathlib.Core.Bool.{Bool, true, false}
use Prim.Native.Nat.{ℕ, ◌+◌, ◌-◌}
use native.Mathlib.Omega.{arith}
use lib.Dec.{eqb}
use borrow.Author.Tests.{ne_eqb}
use Rattle.grammar.specs.Choice.{pick}
use Rattle.grammar.specs.Opcodes.{rule_of}
use Rattle.grammar.specs.Grammar.{reg_of, allows66, allows_repeat}
use Rattle.grammar.specs.Reading.{Tree, none, byte}
use Rattle.grammar.specs.Decoding.{tail_tree, address_tree, modrm_tree, has_modrm, operand_tree, accepts, entry_tree, opcode_tree, escapes, escape_tree, first_tree, size_tree, repeat_tree, tree}
use Rattle.grammar.specs.declared.rule.Immediate.{Immediate}
use Rattle.grammar.specs.declared.rule.Repeat.{Repeat}
use Rattle.grammar.specs.declared.rule.Rule.{Rule}
use Rattle.grammar.specs.Opcodes.{Entry}
use Rattle.std.specs.Prelude.{None, Some}
use Rattle.grammar.specs.declared.instruction.Decoded.{Decoded}
use Rattle.grammar.proofs.Below.{both_hold, both_right_held, some_number}
use Rattle.grammar.proofs.Trees.{Ends, Live, here, read, nowhere, ends_then, live_then}
use Rattle.grammar.proofs.Completions.{completing, allows_completing, completing_small, completing_66}
use Rattle.grammar.proofs.Escapes.{accepts_entry, escapes_some, opcodes_accept}
use Rattle.grammar.proofs.Unlisted.{unlisted_0f}

module _ {A : Type 0} where
  -- a test whose side ends, and one whose sides are live
  ends_yes : {c : Bool} {t : Tree A} (u : Tree A) → c ≡ true → Ends t → Ends (pick c t u)
  unfolding pick
  ends_yes u e ends = rw e ends

  ends_no : {c : Bool} (t : Tree A) {u : Tree A} → c ≡ false → Ends u → Ends (pick c t u)
  unfolding pick
  ends_no t e ends = rw e ends

  live_pick : (c : Bool) {t u : Tree A} → (c ≡ true → Live t) → Live u → Live (pick c t u)
  unfolding pick
  live_pick true left right = left refl
  live_pick false left right = right

-- the displacement and the immediate
ends_tail : (d : Decoded) (k n : ℕ) → Ends (tail_tree d k n)
unfolding tail_tree
ends_tail d k n = ends_then k _ (λ ds a. ends_then n _ (λ is b. here))

live_tail : (d : Decoded) (k n : ℕ) → Live (tail_tree d k n)
unfolding tail_tree
live_tail d k n = live_then k _ (λ ds a. ends_then n _ (λ is b. here)) (λ ds a. live_then n _ (λ is b. here) (λ is b. here))

-- what follows the ModR/M byte
ends_address : (kind : Immediate) (d : Decoded) → Ends (address_tree kind d)
unfolding address_tree
ends_address kind d = ends_then _ _ (λ sib a. ends_tail _ _ _)

live_address : (kind : Immediate) (d : Decoded) → Live (address_tree kind d)
unfolding address_tree
live_address kind d = live_then _ _ (λ sib a. ends_tail _ _ _) (λ sib a. live_tail _ _ _)

module _ (rule : Rule) (d : Decoded) (size : allows66 rule.size d.narrow (reg_of (completing rule.modrm)) ≡ true) where
  -- what follows an opcode whose rule takes the prefixes
  ends_modrm : has_modrm rule.modrm ≡ true → Ends (modrm_tree rule d)
  unfolding modrm_tree
  ends_modrm has =
      read (completing rule.modrm) (completing_small rule.modrm)
      (ends_yes none (both_hold (allows_completing rule.modrm has) size) (ends_address _ _))

  ends_operand : Ends (operand_tree rule d)
  unfolding operand_tree
  ends_operand = go (has_modrm rule.modrm) refl
    where
      go : (c : Bool) → has_modrm rule.modrm ≡ c → Ends (operand_tree rule d)
      go true e = ends_yes _ e (ends_modrm e)
      go false e = ends_no _ e (ends_tail _ _ _)

  live_operand : Live (operand_tree rule d)
  unfolding operand_tree modrm_tree
  live_operand =
      live_pick (has_modrm rule.modrm) (λ has. read (ends_modrm has) (λ m small. live_pick _ (λ e. live_address _ _) nowhere))
      (live_tail _ _ _)

module _ (n : ℕ) (narrow : Bool) (repeat : Repeat) (k : ℕ) where
  -- an opcode's rule that takes the prefixes takes them with a ModR/M byte that completes it
  size_taken : {rule : Rule} → rule_of k ≡ Some rule → accepts narrow repeat rule ≡ true
      → allows66 rule.size narrow (reg_of (completing rule.modrm)) ≡ true
  unfolding accepts
  size_taken {rule} listed accepted = completing_66 narrow k listed (both_right_held (allows_repeat rule.repeats repeat) _ accepted)

  -- what follows an opcode
  ends_entry : (e : Entry) → rule_of k ≡ e → accepts_entry narrow repeat e ≡ true → Ends (entry_tree n narrow repeat k e)
  unfolding entry_tree accepts_entry
  ends_entry None listed accepted = absurd (let z : ◌≡◌ {A = ℕ} 0 1 = cc in omega arith)
  ends_entry (Some rule) listed accepted = ends_yes none accepted (ends_operand rule _ (size_taken listed accepted))

  live_entry : (e : Entry) → rule_of k ≡ e → Live (entry_tree n narrow repeat k e)
  unfolding entry_tree
  live_entry None listed = nowhere
  live_entry (Some rule) listed = live_pick _ (λ accepted. live_operand rule _ (size_taken listed accepted)) nowhere

  ends_opcode : accepts_entry narrow repeat (rule_of k) ≡ true → Ends (opcode_tree n narrow repeat k)
  unfolding opcode_tree
  ends_opcode accepted = ends_entry (rule_of k) refl accepted

  live_opcode : Live (opcode_tree n narrow repeat k)
  unfolding opcode_tree
  live_opcode = live_entry (rule_of k) refl

module _ (n : ℕ) (narrow : Bool) (repeat : Repeat) where
  -- what follows 0F
  after_0f : ℕ → Tree Decoded
  after_0f b = opcode_tree (n + 1) narrow repeat (0x100 + b)

  ends_after_0f : escapes narrow repeat ≡ true → Ends (byte after_0f)
  unfolding after_0f
  ends_after_0f e =
      let (k, above, below, accepted) = some_number (λ k. accepts_entry narrow repeat (rule_of k)) 0x100 0x100 (escapes_some narrow repeat ∙ e) in
      let same : 0x100 + (k - 0x100) ≡ k = omega arith in
      let ends : Ends (after_0f (k - 0x100)) = rw same (ends_opcode (n + 1) narrow repeat k accepted) in
      read (k - 0x100) (omega arith) ends

  live_escape : Live (escape_tree n narrow repeat)
  unfolding escape_tree after_0f
  live_escape =
      live_pick (escapes narrow repeat) (λ e. read (ends_after_0f e) (λ b small. live_opcode (n + 1) narrow repeat (0x100 + b))) nowhere

module _ (n : ℕ) (narrow : Bool) (repeat : Repeat) where
  unaccepted : accepts_entry narrow repeat (rule_of 0x0F) ≡ true → ⊥
  unfolding accepts_entry
  unaccepted e =
      let false_true : false ≡ true = rw unlisted_0f at e in
      let z : ◌≡◌ {A = ℕ} 0 1 = cc in
      omega arith

  -- an opcode of one byte completes any prefixes
  ends_first : Ends (byte (first_tree n narrow repeat))
  unfolding first_tree
  ends_first =
      let (k, above, below, accepted) = some_number (λ k. accepts_entry narrow repeat (rule_of k)) 0 0x100 (opcodes_accept narrow repeat) in
      let other : eqb k 0x0F ≡ false = ne_eqb k 0x0F (λ (e : k ≡ 0x0F). unaccepted (ap (λ (k : ℕ). accepts_entry narrow repeat (rule_of k)) (sym e) ∙ accepted)) in
      read k (omega arith) (ends_no _ other (ends_opcode (n + 1) narrow repeat k accepted))

  -- what follows the prefixes
  live_first : (b : ℕ) → Live (first_tree n narrow repeat b)
  unfolding first_tree
  live_first b = live_pick (eqb b 0x0F) (λ e. live_escape (n + 1) narrow repeat) (live_opcode (n + 1) narrow repeat b)

  live_byte : Live (byte (first_tree n narrow repeat))
  live_byte = read ends_first (λ b small. live_first b)

-- what follows 66
ends_size : Ends size_tree
unfolding size_tree
ends_size = read 0xF2 (omega arith) (ends_yes _ refl (ends_first 2 true Repeat.F2))

live_size : Live size_tree
unfolding size_tree
live_size =
    read ends_size
    (λ b small.
    live_pick (eqb b 0xF2) (λ e. live_byte 2 true Repeat.F2)
    (live_pick (eqb b 0xF3) (λ e. live_byte 2 true Repeat.F3) (live_first 1 true Repeat.Absent b)))

-- what follows F2 or F3
live_repeat : (r : Repeat) → Live (repeat_tree r)
unfolding repeat_tree
live_repeat r =
    read (read 0x66 (omega arith) (ends_yes _ refl (ends_first 2 true r)))
    (λ b small. live_pick (eqb b 0x66) (λ e. live_byte 2 true r) (live_first 1 false r b))

-- the whole tree
pub live_tree : Live tree
unfolding tree
live_tree =
    read (read 0x66 (omega arith) (ends_yes _ refl ends_size))
    (λ b small.
    live_pick (eqb b 0x66) (λ e. live_size)
    (live_pick (eqb b 0xF2) (λ e. live_repeat Repeat.F2)
    (live_pick (eqb b 0xF3) (λ e. live_repeat Repeat.F3) (live_first 0 false Repeat.Absent b))))
