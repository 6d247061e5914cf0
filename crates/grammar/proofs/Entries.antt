-- What lines say of an opcode that they do not list: one that is none of those that the lists name has no rule.
-- Assumes nothing.
use mathlib.Core.Path.{◌≡◌, refl, ap}
use mathlib.Core.Bool.{Bool, true, false}
use mathlib.Core.List.{List, [], ◌∷◌}
use Prim.Native.Nat.{ℕ, ◌≤◌}
use native.Mathlib.Omega.{arith}
use lib.Dec.{T, leb, ltb, ltb→lt}
use borrow.Author.Tests.{lt-leb}
use Rattle.grammar.specs.Choice.{pick, both, either}
use Rattle.grammar.specs.Opcodes.{Line, Form, unlisted, listed, lists, forms, with66, with_f2, with_f3, asks_f3, repeats_of, entry_of, rule_of}
use Rattle.grammar.specs.declared.rule.Prefix66.{Prefix66}
use Rattle.grammar.specs.declared.rule.Rule.{Rule}
use Rattle.std.specs.Prelude.{None, Some}
use Rattle.grammar.proofs.Below.{both_left, both_right, both_right_fails}

-- what lines say of an opcode that they do not list
pub says_other : {A : Type 0} (ls : List (Line A)) (other : A) (k : ℕ) → lists ls k ≡ false → listed ls other k ≡ other
unfolding lists listed pick
says_other [] other k none = refl
says_other (l ∷ ls) other k none = by (both (leb l.first k) (leb k l.last)) none (says_other ls other k)
  where
    by : (here : Bool) → either here (lists ls k) ≡ false → (lists ls k ≡ false → listed ls other k ≡ other)
        → pick here l.says (listed ls other k) ≡ other
    by true none later = absurd (let z : ◌≡◌ {A = ℕ} 0 1 = cc in omega arith)
    by false none later = later none

-- an opcode that the lists do not name has no rule
pub without_rule : (k : ℕ) → lists forms k ≡ false → rule_of k ≡ None
unfolding rule_of
without_rule k none =
    ap (λ (f : Form). entry_of f (listed with66 Prefix66.Refused k) (repeats_of (listed asks_f3 false k) (listed with_f2 false k) (listed with_f3 false k)))
    (says_other forms unlisted k none)

-- so the lists name each opcode that has one
pub ruled_listed : (k : ℕ) {rule : Rule} → rule_of k ≡ Some rule → lists forms k ≡ true
ruled_listed k {rule} e = by (lists forms k) refl
  where
    by : (named : Bool) → lists forms k ≡ named → named ≡ true
    by true f = refl
    by false f =
        let none = without_rule k f in
        absurd (let z : ◌≡◌ {A = ℕ} 0 1 = cc in omega arith)

-- each line ends below n
unfoldable pub ends : {A : Type 0} → List (Line A) → ℕ → Bool
ends [] n = true
ends (l ∷ ls) n = both (ltb l.last n) (ends ls n)

-- past their ends the lines list nothing
pub lists_past : {A : Type 0} (ls : List (Line A)) (n k : ℕ) → T (ends ls n) → n ≤ k → lists ls k ≡ false
unfolding lists ends
lists_past [] n k t h = refl
lists_past (l ∷ ls) n k t h =
    let below_n = ltb→lt l.last n (both_left (ltb l.last n) (ends ls n) t) in
    let outside : leb k l.last ≡ false = lt-leb k l.last (omega arith) in
    rw (both_right_fails (leb l.first k) outside) (lists_past ls n k (both_right (ltb l.last n) (ends ls n) t) h)
