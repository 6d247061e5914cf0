-- The marks between the passes, and what levelling makes of them. Assumes nothing.
use mathlib.Core.Path.{◌≡◌, refl, ap, sym, ◌∙◌}
use mathlib.Core.List.Memᴰ
use mathlib.Core.List.{List, [], ◌∷◌, ◌++◌, Memᴰ}
use Prim.Native.Nat.{ℕ, zero, suc, ◌<◌}
use native.Mathlib.Omega.{arith}
use native.Mathlib.Decide.{ℕ_discrete}
use lib.ListN.{length, get_or, set, replicate, length-map, get_or-map}
use lib.Seq.{get_or-set_same, get_or-set_other}
use borrow.Author.Tests.{ne_eqb}
use Rattle.grammar.specs.Grammar.{Cut}
use Rattle.grammar.specs.Decoding.{decode_of}
use Rattle.grammar.specs.Relative.{relative_of}
use Rattle.grammar.specs.declared.instruction.Decoded.{Decoded}
use Rattle.std.specs.Prelude.{Ok}
use Rattle.grammar.specs.Relative.{Relative}
use Rattle.std.specs.Prelude.{None, Some}
use Rattle.blockcheck.specs.Blocks.{starts_from, marked}
use Rattle.blockcheck.specs.Passes.{Shows, mark_of, level_of, levelled, Coded}
use Rattle.blockcheck.proofs.Marking.{marked_length, marked_more, marked_start, start_marked}

-- a mark that is not 0 becomes 1
level_some : (mark : ℕ) → (mark ≡ 0 → ⊥) → level_of mark ≡ 1
unfolding level_of
level_some mark some = rw (ne_eqb mark 0 some)

-- a start's mark is not 0
mark_some : (r : Relative) → mark_of r ≡ 0 → ⊥
unfolding mark_of
mark_some None e = omega arith
mark_some (Some displacement) e = omega arith

-- levelled marks are as many
levelled_length : (marks : List ℕ) → length (levelled marks) ≡ length marks
unfolding levelled
levelled_length marks = length-map marks level_of

-- the levelled mark at a place is that of the mark there
levelled_at : (marks : List ℕ) (i : ℕ) → get_or (levelled marks) i 0 ≡ level_of (get_or marks i 0)
unfolding levelled level_of
levelled_at marks i = get_or-map level_of marks i 0

-- cleared marks stay so
levelled_none : (n : ℕ) → levelled (replicate n 0) ≡ replicate n 0
unfolding levelled level_of
levelled_none zero = refl
levelled_none (suc n) = ap (λ (l : List ℕ). 0 ∷ l) (levelled_none n)

-- one mark more
levelled_set : (marks : List ℕ) (i mark : ℕ) → levelled (set marks i mark) ≡ set (levelled marks) i (level_of mark)
unfolding levelled
levelled_set [] i mark = refl
levelled_set (x ∷ marks) zero mark = refl
levelled_set (x ∷ marks) (suc i) mark = ap (λ (l : List ℕ). level_of x ∷ l) (levelled_set marks i mark)

-- of some starts and one more, any other is one of the first
earlier : {i s : ℕ} (starts : List ℕ) → Memᴰ i (starts ++ (s ∷ [])) → (i ≡ s → ⊥) → Memᴰ i starts
earlier [] (Memᴰ.head e) other = absurd (other e)
earlier [] (Memᴰ.tail m) other = absurd (Memᴰ.not-nil m)
earlier (t ∷ starts) (Memᴰ.head e) other = Memᴰ.head e
earlier (t ∷ starts) (Memᴰ.tail m) other = Memᴰ.tail (earlier starts m other)

-- cleared marks are those of no start
pub coded_none : (code : List ℕ) → Coded code [] (replicate (length code) 0)
unfolding marked
coded_none code = record { level = levelled_none (length code); told = λ i m. absurd (Memᴰ.not-nil m) }

module _ {code starts marks : List ℕ} (coded : Coded code starts marks) where
  -- there are as many marks as bytes
  pub coded_long : length marks ≡ length code
  coded_long = sym (levelled_length marks) ∙ ap length coded.level ∙ marked_length (length code) starts

  module _ (at : ℕ) (d : Decoded) (h : at < length code) (found : decode_of code at ≡ Ok d) where
    -- with one start more, each mark is its instruction's
    told_more : (i : ℕ) → Dec (i ≡ at) → Memᴰ i (starts ++ (at ∷ [])) → (x : Decoded) → decode_of code i ≡ Ok x
        → get_or (set marks at (mark_of (relative_of d))) i 0 ≡ mark_of (relative_of x)
    told_more i (yes same) m x e =
        let is : x ≡ d = cc in
        rw (same, is) (get_or-set_same marks at (mark_of (relative_of d)) 0 (omega (arith, coded_long)))
    told_more i (no other) m x e = get_or-set_other marks at i (mark_of (relative_of d)) 0 other ∙ coded.told i (earlier starts m other) x e

    -- one start more, marked by its instruction
    pub coded_more : Coded code (starts ++ (at ∷ [])) (set marks at (mark_of (relative_of d)))
    coded_more =
        record {
          level =
              rw
              (levelled_set marks at (mark_of (relative_of d)), level_some (mark_of (relative_of d)) (mark_some (relative_of d)), coded.level, marked_more);
          told = λ i m x e. told_more i (ℕ_discrete i at) m x e;
        }

-- the marks between the passes show the starts
pub coded_shows : {pieces : List (List ℕ)} {code marks : List ℕ} → Cut pieces code → Coded code (starts_from 0 pieces) marks
    → Shows marks (starts_from 0 pieces)
unfolding level_of
coded_shows {pieces} {code} {marks} cut coded =
    record {
      start = λ i some. marked_start (length code) (starts_from 0 pieces) i (sym (same i) ∙ level_some (get_or marks i 0) some);
      some = λ i m none.
          let one : level_of (get_or marks i 0) ≡ 1 = same i ∙ start_marked cut i m in
          omega (arith, rw none at one);
    }
  where
    same : (i : ℕ) → level_of (get_or marks i 0) ≡ get_or (marked (length code) (starts_from 0 pieces)) i 0
    same i = sym (levelled_at marks i) ∙ ap (λ (l : List ℕ). get_or l i 0) coded.level
