-- Marks that are 1 at the starts and 0 elsewhere. Assumes nothing.
use mathlib.Core.Path.{◌≡◌, refl, ap, sym, ◌∙◌}
use mathlib.Core.List.Memᴰ
use mathlib.Core.List.{List, [], ◌∷◌, ◌++◌, Memᴰ}
use Prim.Native.Nat.{ℕ, zero, suc, ◌+◌, ◌<◌}
use native.Mathlib.Omega.{arith}
use native.Mathlib.Decide.{ℕ_discrete}
use lib.ListN.{length, get_or, set, replicate, length-set, length-replicate, length-append}
use lib.Seq.{set_comm, get_or-set_same, get_or-set_other}
use Rattle.grammar.specs.Grammar.{Cut, done, next}
use Rattle.grammar.proofs.Answered.{instruction_some}
use Rattle.blockcheck.specs.Blocks.{starts_from, marked}

-- there are so many marks
pub marked_length : (n : ℕ) (starts : List ℕ) → length (marked n starts) ≡ n
unfolding marked
marked_length n [] = length-replicate n 0
marked_length n (s ∷ starts) = length-set (marked n starts) s 1 ∙ marked_length n starts

-- two marks, in any order
set_swap : (l : List ℕ) (i j : ℕ) → set (set l i 1) j 1 ≡ set (set l j 1) i 1
set_swap l i j = go (ℕ_discrete i j)
  where
    go : Dec (i ≡ j) → set (set l i 1) j 1 ≡ set (set l j 1) i 1
    go (yes e) = rw e
    go (no n) = set_comm l i j 1 1 n

-- one start more
pub marked_more : (n : ℕ) (starts : List ℕ) (s : ℕ) → marked n (starts ++ (s ∷ [])) ≡ set (marked n starts) s 1
unfolding marked
marked_more n [] s = refl
marked_more n (t ∷ starts) s = rw (marked_more n starts s, set_swap (marked n starts) s t)

-- the starts of joined pieces, the second's after the first's bytes
pub starts_append : {xs : List (List ℕ)} {a : List ℕ} (ys : List (List ℕ)) (i : ℕ) → Cut xs a
    → starts_from i (xs ++ ys) ≡ starts_from i xs ++ starts_from (i + length a) ys
unfolding starts_from
starts_append ys i done = ap (λ (n : ℕ). starts_from n ys) (omega arith)
starts_append ys i (next {bytes} {code} instruction later) =
    let e : i + length bytes + length code ≡ i + (length bytes + length code) = omega arith in
    ap (λ (l : List ℕ). i ∷ l) (rw (length-append, ← e) (starts_append ys (i + length bytes) later))

-- every start lies inside the code
pub starts_inside : {pieces : List (List ℕ)} {code : List ℕ} {s : ℕ} (i : ℕ) → Cut pieces code → Memᴰ s (starts_from i pieces) → s < i + length code
unfolding starts_from
starts_inside i done m = absurd (Memᴰ.not-nil m)
starts_inside i (next instruction later) (Memᴰ.head e) = simp length-append (omega (arith, instruction_some instruction))
starts_inside i (next {bytes} instruction later) (Memᴰ.tail m) =
    let h = starts_inside (i + length bytes) later m in
    simp length-append (omega arith)

-- cleared marks are 0
cleared : (n i : ℕ) → ◌≡◌ {A = ℕ} (get_or (replicate n 0) i 0) 0
cleared zero i = refl
cleared (suc n) zero = refl
cleared (suc n) (suc i) = cleared n i

-- a mark of 1 is at a start
pub marked_start : (n : ℕ) (starts : List ℕ) (i : ℕ) → get_or (marked n starts) i 0 ≡ 1 → Memᴰ i starts
unfolding marked
marked_start n [] i e = absurd (omega (arith, cleared n i))
marked_start n (s ∷ starts) i e = go (ℕ_discrete i s) (λ k. marked_start n starts i (sym (get_or-set_other (marked n starts) s i 1 0 k) ∙ e))
  where
    go : Dec (i ≡ s) → ((i ≡ s → ⊥) → Memᴰ i starts) → Memᴰ i (s ∷ starts)
    go (yes h) later = Memᴰ.head h
    go (no h) later = Memᴰ.tail (later h)

-- at a start inside the code the mark is 1
one_marked : (n : ℕ) (starts : List ℕ) (i : ℕ) → i < n → Memᴰ i starts → get_or (marked n starts) i 0 ≡ 1
unfolding marked
one_marked n [] i h m = absurd (Memᴰ.not-nil m)
one_marked n (s ∷ starts) i h (Memᴰ.head e) =
    rw e (get_or-set_same (marked n starts) s 1 0 (omega (arith, marked_length n starts)))
one_marked n (s ∷ starts) i h (Memᴰ.tail m) = go (ℕ_discrete i s) (one_marked n starts i h m)
  where
    go : Dec (i ≡ s) → get_or (marked n starts) i 0 ≡ 1 → get_or (set (marked n starts) s 1) i 0 ≡ 1
    go (yes e) later = rw e (get_or-set_same (marked n starts) s 1 0 (omega (arith, marked_length n starts)))
    go (no k) later = get_or-set_other (marked n starts) s i 1 0 k ∙ later

-- at a start of a cut the mark is 1
pub start_marked : {pieces : List (List ℕ)} {code : List ℕ} → Cut pieces code → (i : ℕ) → Memᴰ i (starts_from 0 pieces)
    → get_or (marked (length code) (starts_from 0 pieces)) i 0 ≡ 1
start_marked {pieces} {code} cut i m =
    one_marked (length code) (starts_from 0 pieces) i (let h = starts_inside 0 cut m in omega arith) m
