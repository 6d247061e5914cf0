-- Places in a line: the pairs of digits from one on, and what ends the line there. Assumes nothing.
use mathlib.Core.Path.{◌≡◌, refl}
use mathlib.Core.Bool.{Bool, true, false, cond}
use mathlib.Core.List.{List, [], ◌∷◌}
use Prim.Native.Nat.{ℕ, suc, ◌+◌, ◌*◌, ◌<◌, ◌≤◌}
use native.Mathlib.Omega.{arith}
use lib.ListN.{length, get_or, drop, length-drop}
use borrow.Author.Tests.{eq-eqb, ne_eqb}
use Rattle.intel_hex.specs.Lines.{LF, CR}
use Rattle.intel_hex.specs.Reading.{is_pair, pairs_in, is_end}

-- too few bytes for a pair
pub pairs_few : (text : List ℕ) → length text < 2 → pairs_in text ≡ 0
unfolding pairs_in
pairs_few [] h = refl
pairs_few (a ∷ []) h = refl
pairs_few (a ∷ b ∷ text) h = absurd (omega arith)

-- no pair
pub pairs_stop : (text : List ℕ) → 2 ≤ length text → is_pair (get_or text 0 0) (get_or text 1 0) ≡ false → pairs_in text ≡ 0
unfolding pairs_in
pairs_stop [] h is = absurd (omega arith)
pairs_stop (a ∷ []) h is = absurd (omega arith)
pairs_stop (a ∷ b ∷ text) h is = rw is refl

-- a pair, and those after it
pub pairs_go : (text : List ℕ) → 2 ≤ length text → is_pair (get_or text 0 0) (get_or text 1 0) ≡ true → pairs_in text ≡ suc (pairs_in (drop 2 text))
unfolding pairs_in
pairs_go [] h is = absurd (omega arith)
pairs_go (a ∷ []) h is = absurd (omega arith)
pairs_go (a ∷ b ∷ text) h is = rw is refl

-- pairs have two bytes each
pairs_within : (text : List ℕ) → 2 * pairs_in text ≤ length text
unfolding pairs_in
pairs_within [] = omega arith
pairs_within (a ∷ []) = omega arith
pairs_within (a ∷ b ∷ text) = go (is_pair a b) (pairs_within text)
  where
    go : (t : Bool) → 2 * pairs_in text ≤ length text → 2 * cond t (suc (pairs_in text)) 0 ≤ suc (suc (length text))
    go true h = omega arith
    go false h = omega arith

-- what ends a line, by how many bytes are left
pub end_none : (text : List ℕ) → length text < 1 → is_end text ≡ false
unfolding is_end
end_none [] h = refl
end_none (a ∷ text) h = absurd (omega arith)

pub end_lf : (text : List ℕ) → 1 ≤ length text → length text < 2 → get_or text 0 0 ≡ LF → is_end text ≡ true
unfolding is_end
end_lf [] h g e = absurd (omega arith)
end_lf (a ∷ []) h g e = eq-eqb _ _ e
end_lf (a ∷ b ∷ text) h g e = absurd (omega arith)

pub end_one : (text : List ℕ) → 1 ≤ length text → length text < 2 → (get_or text 0 0 ≡ LF → ⊥) → is_end text ≡ false
unfolding is_end
end_one [] h g other = absurd (omega arith)
end_one (a ∷ []) h g other = ne_eqb _ _ other
end_one (a ∷ b ∷ text) h g other = absurd (omega arith)

pub end_cr_lf : (text : List ℕ) → 2 ≤ length text → length text < 3 → get_or text 0 0 ≡ CR → get_or text 1 0 ≡ LF → is_end text ≡ true
unfolding is_end
end_cr_lf [] h g e f = absurd (omega arith)
end_cr_lf (a ∷ []) h g e f = absurd (omega arith)
end_cr_lf (a ∷ b ∷ []) h g e f = rw (eq-eqb _ _ e, eq-eqb _ _ f)
end_cr_lf (a ∷ b ∷ d ∷ text) h g e f = absurd (omega arith)

pub end_no_cr : (text : List ℕ) → 2 ≤ length text → length text < 3 → (get_or text 0 0 ≡ CR → ⊥) → is_end text ≡ false
unfolding is_end
end_no_cr [] h g other = absurd (omega arith)
end_no_cr (a ∷ []) h g other = absurd (omega arith)
end_no_cr (a ∷ b ∷ []) h g other = rw (ne_eqb _ _ other)
end_no_cr (a ∷ b ∷ d ∷ text) h g other = absurd (omega arith)

pub end_no_lf : (text : List ℕ) → 2 ≤ length text → length text < 3 → get_or text 0 0 ≡ CR → (get_or text 1 0 ≡ LF → ⊥) → is_end text ≡ false
unfolding is_end
end_no_lf [] h g e other = absurd (omega arith)
end_no_lf (a ∷ []) h g e other = absurd (omega arith)
end_no_lf (a ∷ b ∷ []) h g e other = rw (eq-eqb _ _ e, ne_eqb _ _ other)
end_no_lf (a ∷ b ∷ d ∷ text) h g e other = absurd (omega arith)

pub end_long : (text : List ℕ) → 3 ≤ length text → is_end text ≡ false
unfolding is_end
end_long [] h = absurd (omega arith)
end_long (a ∷ []) h = absurd (omega arith)
end_long (a ∷ b ∷ []) h = absurd (omega arith)
end_long (a ∷ b ∷ d ∷ text) h = refl

-- all these
pub ruleset line_ends = (end_none, end_lf, end_one, end_cr_lf, end_no_cr, end_no_lf, end_long)

-- a line with pairs of digits behind its first byte is so long
pub pairs_long : (line : List ℕ) (n : ℕ) → n ≡ pairs_in (drop 1 line) → 0 < n → 1 + 2 * n ≤ length line
pairs_long line n e some = omega (arith, pairs_within (drop 1 line), length-drop 1 line)
