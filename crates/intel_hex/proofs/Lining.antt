-- The first line of a text, as it is split off. Assumes nothing.
use mathlib.Core.Path.{◌≡◌, refl, ap, ◌∙◌}
use mathlib.Core.Bool.{Bool, true, false}
use mathlib.Core.List.{List, [], ◌∷◌, ◌++◌}
use Prim.Native.Nat.{ℕ, zero, suc, ◌+◌, ◌<◌, min}
use native.Mathlib.Numerals.{add-one}
use native.Mathlib.Omega.{arith}
use denote.Param.Members.{Mut, Called}
use denote.Ref.{Bor}
use lib.Dec.{eqb}
use lib.ListN.{length, get_or, take, drop}
use Rattle.std.specs.Fn.{ComputesKey}
use Rattle.std.specs.List.{IsFirstMatchOrLen}
use Rattle.std.proofs.lemmas.Fn.{always_returns_same}
use Rattle.intel_hex.specs.Lines.{LF, before, lines_of}

-- a line goes up to its LF, or to the end of the text
up_to : (text : List ℕ) (i : ℕ) → 0 < length text → ((k : ℕ) → k < i → eqb (get_or text k 0) LF ≡ false)
    → (i < length text → eqb (get_or text i 0) LF ≡ true) → lines_of text ≡ take (suc i) text ∷ lines_of (drop (suc i) text)
unfolding lines_of before
up_to [] i some none hit = absurd (omega arith)
up_to (b ∷ text) zero some none hit = rw (hit some) refl
up_to (b ∷ []) (suc i) some none hit = rw (none 0 (omega arith)) refl
up_to (b ∷ x ∷ text) (suc i) some none hit =
    rw (none 0 (omega arith))
    (ap (before b) (up_to (x ∷ text) i (omega arith) (λ k h. none (suc k) (omega arith)) (λ h. hit (omega arith))))

-- two parts of a text, by the length of the first
parts : (first rest : List ℕ) (n : ℕ) → length first ≡ min n (length (first ++ rest)) → (take n (first ++ rest) ≡ first) × (drop n (first ++ rest) ≡ rest)
parts [] [] zero h = (refl, refl)
parts [] [] (suc n) h = (refl, refl)
parts [] (a ∷ rest) zero h = (refl, refl)
parts [] (a ∷ rest) (suc n) h = absurd (omega arith)
parts (b ∷ first) rest zero h = absurd (omega arith)
parts (b ∷ first) rest (suc n) h =
    let (taken, left) = parts first rest n (omega arith) in
    (ap (λ (l : List ℕ). b ∷ l) taken, left)

module _ {F : Type 0} (g : Mut F (Bor ℕ × Unit {0}) Bool) where
  -- what is split off behind the first LF is the first line
  pub first_line : (text line rest : List ℕ) (f f' : F)
      → ((a : Bor ℕ × Unit {0}) (r : Bool) (e : F) → Called g f a r e → (r ≡ eqb a.0.now LF) × (e ≡ f))
      → text ≡ line ++ rest
      → ((i : ℕ) × (length line ≡ min (i + 1) (length text)) × ((p : ℕ → Bool) → ComputesKey g p f → ComputesKey g p f' × IsFirstMatchOrLen p text i))
      → 0 < length text → lines_of text ≡ line ∷ lines_of rest
  first_line text line rest f f' says split (i, long, found) some =
      let (kept, (none, hit)) = found (λ b. eqb b LF) (always_returns_same g (λ a r. r ≡ eqb a.0.now LF) f says) in
      let (taken, left) = parts line rest (suc i) (rw (add-one i, split) at long) in
      up_to text i some (λ k h. none k 0 (omega arith) h) (λ h. hit h 0) ∙ rw (split, taken, left) refl
