-- A test that antt computes at every number below a bound, carried to each of them.
-- Assumes nothing.
use mathlib.Core.Path.{◌≡◌, refl, ap, ◌∙◌, subst, sym}
use mathlib.Core.Bool.{Bool, true, false}
use mathlib.Core.List.{List, [], ◌∷◌}
use Prim.Native.Nat.{ℕ, zero, suc, ◌+◌, ◌≤◌, ◌<◌}
use native.Mathlib.Nat.{add-zero, add-suc, suc-add, zero-add, le_of_suc-le-suc, not-suc-le-zero}
use native.Mathlib.Omega.{arith}
use lib.Dec.{T, ltb}
use lib.ListN.{get_or}
use borrow.Author.Tests.{ltb-true, ltb-false}
use Rattle.grammar.specs.Choice.{both, either}

-- the test passes at the n numbers from i on
abbrev pub every : (ℕ → Bool) → ℕ → ℕ → Bool
every f i zero = true
every f i (suc n) = both (f i) (every f (suc i) n)

-- each of two tests that both pass
pub both_left : (a b : Bool) → T (both a b) → T a
both_left true b t = tt
both_left false b t = t

pub both_right : (a b : Bool) → T (both a b) → T b
both_right true b t = t
both_right false b t = absurd t

-- both of two tests hold, or one of them fails
pub both_hold : {a b : Bool} → a ≡ true → b ≡ true → both a b ≡ true
both_hold p q = rw (p, q)

pub both_left_held : (a b : Bool) → both a b ≡ true → a ≡ true
both_left_held true b e = refl
both_left_held false b e = e

pub both_right_held : (a b : Bool) → both a b ≡ true → b ≡ true
both_right_held true b e = e
both_right_held false b e = absurd (let z : ◌≡◌ {A = ℕ} 0 1 = cc in omega arith)

pub both_right_fails : (a : Bool) {b : Bool} → b ≡ false → both a b ≡ false
both_right_fails true p = p
both_right_fails false p = refl

-- the test at each number from i on
from : (f : ℕ → Bool) (i n : ℕ) → T (every f i n) → (k : ℕ) → k < n → T (f (i + k))
from f i zero t k h = absurd (not-suc-le-zero h)
from f i (suc n) t zero h = subst (λ (m : ℕ). T (f m)) (sym (add-zero i)) (both_left (f i) (every f (suc i) n) t)
from f i (suc n) t (suc k) h =
    subst (λ (m : ℕ). T (f m)) (suc-add i k ∙ sym (add-suc i k))
    (from f (suc i) n (both_right (f i) (every f (suc i) n) t) k (le_of_suc-le-suc h))

-- the test at each number below n
pub below : (f : ℕ → Bool) (n : ℕ) → T (every f 0 n) → (k : ℕ) → k < n → T (f k)
below f n t k h = subst (λ (m : ℕ). T (f m)) (zero-add k) (from f 0 n t k h)

-- the test passes at one of the n numbers from i on
unfoldable pub some : (ℕ → Bool) → ℕ → ℕ → Bool
some test i zero = false
some test i (suc n) = either (test i) (some test (suc i) n)

-- a test that passes at a number passes at some number
pub some_passes : (test : ℕ → Bool) (i n k : ℕ) → i ≤ k → k < i + n → test k ≡ true → some test i n ≡ true
unfolding some
some_passes test i zero k above below e = absurd (omega arith)
some_passes test i (suc n) k above below e = go (test i) refl (λ (h : suc i ≤ k). some_passes test (suc i) n k h (omega arith) e)
  where
    go : (c : Bool) → test i ≡ c → (suc i ≤ k → some test (suc i) n ≡ true) → either c (some test (suc i) n) ≡ true
    go true t later = refl
    go false t later = let other : k ≡ i → ⊥ = λ same. (let z : ◌≡◌ {A = ℕ} 0 1 = cc in omega arith) in later (omega arith)

-- and where some test passes, there is a number at which it does
pub some_number : (test : ℕ → Bool) (i n : ℕ) → some test i n ≡ true → (k : ℕ) × (i ≤ k) × (k < i + n) × (test k ≡ true)
unfolding some
some_number test i zero e = absurd (let z : ◌≡◌ {A = ℕ} 0 1 = cc in omega arith)
some_number test i (suc n) e = go (test i) refl e (λ h. some_number test (suc i) n h)
  where
    go : (c : Bool) → test i ≡ c → either c (some test (suc i) n) ≡ true
        → (some test (suc i) n ≡ true → (k : ℕ) × (suc i ≤ k) × (k < suc i + n) × (test k ≡ true))
        → (k : ℕ) × (i ≤ k) × (k < i + suc n) × (test k ≡ true)
    go true t e later = (i, omega arith, omega arith, t)
    go false t e later = let (k, above, below, passes) = later e in (k, omega arith, omega arith, passes)

-- what f gives at the n numbers from i on
abbrev pub values : {A : Type 0} → (ℕ → A) → ℕ → ℕ → List A
values f i zero = []
values f i (suc n) = f i ∷ values f (suc i) n

-- and what stands at each of them
values_at : {A : Type 0} (f : ℕ → A) (i n k : ℕ) (d : A) → k < n → get_or (values f i n) k d ≡ f (i + k)
values_at f i zero k d h = absurd (not-suc-le-zero h)
values_at f i (suc n) zero d h = ap f (sym (add-zero i))
values_at f i (suc n) (suc k) d h =
    values_at f (suc i) n k d (le_of_suc-le-suc h) ∙ ap f (suc-add i k ∙ sym (add-suc i k))

-- what two functions give, one number after the other, being the same, they give the same at each of them
pub carried : {A : Type 0} (f g : ℕ → A) (n : ℕ) → values f 0 n ≡ values g 0 n → (k : ℕ) → k < n → f k ≡ g k
carried {A} f g n e k h =
    ap f (sym (zero-add k)) ∙ sym (values_at f 0 n k (f k) h) ∙ ap (λ (l : List A). get_or l k (f k)) e ∙ values_at g 0 n k (f k) h ∙ ap g (zero-add k)

-- and being the same above n too, they are the same everywhere
pub everywhere : {A : Type 0} (f g : ℕ → A) (n : ℕ) → values f 0 n ≡ values g 0 n → ((k : ℕ) → n ≤ k → f k ≡ g k) → (k : ℕ) → f k ≡ g k
everywhere f g n each past k = by (ltb k n) refl
  where
    by : (below : Bool) → ltb k n ≡ below → f k ≡ g k
    by true e = carried f g n each k (ltb-true k n e)
    by false e = past k (ltb-false k n e)
