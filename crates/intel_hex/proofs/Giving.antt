-- What records add: bytes by their addresses, the upper half, the end. Assumes nothing.
use mathlib.Core.Path.{◌≡◌, ap, sym, ◌∙◌}
use mathlib.Core.Bool.{Bool, cond}
use mathlib.Core.Logic.{◌⊎◌, inl, inr, ⊎_elim}
use mathlib.Core.List.Memᴰ
use mathlib.Core.List.{List, [], ◌∷◌, Memᴰ}
use Prim.Native.Nat.{ℕ, zero, suc, ◌+◌, ◌*◌, ◌<◌}
use native.Mathlib.Decide.{ℕ_discrete}
use native.Mathlib.Omega.{arith}
use lib.Dec.{eqb}
use lib.ListN.{length, get_or}
use borrow.Author.Tests.{ne_eqb}
use Rattle.intel_hex.specs.Records.{Record}
use Rattle.intel_hex.specs.Files.{given_from, given_by, upper_after, Ended}

-- whether an address is given
pub given_or_not : (a : ℕ) (bytes : List (ℕ × ℕ)) → ((b : ℕ) × Memᴰ (a, b) bytes) ⊎ ((b : ℕ) → Memᴰ (a, b) bytes → ⊥)
given_or_not a [] = inr (λ b m. Memᴰ.not-nil m)
given_or_not a ((x, y) ∷ bytes) = go (ℕ_discrete a x) (given_or_not a bytes)
  where
    go : Dec (a ≡ x) → ((b : ℕ) × Memᴰ (a, b) bytes) ⊎ ((b : ℕ) → Memᴰ (a, b) bytes → ⊥)
        → ((b : ℕ) × Memᴰ (a, b) ((x, y) ∷ bytes)) ⊎ ((b : ℕ) → Memᴰ (a, b) ((x, y) ∷ bytes) → ⊥)
    go (yes e) later = inl (y, Memᴰ.head (ap (λ (n : ℕ). (n, y)) e))
    go (no h) (inl (b, m)) = inl (b, Memᴰ.tail m)
    go (no h) (inr free) = inr (λ b m. ⊎_elim (λ e. h (ap (λ (p : ℕ × ℕ). p.0) e)) (free b) (Memᴰ.cases_cons m))

-- a byte given is one of the bytes, at its place
pub given_back : (start : ℕ) (bytes : List ℕ) (a b : ℕ) → Memᴰ (a, b) (given_from start bytes)
    → (j : ℕ) × (j < length bytes) × (a ≡ start + j) × (b ≡ get_or bytes j 0)
unfolding given_from
given_back start [] a b m = absurd (Memᴰ.not-nil m)
given_back start (x ∷ bytes) a b (Memᴰ.head e) = (0, omega arith, ap (λ (p : ℕ × ℕ). p.0) e ∙ omega arith, ap (λ (p : ℕ × ℕ). p.1) e)
given_back start (x ∷ bytes) a b (Memᴰ.tail m) =
    let (j, inside, place, is) = given_back (suc start) bytes a b m in
    (suc j, omega arith, omega arith, is)

-- each of the bytes is given
pub given_forth : (start : ℕ) (bytes : List ℕ) (j : ℕ) → j < length bytes → Memᴰ (start + j, get_or bytes j 0) (given_from start bytes)
unfolding given_from
given_forth start [] j h = absurd (omega arith)
given_forth start (x ∷ bytes) zero h =
    let here : start + 0 ≡ start = omega arith in
    Memᴰ.head (ap (λ (n : ℕ). (n, x)) here)
given_forth start (x ∷ bytes) (suc j) h =
    let place : suc start + j ≡ start + suc j = omega arith in
    Memᴰ.tail (rw place at (given_forth (suc start) bytes j (omega arith)))

-- what a record of type 00 gives
pub given_data : (upper : ℕ) (r : Record) → r.kind ≡ 0 → given_by upper r ≡ given_from (upper * 65536 + (256 * r.high + r.low)) r.bytes
unfolding given_by
given_data upper r is = ap (λ (k : ℕ). cond (eqb k 0) (given_from (upper * 65536 + (256 * r.high + r.low)) r.bytes) []) is

-- any other gives nothing
pub given_other : (upper : ℕ) (r : Record) → (r.kind ≡ 0 → ⊥) → given_by upper r ≡ []
unfolding given_by
given_other upper r other =
    ap (λ (t : Bool). cond t (given_from (upper * 65536 + (256 * r.high + r.low)) r.bytes) []) (ne_eqb r.kind 0 other)

-- a record of type 04 sets the upper half
pub upper_set : (upper : ℕ) (r : Record) → r.kind ≡ 4 → upper_after upper r ≡ 256 * get_or r.bytes 0 0 + get_or r.bytes 1 0
unfolding upper_after
upper_set upper r is = ap (λ (k : ℕ). cond (eqb k 4) (256 * get_or r.bytes 0 0 + get_or r.bytes 1 0) upper) is

-- any other leaves it
pub upper_kept : (upper : ℕ) (r : Record) → (r.kind ≡ 4 → ⊥) → upper_after upper r ≡ upper
unfolding upper_after
upper_kept upper r other = ap (λ (t : Bool). cond t (256 * get_or r.bytes 0 0 + get_or r.bytes 1 0) upper) (ne_eqb r.kind 4 other)

-- an end record stays one
pub ended_more : (records : List Record) (r : Record) → Ended records → Ended (r ∷ records)
unfolding Ended
ended_more records r (q, m, kind) = (q, Memᴰ.tail m, kind)

-- a type other than 01 adds none
pub still_open : (r : Record) (records : List Record) → (r.kind ≡ 1 → ⊥) → (Ended records → ⊥) → Ended (r ∷ records) → ⊥
unfolding Ended
still_open r records other before (s, Memᴰ.head e, kind) = other (sym (ap (λ (q : Record). q.kind) e) ∙ kind)
still_open r records other before (s, Memᴰ.tail m, kind) = before (s, m, kind)
