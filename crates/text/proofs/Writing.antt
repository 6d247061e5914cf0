-- What writing leaves, a byte at a time and one text after another. Assumes nothing.
use mathlib.Core.Path.{◌≡◌, refl, ap, sym, ◌∙◌}
use mathlib.Core.Bool.{Bool, true, false}
use mathlib.Core.Logic.{◌⊎◌, inl, inr, ⊎_elim}
use mathlib.Core.List.{List, [], ◌∷◌, ◌++◌}
use Prim.Native.Nat.{ℕ, suc, ◌+◌, ◌-◌, ◌<◌, ◌≤◌}
use native.Mathlib.Nat.{add-zero, min-eq_left, min-eq_right, le_of_lt}
use native.Mathlib.Numerals.{add-one}
use native.Mathlib.Omega.{arith}
use lib.Dec.{leb}
use lib.ListN.{length, set, take, get_or, length-append}
use lib.Seq.{sets, length-sets, set_out, sets-eq, take_at, take-suc}
use borrow.Author.Tests.{leb-true, leb-false}
use Rattle.text.specs.Written.{written, place_after, Wrote, Adds}
use Rattle.text.specs.declared.Buffer.{Buffer}

-- stores past the end leave all as it is
sets_out : (l : List ℕ) (i : ℕ) (vs : List ℕ) → length l ≤ i → sets l i vs ≡ l
sets_out l i [] h = refl
sets_out l i (v ∷ vs) h = rw (set_out l i v) (sets_out l (suc i) vs (omega arith))

-- stores of joined lists
sets_append : (l : List ℕ) (i : ℕ) (xs ys : List ℕ) → sets l i (xs ++ ys) ≡ sets (sets l i xs) (i + length xs) ys
sets_append l i [] ys = rw add-zero
sets_append l i (x ∷ xs) ys =
    let same : suc i + length xs ≡ i + suc (length xs) = omega arith in
    sets_append (set l i x) (suc i) xs ys ∙ ap (λ (k : ℕ). sets (sets (set l i x) (suc i) xs) k ys) same

-- a number is at most another, or the other is below it
pub within : (m n : ℕ) → (m ≤ n) ⊎ (n < m)
within m n = go (leb m n) refl
  where
    go : (b : Bool) → leb m n ≡ b → (m ≤ n) ⊎ (n < m)
    go true e = inl (leb-true m n e)
    go false e = inr (leb-false m n e)

-- n bytes fit
place_fits : (size at n : ℕ) → n ≤ size - at → place_after size at n ≡ at + n
unfolding place_after
place_fits size at n h = rw (min-eq_left h)

-- fewer than n bytes fit
place_full : (size at n : ℕ) → size - at < n → place_after size at n ≡ at + (size - at)
unfolding place_after
place_full size at n h = rw (min-eq_right (le_of_lt h))

-- the place after both is the place after the second from the place after the first
place_joined : (size at m n : ℕ) → place_after size (place_after size at m) n ≡ place_after size at (m + n)
place_joined size at m n =
    ⊎_elim (λ h. rw (place_fits size at m h) (unfold place_after in omega arith))
    (λ h. rw (place_full size at m h) (unfold place_after in omega arith))
    (within m (size - at))

-- stores from the place after some bytes are stores from behind all of them
sets_after : (l : List ℕ) (at n : ℕ) (vs : List ℕ) → sets l (place_after (length l) at n) vs ≡ sets l (at + n) vs
sets_after l at n vs =
    ⊎_elim (λ h. rw (place_fits (length l) at n h))
    (λ h. rw (place_full (length l) at n h) (sets_out l (at + (length l - at)) vs (omega arith) ∙ sym (sets_out l (at + n) vs (omega arith))))
    (within n (length l - at))

-- nothing is written
pub wrote_none : (out : List ℕ) (at : ℕ) → Wrote out at [] at out
unfolding written place_after
wrote_none out at = record { holds = refl; place = omega arith }

-- a byte that fits
pub wrote_inside : {out : List ℕ} {at : ℕ} (byte : ℕ) → at < length out → Wrote out at (byte ∷ []) (at + 1) (set out at byte)
unfolding written place_after
wrote_inside byte h = record { holds = refl; place = omega arith }

-- a byte past the end
pub wrote_outside : {out : List ℕ} {at : ℕ} (byte : ℕ) → length out ≤ at → Wrote out at (byte ∷ []) at out
unfolding written place_after
wrote_outside {out} {at} byte h = record { holds = sym (set_out out at byte h); place = omega arith }

-- one text and then another: both
pub wrote_both : {out mid after xs ys : List ℕ} {at i j : ℕ} → Wrote out at xs i mid → Wrote mid i ys j after → Wrote out at (xs ++ ys) j after
unfolding written
wrote_both {out} {mid} {after} {xs} {ys} {at} {i} {j} first second =
    let same : length mid ≡ length out = ap length first.holds ∙ length-sets out at xs in
    let from : i ≡ place_after (length mid) at (length xs) = rw same first.place in
    record {
      holds =
          second.holds ∙ rw from (sets_after mid at (length xs) ys) ∙ ap (λ (l : List ℕ). sets l (at + length xs) ys) first.holds
          ∙ sym (sets_append out at xs ys);
      place =
          second.place ∙ rw (from, same) (place_joined (length out) at (length xs) (length ys))
          ∙ ap (place_after (length out) at) (sym (length-append xs ys));
    }

-- a text is as long as the buffer it is written to
pub wrote_length : {out bytes after : List ℕ} {at next : ℕ} → Wrote out at bytes next after → length after ≡ length out
unfolding written
wrote_length {out} {bytes} {after} {at} w = ap length w.holds ∙ length-sets out at bytes

-- the place after a text is inside the buffer, or at its end, where it began so
pub wrote_end : {out bytes after : List ℕ} {at next : ℕ} → Wrote out at bytes next after → at ≤ length out → next ≤ length after
unfolding place_after
wrote_end w h = omega (arith, w.place, wrote_length w)

-- a text that fits stands whole before the next place
pub wrote_whole : {out bytes after : List ℕ} {next : ℕ} → Wrote out 0 bytes next after → length bytes ≤ length out → take next after ≡ bytes
unfolding written
wrote_whole {out} {bytes} w fits =
    let end = w.place ∙ place_fits (length out) 0 (length bytes) (omega arith) in
    let inside : 0 + length bytes ≤ length out = omega arith in
    rw (w.holds, end, sets-eq bytes out 0 inside) (take_at bytes _ (0 + length bytes) (omega arith))

-- a buffer as it was, with nothing written
pub adds_none : (b : Buffer) → Adds b [] b
adds_none b = record { wrote = wrote_none _ _; same_area = refl }

-- one text and then another: both
pub adds_both : {a b c : Buffer} {xs ys : List ℕ} → Adds a xs b → Adds b ys c → Adds a (xs ++ ys) c
adds_both first second = record { wrote = wrote_both first.wrote second.wrote; same_area = second.same_area ∙ first.same_area }

-- so many bytes of a text, and then the next of them: one more
pub adds_next : {a b c : Buffer} (bytes : List ℕ) (n : ℕ) → n < length bytes → Adds a (take n bytes) b → Adds b (get_or bytes n 0 ∷ []) c
    → Adds a (take (n + 1) bytes) c
adds_next bytes n h first second = rw (add-one, take-suc bytes n 0) (adds_both first second)
