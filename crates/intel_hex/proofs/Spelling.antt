-- The bytes that a line spells, by their places in it. Assumes nothing.
use mathlib.Core.Path.{◌≡◌, refl, ap, ap₂, sym, ◌∙◌}
use mathlib.Core.Bool.{Bool, true, false, cond, false≢true}
use mathlib.Core.List.{List, [], ◌∷◌, ◌++◌}
use Prim.Native.Nat.{ℕ, zero, suc, ◌+◌, ◌*◌, ◌<◌, ◌≤◌}
use native.Mathlib.Omega.{arith}
use lib.Dec.{eqb}
use lib.ListN.{length, drop}
use borrow.Author.Tests.{eqb-true}
use Rattle.std.specs.Prelude.{slice_index}
use Rattle.text.proofs.Tests.{both_hold}
use Rattle.intel_hex.specs.Lines.{LF, CR}
use Rattle.intel_hex.specs.Records.{LineEnd, lf, cr_lf, Spells, end, byte}
use Rattle.intel_hex.specs.Reading.{digit_of, is_pair, pairs_in, is_end, worth, byte_at, bytes_at}
use Rattle.intel_hex.proofs.Values.{worth_below, digits_pair, pair_digits, digits_byte}

-- a line's end is told
pub end_told : {text : List ℕ} → LineEnd text → is_end text ≡ true
unfolding is_end
end_told lf = refl
end_told cr_lf = refl

-- what is told a line's end is one
pub end_is : (text : List ℕ) → is_end text ≡ true → LineEnd text
unfolding is_end
end_is [] h = absurd (false≢true h)
end_is (a ∷ []) h = rw (eqb-true a LF h) lf
end_is (a ∷ b ∷ []) h =
    let (first, second) = both_hold (eqb a CR) (eqb b LF) h in
    rw (eqb-true a CR first, eqb-true b LF second) cr_lf
end_is (a ∷ b ∷ c ∷ text) h = absurd (false≢true h)

-- a byte is below 256
pub byte_small : (line : List ℕ) (i : ℕ) → byte_at line i < 256
unfolding byte_at
byte_small line i = omega (arith, worth_below (slice_index line i), worth_below (slice_index line (suc i)))

-- bytes behind a first character
pub bytes_shift : (a : ℕ) (line : List ℕ) (i n : ℕ) → bytes_at (a ∷ line) (suc i) n ≡ bytes_at line i n
unfolding bytes_at byte_at
bytes_shift a line i zero = refl
bytes_shift a line i (suc n) = ap (λ (l : List ℕ). byte_at line i ∷ l) (bytes_shift a line (suc (suc i)) n)

-- as many bytes as were asked for
pub bytes_length : (line : List ℕ) (i n : ℕ) → length (bytes_at line i n) ≡ n
unfolding bytes_at
bytes_length line i zero = refl
bytes_length line i (suc n) = ap suc (bytes_length line (suc (suc i)) n)

-- one byte more
pub bytes_more : (line : List ℕ) (i n : ℕ) → bytes_at line i (suc n) ≡ bytes_at line i n ++ (byte_at line (i + 2 * n) ∷ [])
unfolding bytes_at
bytes_more line i zero =
    let here : i ≡ i + 2 * 0 = omega arith in
    ap (λ (k : ℕ). byte_at line k ∷ []) here
bytes_more line i (suc n) =
    let there : suc (suc i) + 2 * n ≡ i + 2 * suc n = omega arith in
    ap (λ (l : List ℕ). byte_at line i ∷ l)
    (bytes_more line (suc (suc i)) n ∙ ap (λ (k : ℕ). bytes_at line (suc (suc i)) n ++ (byte_at line k ∷ [])) there)

-- what spells bytes begins with as many pairs of digits
pub spells_pairs : {text bytes : List ℕ} → Spells text bytes → pairs_in text ≡ length bytes
unfolding pairs_in is_pair digit_of
spells_pairs (end lf) = refl
spells_pairs (end cr_lf) = refl
spells_pairs (byte p q more) = rw (digits_pair p q, spells_pairs more)

-- behind them the line ends
pub spells_end : {text bytes : List ℕ} → Spells text bytes → LineEnd (drop (2 * length bytes) text)
spells_end (end e) = e
spells_end (byte {bytes} p q more) =
    let two : 2 * suc (length bytes) ≡ suc (suc (2 * length bytes)) = omega arith in
    rw two (spells_end more)

-- they are the bytes at their places
pub spells_bytes : {text bytes : List ℕ} → Spells text bytes → bytes ≡ bytes_at text 0 (length bytes)
unfolding bytes_at byte_at
spells_bytes (end e) = refl
spells_bytes (byte {a} {b} {text} {bytes} p q more) =
    ap₂ (λ (v : ℕ) (l : List ℕ). v ∷ l) (sym (digits_byte p q))
    (spells_bytes more ∙ sym (bytes_shift a (b ∷ text) 1 (length bytes) ∙ bytes_shift b text 0 (length bytes)))

-- pairs of digits up to a line's end spell their bytes
pub pairs_spell : (text : List ℕ) (n : ℕ) → n ≤ pairs_in text → LineEnd (drop (2 * n) text) → Spells text (bytes_at text 0 n)
unfolding pairs_in bytes_at byte_at
pairs_spell text zero h e = end e
pairs_spell [] (suc n) h e = absurd (omega arith)
pairs_spell (a ∷ []) (suc n) h e = absurd (omega arith)
pairs_spell (a ∷ b ∷ text) (suc n) h e = go (is_pair a b) refl h (λ k. pairs_spell text n k)
  where
    two : 2 * suc n ≡ suc (suc (2 * n))
    two = omega arith

    go : (t : Bool) → is_pair a b ≡ t → suc n ≤ cond t (suc (pairs_in text)) 0
        → (n ≤ pairs_in text → LineEnd (drop (2 * n) text) → Spells text (bytes_at text 0 n))
        → Spells (a ∷ b ∷ text) ((16 * worth a + worth b) ∷ bytes_at (a ∷ b ∷ text) 2 n)
    go false is h more = absurd (omega arith)
    go true is h more =
        let (p, q) = pair_digits a b is in
        let there : bytes_at (a ∷ b ∷ text) 2 n ≡ bytes_at text 0 n = bytes_shift a (b ∷ text) 1 n ∙ bytes_shift b text 0 n in
        rw (there, digits_byte p q) (byte p q (more (omega arith) (rw two at e)))
