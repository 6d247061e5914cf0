-- The bytes that digits stand for, one by one, and areas that hold them. Assumes nothing.
use Rattle.std.proofs.Common.{◌≡◌, refl, ap, ℕ, zero, suc, ◌+◌, ◌*◌, ◌/◌, ◌<◌, ◌≤◌, Bool, eqb, List, [], ◌∷◌, ◌++◌, length, get_or, take, drop, set, add-one, arith, get_or-drop, drop-drop}
use Rattle.std.specs.List.{list_all, enumerate_from}
use Rattle.std.proofs.lemmas.List.{take_more_set}
use lib.ListN.{get_or-eq_default}
use Rattle.vector_text.specs.Hex.{digit_of, bytes_of, padded, equal}

-- two digits a byte
pub bytes_length : (text : List ℕ) → length (bytes_of text) ≡ length text / 2
unfolding bytes_of
bytes_length [] = refl
bytes_length (a ∷ []) = refl
bytes_length (a ∷ b ∷ text) = rw (bytes_length text) (omega arith)

-- the byte of an index is that of its two digits
pub byte_inside : (text : List ℕ) (i : ℕ) → i < length text / 2
    → get_or (bytes_of text) i 0 ≡ digit_of (get_or text (i * 2) 0) * 16 + digit_of (get_or text (i * 2 + 1) 0)
unfolding bytes_of
byte_inside [] i h = absurd (omega arith)
byte_inside (a ∷ []) i h = absurd (omega arith)
byte_inside (a ∷ b ∷ text) zero h = omega arith
byte_inside (a ∷ b ∷ text) (suc i) h =
    let first : suc i * 2 ≡ suc (suc (i * 2)) = omega arith in
    let second : suc i * 2 + 1 ≡ suc (suc (i * 2 + 1)) = omega arith in
    rw (second, first) (byte_inside text i (omega arith))

-- behind the bytes
pub byte_outside : (text : List ℕ) (i : ℕ) → length text / 2 ≤ i → get_or (bytes_of text) i 0 ≡ 0
byte_outside text i h = get_or-eq_default (bytes_of text) 0 (rw (bytes_length text) h)

-- one byte more
padded_more : (n : ℕ) (bytes : List ℕ) → padded (suc n) bytes ≡ padded n bytes ++ (get_or bytes n 0 ∷ [])
unfolding padded
padded_more zero [] = refl
padded_more zero (b ∷ bytes) = refl
padded_more (suc n) [] = ap (λ (l : List ℕ). 0 ∷ l) (padded_more n [])
padded_more (suc n) (b ∷ bytes) = ap (λ (l : List ℕ). b ∷ l) (padded_more n bytes)

-- the first byte, and those behind it
padded_first : (n : ℕ) (bytes : List ℕ) → padded (suc n) bytes ≡ get_or bytes 0 0 ∷ padded n (drop 1 bytes)
unfolding padded
padded_first n [] = refl
padded_first n (b ∷ bytes) = refl

-- so many bytes are filled, and then the next
pub fill_goes : (area bytes : List ℕ) (i : ℕ) → i < length area → take i area ≡ padded i bytes
    → take (i + 1) (set area i (get_or bytes i 0)) ≡ padded (i + 1) bytes
fill_goes area bytes i h done = rw (take_more_set area i (get_or bytes i 0) h, add-one, padded_more, done)

-- a byte of an area is that of the bytes at its index
abbrev pub is_there : List ℕ → ℕ × ℕ → Bool
is_there bytes p = eqb p.1 (get_or bytes p.0 0)

-- all bytes of an area, from an index on
pub all_there : (area bytes : List ℕ) (n : ℕ) → list_all (is_there bytes) (enumerate_from n area) ≡ equal area (padded (length area) (drop n bytes))
unfolding padded
all_there [] bytes n = refl
all_there (a ∷ area) bytes n =
    let here : n + 0 ≡ n = omega arith in
    rw (padded_first (length area) (drop n bytes), get_or-drop, here, drop-drop, all_there area bytes (n + 1))
