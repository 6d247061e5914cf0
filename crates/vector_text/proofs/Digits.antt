-- Hex digits, and the number that they stand for, one digit after another. Assumes nothing.
use Rattle.std.proofs.Common.{◌≡◌, refl, ℕ, ◌+◌, ◌*◌, ◌%◌, ◌^◌, ◌<◌, List, [], ◌∷◌, ◌++◌, length, get_or, take, arith}
use Rattle.std.proofs.lemmas.List.{take_more}
use Rattle.text.specs.Digits.{read_on}
use Rattle.vector_text.specs.Hex.{digit_of, value_of}

-- a digit behind others
read_push : (n : ℕ) (text : List ℕ) (b : ℕ) → read_on 16 digit_of n (text ++ b ∷ []) ≡ 16 * read_on 16 digit_of n text + digit_of b
unfolding read_on
read_push n [] b = refl
read_push n (d ∷ text) b = read_push (16 * n + digit_of d) text b

-- the rest of the number by 2^64, with one digit more
pub value_more : (text : List ℕ) (i sum : ℕ) → i < length text → sum ≡ value_of (take i text) % 2 ^ 64
    → (sum * 16 % 2 ^ 64 + digit_of (get_or text i 0)) % 2 ^ 64 ≡ value_of (take (i + 1) text) % 2 ^ 64
unfolding value_of
value_more text i sum h is = rw (take_more text i 0 h, read_push 0 (take i text) (get_or text i 0)) (omega arith)

-- no digit yet
pub value_none : 0 ≡ value_of [] % 2 ^ 64
unfolding value_of read_on
value_none = refl
