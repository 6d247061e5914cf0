-- The digits of a number, and those of its tenth or sixteenth. Assumes nothing.
use mathlib.Core.Path.{◌≡◌, refl, ap, sym, ◌∙◌}
use mathlib.Core.Logic.{⊎_elim}
use mathlib.Core.List.{List, [], ◌∷◌, ◌++◌, append_assoc}
use Prim.Native.Nat.{ℕ, zero, suc, ◌+◌, ◌-◌, ◌*◌, ◌/◌, ◌%◌, ◌^◌, ◌<◌, ◌≤◌}
use native.Mathlib.Nat.{pow-succ'}
use native.Mathlib.Omega.{arith}
use lib.ListN.{length, get_or, length-append, get_or-append}
use borrow.Author.Tests.{lt-ltb, le-ltb}
use Rattle.text.specs.Digits.{decimal_by, decimal, hex_digit, hexadecimal, read_on, figure}
use Rattle.text.proofs.Writing.{within}

-- one digit, by any divisions
by_one : (k n : ℕ) → n < 10 → decimal_by k n ≡ (48 + n) ∷ []
unfolding decimal_by
by_one zero n h = refl
by_one (suc k) n h = rw (lt-ltb n 10 h)

-- as many divisions as the number, or more, give the same digits
by_enough : (k m n : ℕ) → n ≤ k → n ≤ m → decimal_by k n ≡ decimal_by m n
unfolding decimal_by
by_enough zero m n h g = by_one zero n (omega arith) ∙ sym (by_one m n (omega arith))
by_enough (suc k) zero n h g = by_one (suc k) n (omega arith) ∙ sym (by_one zero n (omega arith))
by_enough (suc k) (suc m) n h g = rw (by_enough k m (n / 10) (omega arith) (omega arith))

-- a number below 10 is its digit
pub decimal_one : (n : ℕ) → n < 10 → decimal n ≡ hex_digit n ∷ []
unfolding decimal hex_digit
decimal_one n h = rw (lt-ltb n 10 h) (by_one n n h)

-- any other has the digits of its tenth, and its last
pub decimal_more : (n : ℕ) → 10 ≤ n → decimal n ≡ decimal (n / 10) ++ hex_digit (n % 10) ∷ []
unfolding decimal hex_digit
decimal_more zero h = absurd (omega arith)
decimal_more (suc k) h =
    unfold decimal_by in
    rw (le-ltb (suc k) 10 h, lt-ltb (suc k % 10) 10 (omega arith)) (ap (λ (l : List ℕ). l ++ (48 + suc k % 10) ∷ []) (by_enough k (suc k / 10) (suc k / 10) (omega arith) (omega arith)))

-- no digit in base 16
pub hexadecimal_none : (k n : ℕ) → k ≤ 0 → hexadecimal k n ≡ []
unfolding hexadecimal
hexadecimal_none zero n none = refl
hexadecimal_none (suc k) n none = absurd (omega arith)

-- some digits in base 16 are one less of its sixteenth, and its last
pub hexadecimal_more : (k n : ℕ) → 0 < k → hexadecimal k n ≡ hexadecimal (k - 1) (n / 16) ++ hex_digit (n % 16) ∷ []
unfolding hexadecimal
hexadecimal_more zero n h = absurd (omega arith)
hexadecimal_more (suc k) n h =
    let same : k ≡ suc k - 1 = omega arith in
    ap (λ (j : ℕ). hexadecimal j (n / 16) ++ hex_digit (n % 16) ∷ []) same

-- two digits more in base 16 are those of a byte behind the number
pub hexadecimal_byte : (k n b : ℕ) → b < 256 → hexadecimal (suc (suc k)) (256 * n + b) ≡ hexadecimal k n ++ hexadecimal 2 b
unfolding hexadecimal
hexadecimal_byte k n b h =
    let front : (256 * n + b) / 16 / 16 ≡ n = omega arith in
    let first : (256 * n + b) / 16 % 16 ≡ b / 16 % 16 = omega arith in
    let second : (256 * n + b) % 16 ≡ b % 16 = omega arith in
    rw (front, first, second) (append_assoc (hexadecimal k n) _ _)

-- a number below a power of ten has at most so many digits
pub decimal_short : (k n : ℕ) → n < 10 ^ suc k → length (decimal n) ≤ suc k
decimal_short zero n h = rw (decimal_one n (omega (arith, h))) (omega arith)
decimal_short (suc k) n h =
    ⊎_elim (λ small. rw (decimal_one n (omega arith)) (omega arith))
    (λ large.
    let tenth : n / 10 < 10 ^ suc k = omega (arith, pow-succ' 10 (suc k)) in
    rw (decimal_more n (omega arith), length-append) (omega (arith, decimal_short k (n / 10) tenth)))
    (within n 9)

-- as many digits in base 16 as are asked for
pub hexadecimal_length : (k n : ℕ) → length (hexadecimal k n) ≡ k
unfolding hexadecimal
hexadecimal_length zero n = refl
hexadecimal_length (suc k) n = rw (length-append, hexadecimal_length k (n / 16)) (omega arith)

-- reading joined digits
read_append : (base : ℕ) (value : ℕ → ℕ) (n : ℕ) (xs ys : List ℕ) → read_on base value n (xs ++ ys) ≡ read_on base value (read_on base value n xs) ys
unfolding read_on
read_append base value n [] ys = refl
read_append base value n (x ∷ xs) ys = read_append base value (base * n + value x) xs ys

-- digits by enough divisions stand for the number
by_reads : (k n : ℕ) → n ≤ k → read_on 10 figure 0 (decimal_by k n) ≡ n
unfolding decimal_by read_on
by_reads zero n h = omega arith
by_reads (suc k) n h =
    ⊎_elim (λ small. rw (lt-ltb n 10 (omega arith)) (omega arith))
    (λ large. rw (le-ltb n 10 (omega arith), read_append, by_reads k (n / 10) (omega arith)) (omega arith))
    (within n 9)

-- the decimal digits of a number stand for it
pub decimal_reads : (n : ℕ) → read_on 10 figure 0 (decimal n) ≡ n
unfolding decimal
decimal_reads n = by_reads n n (omega arith)

-- the first digit, by enough divisions
by_lead : (k n : ℕ) → n ≤ k → 0 < n → (48 < get_or (decimal_by k n) 0 0) × (0 < length (decimal_by k n))
unfolding decimal_by
by_lead zero n h some = absurd (omega arith)
by_lead (suc k) n h some =
    ⊎_elim (λ small. rw (lt-ltb n 10 (omega arith)) (omega arith, omega arith))
    (λ large.
    let (lead, long) = by_lead k (n / 10) (omega arith) (omega arith) in
    rw (le-ltb n 10 (omega arith), get_or-append, length-append) (lead, omega arith))
    (within n 9)

-- the first of them is no zero, but for the number 0
pub decimal_lead : (n : ℕ) → 0 < n → 48 < get_or (decimal n) 0 0
unfolding decimal
decimal_lead n some = (by_lead n n (omega arith) some).0
