-- PF is set if the low byte of the result holds an even number of ones: it is the exclusive or of the eight bits, negated. Assumes nothing.
use mathlib.Core.Path.{◌≡◌, refl}
use mathlib.Core.Bool.{Bool, true, false, not, xor}
use Prim.Native.Nat.{ℕ, zero, suc, ◌+◌, ◌/◌, ◌%◌, ◌^◌, ◌<◌}
use native.Mathlib.Nat.{zero-add, div-one, mod-lt}
use native.Mathlib.Omega.{arith}
use lib.Dec.{eqb}
use lib.Count.{ones, ones_cat}
use lib.Pow.{pow_pos, mod-pow-add}
use borrow.Author.Tests.{eq-eqb, ne_eqb, eqb-true, eqb-false}
use Rattle.width.specs.Numbers.{bit_at}
use Rattle.flags.specs.Results.{parity}

-- the exclusive or of bits 0 to k
abbrev exclusive : ℕ → ℕ → Bool
exclusive zero v = bit_at 0 v
exclusive (suc k) v = xor (bit_at (suc k) v) (exclusive k v)

-- the count of ones is even
abbrev even : ℕ → Bool
even n = eqb (ones n % 2) 0

-- a digit counts as itself
ones_digit : (d : ℕ) → d < 2 → ones d ≡ d
unfolding ones
ones_digit zero h = refl
ones_digit (suc zero) h = refl
ones_digit (suc (suc d)) h = absurd (omega arith)

-- alone it is even unless it is 1
digit_even : (d : ℕ) → d < 2 → eqb (d % 2) 0 ≡ not (eqb d 1)
digit_even zero h = refl
digit_even (suc zero) h = refl
digit_even (suc (suc d)) h = absurd (omega arith)

-- added to a count, it turns even into odd and odd into even if it is 1
turned : (d n : ℕ) (odd : Bool) → d < 2 → eqb (n % 2) 0 ≡ not odd → eqb ((d + n) % 2) 0 ≡ not (xor (eqb d 1) odd)
unfolding xor
turned zero n true h e = rw (zero-add n) e
turned zero n false h e = rw (zero-add n) e
turned (suc zero) n true h e = let other = eqb-false (n % 2) 0 e in eq-eqb ((1 + n) % 2) 0 (omega arith)
turned (suc zero) n false h e = let none = eqb-true (n % 2) 0 e in ne_eqb ((1 + n) % 2) 0 (λ (more : (1 + n) % 2 ≡ 0). omega arith)
turned (suc (suc d)) n odd h e = absurd (omega arith)

-- the bits 0 to k hold an even number of ones exactly if their exclusive or is 0
low_bits : (k v : ℕ) → even (v % 2 ^ suc k) ≡ not (exclusive k v)
unfolding bit_at
low_bits zero v =
    let small : v % 2 < 2 = omega arith in
    rw (ones_digit (v % 2) small, div-one v) (digit_even (v % 2) small)
low_bits (suc k) v =
    let d = v / 2 ^ suc k % 2 in
    let small : d < 2 = omega arith in
    let one_more : suc (suc k) ≡ 1 + suc k = omega arith in
    rw (one_more, mod-pow-add v 1 (suc k), ones_cat (suc k) d (v % 2 ^ suc k) (mod-lt v (pow_pos (suc k))), ones_digit d small)
    (turned d (ones (v % 2 ^ suc k)) (exclusive k v) small (low_bits k v))

-- PF: the exclusive or of the eight bits, negated
pub parity_exclusive : (v : ℕ)
    → parity v ≡ not (xor (bit_at 7 v) (xor (bit_at 6 v) (xor (bit_at 5 v) (xor (bit_at 4 v) (xor (bit_at 3 v) (xor (bit_at 2 v) (xor (bit_at 1 v) (bit_at 0 v))))))))
unfolding parity
parity_exclusive v = low_bits 7 v
