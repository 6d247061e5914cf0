-- An integer is a signed number of the size exactly if it is the signed meaning of its own rest. Assumes nothing.
use Rattle.std.proofs.Common.{◌≡◌, ℕ, suc, ◌+◌, ◌-◌, ◌<◌, false, ltb, leb, ℤ, pos, negsuc, sym, ap, ◌∙◌, mod-eq_of_lt, arith, ltb-false, le-ltb, lt-ltb, leb-false}
use native.Mathlib.Decide.{dec_lt}
use borrow.Author.Tests.{lt-leb}
use Rattle.width.specs.declared.Size.{Size}
use Rattle.width.specs.Sizes.{modulus, half}
use Rattle.width.specs.Numbers.{residue, rest, meaning, signed, outside}
use Rattle.width.proofs.Differences.{is_negsuc, natural}
use Rattle.width.proofs.Widths.{Numbers, numbers, rest_below, outside_of}

-- a natural is no signed number of the size if it is half at least
outside_pos : (w : Size) (n : ℕ) → outside w (pos n) ≡ leb (half w) n
outside_pos w n =
    ap (outside w) (natural n) ∙ outside_of w n 0
    ∙ rw (le-ltb n 0 (omega arith)) (ap (leb (half w)) (omega arith))

-- an integer below zero is none if it lies further below than half
outside_negsuc : (w : Size) (n : ℕ) → outside w (negsuc n) ≡ ltb (half w) (suc n)
outside_negsuc w n =
    ap (outside w) (sym (is_negsuc 0 (suc n) n (omega arith))) ∙ outside_of w 0 (suc n)
    ∙ rw (lt-ltb 0 (suc n) (omega arith)) (ap (ltb (half w)) (omega arith))

-- a signed meaning is a signed number of the size
inside : (w : Size) (v : ℕ) → v < modulus w → outside w (signed w v) ≡ false
unfolding signed meaning
inside w v b = by (dec_lt v (half w))
  where
    nums : Numbers w
    nums = numbers w

    by : Dec (v < half w) → outside w (signed w v) ≡ false
    by (yes h) = rw (lt-ltb v (half w) h, outside_pos w v) (lt-leb (half w) v h)
    by (no h) =
        rw
        (le-ltb v (half w) (omega arith), outside_of w v (half w + half w), lt-ltb v (half w + half w) (omega (arith, nums)))
        (le-ltb (half w) (half w + half w - v) (omega arith))

-- an integer that is the low half extended by sign is a signed number of the size
pub fits : (w : Size) (z : ℤ) → signed w (rest w z) ≡ z → outside w z ≡ false
fits w z h = rw (← h) (inside w (rest w z) (rest_below w z))

-- a signed number of the size is its low half extended by sign
pub extends : (w : Size) (z : ℤ) → outside w z ≡ false → signed w (rest w z) ≡ z
unfolding signed meaning rest residue
extends w (pos n) h =
    let nums = numbers w in
    let small : n < half w = leb-false (half w) n (sym (outside_pos w n) ∙ h) in
    rw (mod-eq_of_lt {n = n} {m = modulus w} (omega arith), lt-ltb n (half w) small)
extends w (negsuc n) h =
    let nums = numbers w in
    let small : n < half w = ltb-false (half w) (suc n) (sym (outside_negsuc w n) ∙ h) in
    rw
    (mod-eq_of_lt {n = n} {m = modulus w} (omega arith), le-ltb (modulus w - 1 - n) (half w) (omega arith))
    (is_negsuc (modulus w - 1 - n) (half w + half w) n (omega arith))
