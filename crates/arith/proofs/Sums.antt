-- Sums and differences over the integers as one difference of naturals, unsigned and signed. Assumes nothing.
use mathlib.Core.Path.{◌≡◌, ap, ap₂, ◌∙◌}
use mathlib.Core.Bool.{Bool}
use Prim.Native.Nat.{ℕ, ◌+◌}
use native.Mathlib.Omega.{arith}
use lib.IntN.{pos, sub_ℕ, ◌-ℤ◌}
use Rattle.width.specs.declared.Size.{Size}
use Rattle.width.specs.Sizes.{modulus, half}
use Rattle.width.specs.Numbers.{bit, beyond, signed, Ranked}
use Rattle.width.proofs.Differences.{natural, added, subtracted, same}
use Rattle.width.proofs.Widths.{numbers}
use Rattle.arith.specs.Sums.{sum, difference, carries}

-- an unsigned sum
pub sum_natural : (c : Bool) (a b : ℕ) → sum c (pos a) (pos b) ≡ sub_ℕ (a + b + bit c) 0
sum_natural c a b = natural (a + b + bit c)

-- an unsigned difference
pub difference_natural : (c : Bool) (a b : ℕ) → difference c (pos a) (pos b) ≡ sub_ℕ a (b + bit c)
difference_natural c a b =
    ap₂ ◌-ℤ◌ (natural a) (natural (b + bit c)) ∙ subtracted a 0 (b + bit c) 0
    ∙ same (a + 0) (0 + (b + bit c)) a (b + bit c) (omega arith)

-- a signed sum, from the ranks
pub sum_ranked : (c : Bool) (w : Size) (a b r s : ℕ) → Ranked w a r → Ranked w b s → sum c (signed w a) (signed w b) ≡ sub_ℕ (r + s + bit c) (modulus w)
sum_ranked c w a b r s h k =
    let nums = numbers w
    in
    rw (h.meant, k.meant, added r (half w) s (half w), natural (bit c), added (r + s) (half w + half w) (bit c) 0)
    (same (r + s + bit c) (half w + half w + 0) (r + s + bit c) (modulus w) (omega arith))

-- a signed difference, from the ranks
pub difference_ranked : (c : Bool) (w : Size) (a b r s : ℕ) → Ranked w a r → Ranked w b s → difference c (signed w a) (signed w b) ≡ sub_ℕ r (s + bit c)
difference_ranked c w a b r s h k =
    rw (h.meant, k.meant, natural (bit c), added s (half w) (bit c) 0, subtracted r (half w) (s + bit c) (half w + 0))
    (same (r + (half w + 0)) (half w + (s + bit c)) r (s + bit c) (omega arith))

-- CF after a difference
pub difference_carries : (c : Bool) (w : Size) (a b : ℕ) → carries (difference c) w a b ≡ beyond (modulus w) (sub_ℕ a (b + bit c))
unfolding carries
difference_carries c w a b = ap (beyond (modulus w)) (difference_natural c a b)
