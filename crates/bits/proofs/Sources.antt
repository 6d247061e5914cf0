-- What a double shift leaves, bit by bit: 003's Operation of SHLD and SHRD. Assumes nothing.
use mathlib.Core.Path.{◌≡◌, ap, ◌∙◌}
use Prim.Native.Nat.{ℕ, ◌+◌, ◌-◌, ◌*◌, ◌/◌, ◌^◌, ◌<◌, ◌≤◌}
use native.Mathlib.Nat.{mod-eq_of_lt, mul-one, div-one}
use native.Mathlib.Omega.{arith}
use lib.Pow.{high, low, shl-shr}
use Rattle.width.specs.declared.Size.{Size}
use Rattle.width.specs.Sizes.{bits, modulus}
use Rattle.width.specs.Numbers.{bit_at}
use Rattle.bits.specs.declared.DoubleShift.{DoubleShift}
use Rattle.bits.specs.declared.DoubleShift.TheVariants.{Shld, Shrd}
use Rattle.bits.specs.Doubles.{double_moved}
use Rattle.bits.proofs.Bits.{bit_of_low, bit_of_high, in_low, in_high}
use Rattle.bits.proofs.Moved.{upper_half}

module _ (w : Size) (d s : ℕ) (in_d : d < modulus w) (in_s : s < modulus w) where
  -- by none, the destination stays
  pub none_moved : (op : DoubleShift) → double_moved op w d s 0 ≡ d
  unfolding double_moved modulus
  none_moved Shld = rw (mul-one (d * 2 ^ bits w + s), high d (bits w) in_s) (mod-eq_of_lt in_d)
  none_moved Shrd = rw (div-one (s * 2 ^ bits w + d)) (low s (bits w) in_d)

  -- by the width, the source takes its place
  pub replaced : (op : DoubleShift) → double_moved op w d s (bits w) ≡ s
  unfolding double_moved modulus
  replaced Shld = rw (shl-shr (d * 2 ^ bits w + s) (bits w)) (low d (bits w) in_s)
  replaced Shrd = rw (high s (bits w) in_d) (mod-eq_of_lt in_s)

  module _ (k i : ℕ) (to_width : k ≤ bits w) (in_width : i < bits w) where
    -- SHLD: bit i is one of the double number's from the width less k on
    shld_bit : bit_at i (double_moved Shld w d s k) ≡ bit_at (bits w - k + i) (d * 2 ^ bits w + s)
    unfolding double_moved modulus
    shld_bit =
        bit_of_low i (bits w) ((d * 2 ^ bits w + s) * 2 ^ k / 2 ^ bits w) in_width
        ∙ ap (bit_at i) (upper_half w k (d * 2 ^ bits w + s) to_width) ∙ bit_of_high i (bits w - k) (d * 2 ^ bits w + s)

    -- SHRD: one from k on
    shrd_bit : bit_at i (double_moved Shrd w d s k) ≡ bit_at (k + i) (s * 2 ^ bits w + d)
    unfolding double_moved modulus
    shrd_bit =
        bit_of_low i (bits w) ((s * 2 ^ bits w + d) / 2 ^ k) in_width ∙ bit_of_high i k (s * 2 ^ bits w + d)

    -- SHLD: from k on the destination's bits, k places down
    pub shld_destination : k ≤ i → bit_at i (double_moved Shld w d s k) ≡ bit_at (i - k) d
    unfolding modulus
    shld_destination h =
        let place : bits w - k + i ≡ bits w + (i - k) = omega arith
        in
        shld_bit ∙ rw place (in_high (bits w) d in_s (i - k))

    -- SHLD: below k the source's highest
    pub shld_source : i < k → bit_at i (double_moved Shld w d s k) ≡ bit_at (i + bits w - k) s
    unfolding modulus
    shld_source h =
        let place : bits w - k + i ≡ i + bits w - k = omega arith
        in
        shld_bit ∙ rw place (in_low (bits w) d in_s (i + bits w - k) (omega arith))

    -- SHRD: the destination's bits, k places up
    pub shrd_destination : i + k < bits w → bit_at i (double_moved Shrd w d s k) ≡ bit_at (i + k) d
    unfolding modulus
    shrd_destination h =
        let place : k + i ≡ i + k = omega arith in shrd_bit ∙ rw place (in_low (bits w) s in_d (i + k) h)

    -- SHRD: where these end the source's lowest
    pub shrd_source : bits w ≤ i + k → bit_at i (double_moved Shrd w d s k) ≡ bit_at (i + k - bits w) s
    unfolding modulus
    shrd_source h =
        let place : k + i ≡ bits w + (i + k - bits w) = omega arith
        in
        shrd_bit ∙ rw place (in_high (bits w) s in_d (i + k - bits w))
