-- A number with a bit as given, by taking the old bit out and the new one in. Assumes nothing.
use mathlib.Core.Path.{◌≡◌, ap, ◌∙◌}
use mathlib.Core.Bool.{Bool}
use Prim.Native.Nat.{ℕ, ◌+◌, ◌-◌, ◌*◌, ◌/◌, ◌%◌, ◌^◌, ◌<◌, ◌≤◌}
use native.Mathlib.Omega.{arith}
use lib.Arith.{digits_lt}
use lib.Pow.{pow-add, shl_exact, shr_lt}
use Rattle.width.specs.Numbers.{bit, Bit, bit_at}
use Rattle.bits.specs.Tests.{with_bit}
use Rattle.bits.proofs.GivenBits.{as_it_is, few_left}

module _ (k v n : ℕ) (b : Bool) (h : k < 32) (l : v < 2 ^ 32) (new : Bit b n) where
  -- the new bit in its place
  new_is : n * 2 ^ k % 2 ^ 64 ≡ bit b * 2 ^ k
  new_is = shl_exact 1 k 64 new.below (omega arith) ∙ ap (λ (x : ℕ). x * 2 ^ k) new.is

  -- 32 bits hold the number with either bit
  pub still_below : with_bit k v b < 2 ^ 32
  unfolding with_bit
  still_below =
      let joined : 31 - k + (k + 1) ≡ 32 = omega arith
      in
      let high : v / 2 ^ (k + 1) < 2 ^ (31 - k) = shr_lt (31 - k) (k + 1) (rw joined l)
      in
      let all : v / 2 ^ (k + 1) * 2 ^ (k + 1) + (bit b * 2 ^ k + v % 2 ^ k) < 2 ^ 32 =
      rw (← ap (λ (x : ℕ). 2 ^ x) joined, pow-add 2 (31 - k) (k + 1)) (digits_lt high (few_left k v b))
      in
      omega arith

  -- and 64 the number with both
  pub fits : v + n * 2 ^ k % 2 ^ 64 < 2 ^ 64
  unfolding with_bit
  fits = rw new_is (omega (arith, still_below))

  module _ (o : ℕ) (old : Bit (bit_at k v) o) where
    -- the old bit in its place
    old_is : o * 2 ^ k % 2 ^ 64 ≡ bit (bit_at k v) * 2 ^ k
    old_is = shl_exact 1 k 64 old.below (omega arith) ∙ ap (λ (x : ℕ). x * 2 ^ k) old.is

    -- it is one of those that are there
    pub held : o * 2 ^ k % 2 ^ 64 ≤ v + n * 2 ^ k % 2 ^ 64
    unfolding with_bit
    held = rw old_is (omega (arith, as_it_is k v))

    -- the old bit out, the new one in
    pub exchanged : v + n * 2 ^ k % 2 ^ 64 - o * 2 ^ k % 2 ^ 64 ≡ with_bit k v b
    unfolding with_bit
    exchanged = rw (old_is, new_is) (omega (arith, as_it_is k v))
