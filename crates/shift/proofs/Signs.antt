-- The shift that copies the sign bit, for both signs. Assumes nothing.
use mathlib.Core.Path.{◌≡◌, sym, ap}
use mathlib.Core.Bool.{true, false}
use Prim.Native.Nat.{ℕ, ◌+◌, ◌-◌, ◌/◌, ◌<◌, ◌≤◌}
use native.Mathlib.Nat.{mod-eq_of_lt, div-le_self}
use native.Mathlib.Omega.{arith}
use lib.Signed.{shr_z}
use borrow.Author.Tests.{lt-ltb, le-ltb, leb-true, leb-false}
use Rattle.width.specs.declared.Size.{Size}
use Rattle.width.specs.Sizes.{modulus, half}
use Rattle.width.specs.Numbers.{Is, residue, rest, meaning, signed, negative}
use Rattle.width.proofs.Differences.{is_negsuc}
use Rattle.width.proofs.Widths.{Numbers, numbers}

module _ (w : Size) (v m : ℕ) where
  -- the size's numbers
  nums : Numbers w
  nums = numbers w

  -- the sign bit is clear: as SHR
  pub clear : negative w v ≡ false → Is w (rest w (shr_z (signed w v) m)) (v / m)
  unfolding rest residue signed meaning negative
  clear e =
      let h : v < half w = leb-false (half w) v e
      in
      let l : v / m < modulus w = omega (arith, nums, div-le_self v m)
      in
      rw (lt-ltb v (half w) h) (record { is = sym (mod-eq_of_lt l); below = l })

  -- the sign bit is set: the complement of the complement's SHR
  pub set : negative w v ≡ true → v < modulus w → Is w (rest w (shr_z (signed w v) m)) (modulus w - 1 - (modulus w - 1 - v) / m)
  unfolding rest residue signed meaning negative
  set e b =
      let h : half w ≤ v = leb-true (half w) v e
      in
      let l : (modulus w - 1 - v) / m < modulus w = omega (arith, nums, div-le_self (modulus w - 1 - v) m)
      in
      rw (le-ltb v (half w) h, is_negsuc v (half w + half w) (modulus w - 1 - v) (omega (arith, nums)))
      (record { is = ap (λ (n : ℕ). modulus w - 1 - n) (sym (mod-eq_of_lt l)); below = omega (arith, nums) })
