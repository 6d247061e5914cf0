-- Laws of the unit that holds a bit. Assumes nothing.
use mathlib.Core.Path.{◌≡◌, refl, sym, ap, ◌∙◌}
use mathlib.Core.Bool.{true, false}
use Prim.Native.Nat.{ℕ, suc, ◌+◌, ◌-◌, ◌*◌, ◌/◌, ◌^◌}
use native.Mathlib.Nat.{mul-add, zero-add, zero-mul, zero-div}
use native.Mathlib.Omega.{arith}
use lib.IntN.{ℤ, pos, sub_ℕ, ◌*ℤ◌, pos-*ℤ-pos, pos-*ℤ-negsuc}
use lib.Signed.{shr_z}
use borrow.Author.Tests.{lt-ltb, le-ltb, leb-true, leb-false}
use Rattle.width.specs.declared.Size.{Size}
use Rattle.width.specs.declared.Size.TheVariants.{Byte, Word, Dword}
use Rattle.width.specs.Sizes.{bits, bytes, modulus, half}
use Rattle.width.specs.Numbers.{rest, signed, meaning, negative}
use Rattle.width.proofs.Differences.{Sign, up, down, sign, is_pos, is_negsuc, same, negated, added, natural}
use Rattle.width.proofs.Widths.{numbers, lifted}
use Rattle.bits.specs.Tests.{unit_address}
use Rattle.bits.specs.Parts.{Below, Units}

-- whole units of bits, and more bits
units_up : (w : Size) (n d q : ℕ) → n ≡ q * bits w + d → n / bits w ≡ q + d / bits w
unfolding bits
units_up Byte n d q h = omega arith
units_up Word n d q h = omega arith
units_up Dword n d q h = omega arith

-- and fewer
units_down : (w : Size) (n d q : ℕ) → q * bits w ≡ n + suc d → q ≡ n / bits w + suc (d / bits w)
unfolding bits
units_down Byte n d q h = omega arith
units_down Word n d q h = omega arith
units_down Dword n d q h = omega arith

-- a difference to whole units, in whole units rounded down
rounded : (w : Size) (n q : ℕ) → shr_z (sub_ℕ n (q * bits w)) (bits w) ≡ sub_ℕ (n / bits w) q
rounded w n q = by (sign n (q * bits w))
  where
    by : Sign n (q * bits w) → shr_z (sub_ℕ n (q * bits w)) (bits w) ≡ sub_ℕ (n / bits w) q
    by (up d e) = rw (is_pos n (q * bits w) d e) (sym (is_pos (n / bits w) q (d / bits w) (units_up w n d q e)))
    by (down d e) =
        rw (is_negsuc n (q * bits w) d e)
        (sym (is_negsuc (n / bits w) q (d / bits w) (units_down w n d q e)))

-- a multiple of a difference
times : (m p q : ℕ) → pos m *ℤ sub_ℕ p q ≡ sub_ℕ (m * p) (m * q)
times m p q = by (sign p q)
  where
    by : Sign p q → pos m *ℤ sub_ℕ p q ≡ sub_ℕ (m * p) (m * q)
    by (up d e) =
        rw (is_pos p q d e, pos-*ℤ-pos m d) (sym (is_pos (m * p) (m * q) (m * d) (rw (e, mul-add))))
    by (down d e) =
        rw (is_negsuc p q d e, pos-*ℤ-negsuc m d, natural (m * suc d), negated (m * suc d) 0)
        (same 0 (m * suc d) (m * p) (m * q) (rw (e, mul-add) (omega arith)))

-- the numbers of a size, in whole units
multiple : (w : Size) → modulus w ≡ modulus w / bits w * bits w
unfolding bits modulus
multiple Byte = refl
multiple Word = refl
multiple Dword = refl

module _ (w : Size) (v : ℕ) where
  -- the signed meaning of a number whose sign bit is clear is the number
  pub below_clear : negative w v ≡ false → Below w v 0
  unfolding negative signed meaning
  below_clear e =
      record {
        meant = rw (lt-ltb v (half w) (leb-false (half w) v e)) (natural v);
        multiple = rw (zero-div, zero-mul);
        top = omega arith;
      }

  -- of one whose sign bit is set it lies all the numbers of the size below
  pub below_set : negative w v ≡ true → Below w v (modulus w)
  unfolding negative signed meaning
  below_set e =
      record {
        meant = rw (le-ltb v (half w) (leb-true (half w) v e), (numbers w).two);
        multiple = multiple w;
        top = (numbers w).top;
      }

-- the unit of a signed number's bit, from address a
pub unit_of : (w : Size) (a v r p q : ℕ)
    → Below w v r
    → Units w v p
    → Units w r q
    → rest Dword (pos (a + p + 2 ^ 33 - q)) ≡ unit_address w a v
unfolding unit_address
unit_of w a v r p q under on back =
    let down : shr_z (signed w v) (bits w) ≡ sub_ℕ (v / bits w) (r / bits w) =
    ap (λ (z : ℤ). shr_z z (bits w)) (under.meant ∙ ap (sub_ℕ v) under.multiple) ∙ rounded w v (r / bits w)
    in
    lifted Dword (a + p) q (omega arith)
    ∙ sym (rw (
      down,
      times (bytes w) (v / bits w) (r / bits w),
      ← on.is,
      ← back.is,
      natural a,
      added a 0 p q,
      zero-add,
    ))
