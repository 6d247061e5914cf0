-- Packing and unpacking undo each other: flags come back from their word, and a word that number 12 lets pass from its flags. Assumes nothing.
use mathlib.Core.Path.{◌≡◌, refl, sym, ap, ◌∙◌}
use mathlib.Core.Bool.{Bool, true, false, ◌&&◌, false≢true}
use mathlib.Core.List.{List, [], ◌∷◌}
use Prim.Native.Nat.{ℕ, zero, suc, ◌+◌, ◌*◌, ◌/◌, ◌%◌, ◌^◌, ◌<◌, min}
use native.Mathlib.Nat.{div-one, min-eq_left, min-zero}
use native.Mathlib.Numerals.{add-one}
use native.Mathlib.Omega.{arith}
use lib.Dec.{eqb}
use lib.Bits.{bit_and, and_step, and_zero_r}
use lib.Pow.{shr-shr}
use borrow.Author.Tests.{eq-eqb, ne_eqb, eqb-true}
use Rattle.width.specs.Numbers.{bit, bit_at}
use Rattle.flags.specs.declared.Flags.{Flags}
use Rattle.flags.specs.Word.{word_of, flags_of, passes}

-- a bit that is the digit of a truth value is that truth value
pub is_bit : (k n : ℕ) (b : Bool) → n / 2 ^ k % 2 ≡ bit b → bit_at k n ≡ b
unfolding bit bit_at
is_bit k n true h = eq-eqb _ _ h
is_bit k n false h = ne_eqb (n / 2 ^ k % 2) 1 (λ (e : n / 2 ^ k % 2 ≡ 1). omega arith)

bit_below : (b : Bool) → bit b < 2
unfolding bit
bit_below true = omega arith
bit_below false = omega arith

-- the digits of a flags word are the flags at their places, and bit 1
record Digits (f : Flags) : Type 0 where
  cf : word_of f / 2 ^ 0 % 2 ≡ bit f.cf
  set : word_of f / 2 ^ 1 % 2 ≡ 1
  pf : word_of f / 2 ^ 2 % 2 ≡ bit f.pf
  af : word_of f / 2 ^ 4 % 2 ≡ bit f.af
  zf : word_of f / 2 ^ 6 % 2 ≡ bit f.zf
  sf : word_of f / 2 ^ 7 % 2 ≡ bit f.sf
  df : word_of f / 2 ^ 10 % 2 ≡ bit f.df
  of : word_of f / 2 ^ 11 % 2 ≡ bit f.of
  sum : word_of f ≡ bit f.cf * 1 + 2 + bit f.pf * 4 + bit f.af * 16 + bit f.zf * 64 + bit f.sf * 128 + bit f.df * 1024 + bit f.of * 2048

digits : (f : Flags) → Digits f
unfolding word_of
digits f =
    let c = bit_below f.cf in
    let p = bit_below f.pf in
    let a = bit_below f.af in
    let z = bit_below f.zf in
    let s = bit_below f.sf in
    let d = bit_below f.df in
    let o = bit_below f.of in
    omega arith

-- the flags of the flags word are the flags
pub unpacked : (f : Flags) → flags_of (word_of f) ≡ f
unfolding flags_of
unpacked f =
    let d = digits f in
    rw (
      is_bit 0 (word_of f) f.cf d.cf,
      is_bit 2 (word_of f) f.pf d.pf,
      is_bit 4 (word_of f) f.af d.af,
      is_bit 6 (word_of f) f.zf d.zf,
      is_bit 7 (word_of f) f.sf d.sf,
      is_bit 10 (word_of f) f.df d.df,
      is_bit 11 (word_of f) f.of d.of,
    )

-- the number whose binary digits, lowest first, these are
abbrev number : List Bool → ℕ
number [] = 0
number (b ∷ bs) = number bs * 2 + bit b

-- what is left of a number from its digit k on, of its digits only those that are set in a list
abbrev kept : List Bool → ℕ → ℕ → ℕ
kept [] k n = 0
kept (b ∷ bs) k n = kept bs (suc k) n * 2 + bit b * (n / 2 ^ k % 2)

bit_min : (b : Bool) (n : ℕ) → n < 2 → min n (bit b) ≡ bit b * n
unfolding bit
bit_min true n h = min-eq_left (omega arith) ∙ omega arith
bit_min false n h = min-zero n ∙ omega arith

-- a mask leaves the digits that are set in it
kept_is : (bs : List Bool) (k n : ℕ) → bit_and (n / 2 ^ k) (number bs) ≡ kept bs k n
kept_is [] k n = and_zero_r (n / 2 ^ k)
kept_is (b ∷ bs) k n =
    let small = bit_below b in
    let half : (number bs * 2 + bit b) / 2 ≡ number bs = omega arith in
    let odd : (number bs * 2 + bit b) % 2 ≡ bit b = omega arith in
    let next : n / 2 ^ k / 2 ≡ n / 2 ^ suc k = shr-shr n k 1 ∙ rw add-one in
    and_step (n / 2 ^ k) (number bs * 2 + bit b)
    ∙ rw (half, odd, next, bit_min b (n / 2 ^ k % 2) (omega arith), kept_is bs (suc k) n)

bit_of : (k n : ℕ) → bit (bit_at k n) ≡ n / 2 ^ k % 2
unfolding bit bit_at
bit_of k n = digit (n / 2 ^ k % 2) (omega arith)
  where
    digit : (x : ℕ) → x < 2 → bit (eqb x 1) ≡ x
    digit zero h = refl
    digit (suc zero) h = refl
    digit (suc (suc x)) h = absurd (omega arith)

both : (a b : Bool) → (a && b) ≡ true → (a ≡ true) × (b ≡ true)
both true b h = (refl, h)
both false b h = absurd (false≢true h)

-- 0CD7h, lowest digit first
abbrev mask : List Bool
mask = true ∷ true ∷ true ∷ false ∷ true ∷ false ∷ true ∷ true ∷ false ∷ false ∷ true ∷ true ∷ []

-- twelve digits under that mask, summed at their places
spread : (c one p d3 a d5 z s d8 d9 d o : ℕ) → one ≡ 1 → (((((((((((0 * 2 + 1 * o) * 2 + 1 * d) * 2 + 0 * d9) * 2 + 0 * d8) * 2 + 1 * s) * 2 + 1 * z) * 2 + 0 * d5) * 2 + 1 * a) * 2 + 0 * d3) * 2 + 1 * p) * 2 + 1 * one) * 2 + 1 * c ≡ c * 1 + 2 + p * 4 + a * 16 + z * 64 + s * 128 + d * 1024 + o * 2048
spread c one p d3 a d5 z s d8 d9 d o h = omega arith

-- a number's digits at the flags' places, with 2
abbrev places : ℕ → ℕ
places n =
    n / 2 ^ 0 % 2 * 1 + 2 + n / 2 ^ 2 % 2 * 4 + n / 2 ^ 4 % 2 * 16 + n / 2 ^ 6 % 2 * 64 + n / 2 ^ 7 % 2 * 128
    + n / 2 ^ 10 % 2 * 1024
    + n / 2 ^ 11 % 2 * 2048

-- they are what 0CD7h leaves of a number with bit 1
masked : (n : ℕ) → n / 2 ^ 1 % 2 ≡ 1 → bit_and n 0x0CD7 ≡ places n
unfolding bit
masked n set =
    ap (λ (m : ℕ). bit_and m 0x0CD7) (sym (div-one n)) ∙ kept_is mask 0 n ∙ spread _ _ _ _ _ _ _ _ _ _ _ _ set

-- the flags word of a word's flags is the word, where number 12 lets the word pass
pub packed : (n : ℕ) → passes n ≡ true → word_of (flags_of n) ≡ n
unfolding passes word_of flags_of bit_at
packed n h =
    let parts = both _ _ h in
    rw (bit_of 0 n, bit_of 2 n, bit_of 4 n, bit_of 6 n, bit_of 7 n, bit_of 10 n, bit_of 11 n)
    (sym (masked n (eqb-true _ _ parts.0)) ∙ eqb-true _ _ parts.1)

-- of a flags word they are the whole
summed : (f : Flags) → places (word_of f) ≡ word_of f
summed f = let d = digits f in rw (d.cf, d.pf, d.af, d.zf, d.sf, d.df, d.of) (sym d.sum)

-- number 12 lets every flags word of flags pass
pub word_passes : (f : Flags) → passes (word_of f) ≡ true
unfolding passes bit_at
word_passes f =
    rw (eq-eqb _ _ (digits f).set) (eq-eqb _ _ (masked (word_of f) (digits f).set ∙ summed f))
