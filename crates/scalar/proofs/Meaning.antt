-- What the definitions say in IEEE 754's words: a result's bits stand for the operation's result, and COMISS's flags are the relations "equal" and "less". Assumes nothing.
use mathlib.Core.Path.{◌≡◌, refl, sym, ap, ◌∙◌}
use mathlib.Core.Bool.{Bool, true, false, cond, ◌&&◌, true≢false}
use Prim.Native.Nat.{ℕ, ◌+◌, ◌*◌}
use native.Mathlib.Omega.{arith}
use lib.Dec.{T, eqb}
use lib.Ieee.{Float, nan, inf, fin, binary32, fits, up, down, below, level, add, sub, mul, div, lt, eq, is_nan, of_bits, of_fields}
use lib.Ieee.Bits.{of_bits-to_bits, nan_bits_is}
use lib.Ieee.Fits.{add-fits, sub-fits, mul-fits, div-fits}
use borrow.Author.Tests.{ltb-true, ltb-false, eqb-true, le-ltb, eq-eqb, ne_eqb}
use Rattle.flags.specs.declared.Flags.{Flags}
use Rattle.scalar.specs.declared.Compute.TheVariants.{Add, Mul, Sub, Div}
use Rattle.scalar.specs.Singles.{is_single_nan, number, result_of, rounded, computed, answer, compared}
use Rattle.scalar.proofs.Numbers.{rounded_number, compared_number}

-- the bits of a result stand for it, those of an invalid operation too
stands : (x : Float) → T (fits binary32 x) → number (result_of x) ≡ x
unfolding number result_of is_nan of_bits of_fields
stands nan fit = refl
stands (inf s) fit = of_bits-to_bits binary32 (inf s) fit
stands (fin s m e) fit = of_bits-to_bits binary32 (fin s m e) fit

-- two tests that do not both pass
not_both : (x y : Bool) → (x ≡ true → y ≡ true → ⊥) → (x && y) ≡ false
not_both true true other = absurd (other refl refl)
not_both true false other = refl
not_both false y other = refl

-- a number with a sign that lies below another lies neither above it nor level with it
apart : (s : Bool) (a : ℕ) (t : Bool) (b : ℕ) → below s a t b ≡ true
    → (below t b s a ≡ false) × ((level s a t b ≡ false) × (level t b s a ≡ false))
apart false a false b is =
    let less = ltb-true a b is in
    (le-ltb b a (omega arith), (rw (ne_eqb a b (λ e. omega arith)) refl, rw (ne_eqb b a (λ e. omega arith)) refl))
apart false a true b is = absurd (true≢false (sym is))
apart true a false b is =
    let some = ltb-true 0 (a + b) is in (
      refl,
      (
        not_both (eqb a b) (eqb a 0) (λ x y. let p = eqb-true a b x in let q = eqb-true a 0 y in omega arith),
        not_both (eqb b a) (eqb b 0) (λ x y. let p = eqb-true b a x in let q = eqb-true b 0 y in omega arith),
      ),
    )
apart true a true b is =
    let less = ltb-true b a is in
    (le-ltb a b (omega arith), (rw (ne_eqb a b (λ e. omega arith)) refl, rw (ne_eqb b a (λ e. omega arith)) refl))

-- and one that lies neither below nor above is level
level_else : (s : Bool) (a : ℕ) (t : Bool) (b : ℕ) → below s a t b ≡ false → below t b s a ≡ false → level s a t b ≡ true
level_else false a false b h k = let p = ltb-false a b h in let q = ltb-false b a k in rw (eq-eqb a b (omega arith)) refl
level_else false a true b h k = let q = ltb-false 0 (b + a) k in rw (eq-eqb a b (omega arith), eq-eqb a 0 (omega arith)) refl
level_else true a false b h k = let p = ltb-false 0 (a + b) h in rw (eq-eqb a b (omega arith), eq-eqb a 0 (omega arith)) refl
level_else true a true b h k = let p = ltb-false b a h in let q = ltb-false a b k in rw (eq-eqb a b (omega arith)) refl

-- so it is of floats: one below another is neither above nor equal
lt_apart : (x y : Float) → lt x y ≡ true → (lt y x ≡ false) × ((eq x y ≡ false) × (eq y x ≡ false))
unfolding lt eq
lt_apart nan y is = absurd (true≢false (sym is))
lt_apart (inf s) nan is = absurd (true≢false (sym is))
lt_apart (inf true) (inf true) is = absurd (true≢false (sym is))
lt_apart (inf true) (inf false) is = (refl, (refl, refl))
lt_apart (inf false) (inf t) is = absurd (true≢false (sym is))
lt_apart (inf true) (fin t n d) is = (refl, (refl, refl))
lt_apart (inf false) (fin t n d) is = absurd (true≢false (sym is))
lt_apart (fin s m e) nan is = absurd (true≢false (sym is))
lt_apart (fin s m e) (inf true) is = absurd (true≢false (sym is))
lt_apart (fin s m e) (inf false) is = (refl, (refl, refl))
lt_apart (fin s m e) (fin t n d) is = apart s (m * up e * down d) t (n * up d * down e) is

-- and numbers of which neither is below the other are equal
eq_else : (x y : Float) → is_nan x ≡ false → is_nan y ≡ false → lt x y ≡ false → lt y x ≡ false → eq x y ≡ true
unfolding lt eq is_nan
eq_else nan y first second h k = absurd (true≢false first)
eq_else (inf s) nan first second h k = absurd (true≢false second)
eq_else (inf true) (inf true) first second h k = refl
eq_else (inf true) (inf false) first second h k = absurd (true≢false h)
eq_else (inf false) (inf true) first second h k = absurd (true≢false k)
eq_else (inf false) (inf false) first second h k = refl
eq_else (inf true) (fin t n d) first second h k = absurd (true≢false h)
eq_else (inf false) (fin t n d) first second h k = absurd (true≢false k)
eq_else (fin s m e) nan first second h k = absurd (true≢false second)
eq_else (fin s m e) (inf true) first second h k = absurd (true≢false k)
eq_else (fin s m e) (inf false) first second h k = absurd (true≢false h)
eq_else (fin s m e) (fin t n d) first second h k = level_else s (m * up e * down d) t (n * up d * down e) h k

-- bits that are no NaN's stand for a number
a_number : (b : ℕ) → is_single_nan b ≡ false → is_nan (number b) ≡ false
unfolding is_single_nan number
a_number b e = sym (nan_bits_is binary32 b) ∙ e

module _ (a b : ℕ) (first : is_single_nan a ≡ false) (second : is_single_nan b ≡ false) where
  -- what an operation on numbers gives stands for IEEE 754's result
  rounded_stands : (op : Float → Float → Float) → T (fits binary32 (op (number a) (number b))) → number (rounded op a b) ≡ op (number a) (number b)
  rounded_stands op fit = ap number (sym (rounded_number a b first second op refl)) ∙ stands (op (number a) (number b)) fit

  pub sum_stands : number (computed Add a b) ≡ add binary32 (number a) (number b)
  unfolding computed
  sum_stands = rounded_stands (add binary32) (add-fits binary32 (number a) (number b))

  pub difference_stands : number (computed Sub a b) ≡ sub binary32 (number a) (number b)
  unfolding computed
  difference_stands = rounded_stands (sub binary32) (sub-fits binary32 (number a) (number b))

  pub product_stands : number (computed Mul a b) ≡ mul binary32 (number a) (number b)
  unfolding computed
  product_stands = rounded_stands (mul binary32) (mul-fits binary32 (number a) (number b))

  pub quotient_stands : number (computed Div a b) ≡ div binary32 (number a) (number b)
  unfolding computed
  quotient_stands = rounded_stands (div binary32) (div-fits binary32 (number a) (number b))

  -- of numbers COMISS sets ZF exactly if they are equal, CF exactly if the first is less, and clears PF
  pub compared_exactly : (f : Flags) → compared a b f ≡ answer (eq (number a) (number b)) false (lt (number a) (number b)) f
  compared_exactly f = compared_number a b first second f ∙ by (lt (number b) (number a)) (lt (number a) (number b)) refl refl
    where
      by : (g l : Bool) → lt (number b) (number a) ≡ g → lt (number a) (number b) ≡ l
          → cond g (answer false false false f) (cond l (answer false false true f) (answer true false false f)) ≡ answer (eq (number a) (number b)) false l f
      by true l above is = let away = lt_apart (number b) (number a) above in rw (away.1.1, sym is ∙ away.0) refl
      by false true above is = rw (lt_apart (number a) (number b) is).1.0 refl
      by false false above is = rw (eq_else (number a) (number b) (a_number a first) (a_number b second) is above) refl
