-- Sentences of document 01 on these operations that follow from their definitions. Assumes nothing.
use mathlib.Core.Path.{◌≡◌, refl, ◌∙◌}
use mathlib.Core.Bool.{false, not, ◌||◌}
use Prim.Native.Nat.{ℕ, zero, suc, ◌+◌, ◌-◌}
use native.Mathlib.Omega.{arith}
use lib.Dec.{eqb, ltb, leb}
use borrow.Author.Tests.{lt-ltb, ne_eqb, lt-leb}
use Rattle.width.specs.declared.Size.{Size}
use Rattle.width.specs.Sizes.{modulus}
use Rattle.width.specs.Numbers.{bit}
use Rattle.width.proofs.Differences.{beyond_of}
use Rattle.width.proofs.Widths.{numbers}
use Rattle.flags.specs.declared.Flags.{Flags}
use Rattle.flags.specs.Results.{resulting}
use Rattle.arith.specs.declared.Single.TheVariants.{Inc, Dec, Neg}
use Rattle.arith.specs.Sums.{flags_of}
use Rattle.arith.specs.Binary.{difference_flags}
use Rattle.arith.specs.Single.{single_flags}
use Rattle.arith.proofs.Sums.{difference_carries}

-- INC keeps CF
pub inc_keeps_carry : (w : Size) (a : ℕ) (old : Flags) → (single_flags Inc w a old).cf ≡ old.cf
unfolding single_flags flags_of resulting
inc_keeps_carry w a old = refl

-- DEC keeps CF
pub dec_keeps_carry : (w : Size) (a : ℕ) (old : Flags) → (single_flags Dec w a old).cf ≡ old.cf
unfolding single_flags flags_of resulting
dec_keeps_carry w a old = refl

-- NEG sets CF exactly if the operand isn't 0
pub neg_carries : (w : Size) (a : ℕ) (old : Flags) → (single_flags Neg w a old).cf ≡ not (eqb a 0)
unfolding single_flags difference_flags flags_of resulting bit
neg_carries w a old = difference_carries false w 0 a ∙ beyond_of (modulus w) 0 (a + 0) ∙ by a
  where
    by : (a : ℕ) → (ltb 0 (a + 0) || leb (modulus w) (0 - (a + 0))) ≡ not (eqb a 0)
    by zero = lt-leb (modulus w) 0 (omega (arith, numbers w))
    by (suc n) = rw (lt-ltb 0 (suc n + 0) (omega arith), ne_eqb (suc n) 0 (omega arith))
