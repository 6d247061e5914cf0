-- `Signed::complement` meets its contract: a natural is its own rest, a number below zero counts back from 2 ^ 64. Assumes nothing.
use Rattle.std.proofs.Common.{◌≡◌, ℕ, zero, suc, ◌+◌, ◌%◌, ◌^◌, ◌<◌, true, arith, rules}
use Rattle.product.specs.Magnitude.{with_sign}
use Rattle.width.specs.Numbers.{residue}
use Rattle.product.proofs.Signed.complement.Goals as goal

-- the rest of a number below zero
wraps : (m r : ℕ) → (r + m) % 2 ^ 64 ≡ 0 → r < 2 ^ 64 → m < 2 ^ 64 → r ≡ residue (2 ^ 64) (with_sign true m)
unfolding residue with_sign
wraps zero r h hr hm = omega arith
wraps (suc m) r h hr hm = omega arith

pub returns-then-self : goal.returns-then-self
returns-then-self c =
    rw c.if-self.true (wraps _ _ (omega arith) (search rules) (search rules))

pub returns-else-self : goal.returns-else-self
unfolding residue with_sign
returns-else-self c =
    rw c.if-self.false (omega arith)
