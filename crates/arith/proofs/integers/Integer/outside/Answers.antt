-- `Integer::outside` meets its contract: the half added on the other side of each test. Assumes nothing.
use mathlib.Core.Path.{◌≡◌, ◌∙◌}
use Prim.Native.Nat.{ℕ, ◌+◌, ◌-◌, ◌<◌, ◌≤◌}
use native.Mathlib.Decide.{dec_le}
use native.Mathlib.Omega.{arith}
use lib.Dec.{ltb, leb}
use lib.IntN.{sub_ℕ}
use borrow.Author.Tests.{lt-ltb, le-ltb, le-leb, lt-leb}
use Rattle.width.specs.declared.Size.{Size}
use Rattle.width.specs.Sizes.{half}
use Rattle.width.specs.Numbers.{outside}
use Rattle.width.proofs.Widths.{outside_of}
use Rattle.arith.proofs.integers.Integer.outside.Goals as goal

-- further below zero than half
under : (w : Size) (p q : ℕ) → p + half w < q → ltb (p + half w) q ≡ outside w (sub_ℕ p q)
under w p q h =
    rw (outside_of w p q, lt-ltb (p + half w) q h, lt-ltb p q (omega arith), lt-ltb (half w) (q - p) (omega arith))

-- no further below zero than half: then only what is half at least above misfits
over : (w : Size) (p q : ℕ) → q ≤ p + half w → leb (q + half w) p ≡ outside w (sub_ℕ p q)
over w p q h = by (dec_le q p) (dec_le (q + half w) p)
  where
    by : Dec (q ≤ p) → Dec (q + half w ≤ p) → leb (q + half w) p ≡ outside w (sub_ℕ p q)
    by (yes e) (yes f) = rw (outside_of w p q, le-ltb p q e, le-leb (q + half w) p f, le-leb (half w) (p - q) (omega arith))
    by (yes e) (no f) = rw (outside_of w p q, le-ltb p q e, lt-leb (q + half w) p (omega arith), lt-leb (half w) (p - q) (omega arith))
    by (no e) f =
        rw (outside_of w p q, lt-ltb p q (omega arith), lt-leb (q + half w) p (omega arith), le-ltb (half w) (q - p) (omega arith))

pub returns-then-self-h : goal.returns-then-self-h
returns-then-self-h c =
    let h = c.from-h.ensures ∙ c.half.ensures in rw h (under _ _ _ (rw h at c.if-self-h.true))

pub returns-else-self-h : goal.returns-else-self-h
returns-else-self-h c =
    let h = c.from-h.ensures ∙ c.half.ensures in rw h (over _ _ _ (rw h at c.if-self-h.false))
