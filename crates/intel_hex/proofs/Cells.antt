-- What a word is as a cell. Assumes nothing.
use mathlib.Core.Path.{◌≡◌, refl, sym}
use mathlib.Core.Bool.{Bool, true, false, not, cond, false≢true}
use Prim.Native.Nat.{ℕ, ◌+◌, ◌%◌, ◌<◌}
use native.Mathlib.Omega.{arith}
use lib.Dec.{eqb}
use borrow.Author.Tests.{ne_eqb}
use Rattle.std.specs.Prelude.{Option, None, Some, is_some}
use Rattle.intel_hex.specs.Cells.{word_of, cell_of}
use Rattle.intel_hex.specs.Reading.{filled}

-- 100h more than a byte is that byte's cell
pub given_cell : (b : ℕ) → b < 256 → cell_of (256 + b) ≡ Some b
unfolding cell_of
given_cell b h =
    let low : (256 + b) % 256 ≡ b = omega arith in
    rw (ne_eqb (256 + b) 0 (λ (e : 256 + b ≡ 0). omega arith), low)

-- and the word of that
pub given_word : (b : ℕ) → b < 256 → word_of (cell_of (256 + b)) ≡ 256 + b
unfolding word_of
given_word b h = rw (given_cell b h)

-- a word that is not 0 is a byte given
pub some_cell : (w : ℕ) → not (eqb w 0) ≡ is_some (cell_of w)
unfolding cell_of
some_cell w = go (eqb w 0)
  where
    go : (t : Bool) → not t ≡ is_some (cond t None (Some (w % 256)))
    go true = refl
    go false = refl

-- that byte is its low one
pub filled_some : (w : ℕ) (cell : Option ℕ) → cell_of w ≡ cell → is_some cell ≡ true → w % 256 ≡ filled cell
unfolding cell_of
filled_some w cell e h = rw (← e) (go (eqb w 0) (rw (← e) at h))
  where
    go : (t : Bool) → is_some (cond t None (Some (w % 256))) ≡ true → w % 256 ≡ filled (cond t None (Some (w % 256)))
    go true h = absurd (false≢true h)
    go false h = refl

-- a gap is filled with 90h
pub filled_none : (cell : Option ℕ) → is_some cell ≡ false → 0x90 ≡ filled cell
filled_none None h = refl
filled_none (Some b) h = absurd (false≢true (sym h))
