-- `flags::meets` meets its contract: an odd condition is the opposite of the even one before it. Assumes nothing.
use mathlib.Core.Bool.{Bool, beq, true, false, not, ◌&&◌, ◌||◌, not-not}
use mathlib.Core.Path.{◌≡◌, refl, sym, ap, ◌∙◌}
use Prim.Native.Nat.{ℕ, zero, suc, ◌+◌, ◌*◌, ◌/◌, ◌%◌, ◌<◌}
use native.Mathlib.Omega.{arith}
use lib.ListN.{get_or}
use Rattle.flags.specs.Conditions.{O, differs, holds, conditions, meets}
use Rattle.flags.specs.declared.Flags.{Flags}
use Rattle.flags.proofs.meets.Goals as goal

-- neither of the two
neither : (a b : Bool) → (not a && not b) ≡ not (a || b)
neither true b = refl
neither false b = refl

-- not the one, and not the two different
nor_differs : (a b c : Bool) → (not a && beq b c) ≡ not (a || differs b c)
nor_differs true b c = refl
nor_differs false b c = sym (not-not (beq b c))

-- an odd condition is the opposite of the even one before it
opposite : (k : ℕ) (f : Flags) → k < 8 → meets (2 * k + 1) f ≡ not (meets (2 * k) f)
unfolding meets holds conditions
opposite zero f b = refl
opposite (suc zero) f b = refl
opposite (suc (suc zero)) f b = refl
opposite (suc (suc (suc zero))) f b = neither f.cf f.zf
opposite (suc (suc (suc (suc zero)))) f b = refl
opposite (suc (suc (suc (suc (suc zero))))) f b = refl
opposite (suc (suc (suc (suc (suc (suc zero)))))) f b = sym (not-not (beq f.sf f.of))
opposite (suc (suc (suc (suc (suc (suc (suc zero))))))) f b = nor_differs f.zf f.sf f.of
opposite (suc (suc (suc (suc (suc (suc (suc (suc k)))))))) f b = absurd (omega arith)

-- a condition's number counts modulo 16
modulo : (m n : ℕ) (f : Flags) → m % 16 ≡ n % 16 → meets m f ≡ meets n f
unfolding meets
modulo m n f h = ap (λ (k : ℕ). holds (get_or conditions k O) f) h

pub returns-then-n-eq1 : goal.returns-then-n-eq1
returns-then-n-eq1 c =
    let n = c.args.n in
    ap not c.even-held.ensures ∙ sym (opposite (n / 2 % 8) _ (omega arith))
    ∙ modulo (2 * (n / 2 % 8) + 1) n _ (let odd = c.if-n-eq1.true in omega arith)

pub returns-else-n-eq1 : goal.returns-else-n-eq1
returns-else-n-eq1 c =
    let n = c.args.n in
    c.even-held.ensures ∙ modulo (2 * (n / 2 % 8)) n _ (let even = c.if-n-eq1.false in omega arith)
