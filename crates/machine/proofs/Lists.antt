-- Elements of a list one by one, and what is put into one of them. Assumes nothing.
use mathlib.Core.Path.{◌≡◌, refl, ap, ◌∙◌}
use mathlib.Core.List.{List, [], ◌∷◌, map}
use Prim.Native.Nat.{ℕ, zero, suc, ◌+◌, ◌%◌, ◌≤◌}
use native.Mathlib.Omega.{arith}
use lib.ListN.{length, get_or, set, length-set, take, drop}
use lib.Seq.{drop-cons, take_all, get_or-set_same, get_or-set_other}
use Rattle.scalar.specs.declared.Xmm.{Xmm}
use Rattle.machine.specs.Registers.{xmm, bits_in, with_bits}
use Rattle.machine.specs.Lending.{xmm_of}

-- so many elements from a place on, one by one
abbrev pub listed : {A : Type 0} → A → ℕ → ℕ → List A → List A
listed d zero k l = []
listed d (suc n) k l = get_or l k d ∷ listed d n (suc k) l

-- they are that part of the list
pub part_listed : {A : Type 0} (d : A) (n k : ℕ) (l : List A) → k + n ≤ length l → listed d n k l ≡ take n (drop k l)
part_listed d zero k l h = refl
part_listed {A} d (suc n) k l h =
    rw (drop-cons l k d (omega arith)) (ap (λ (r : List A). get_or l k d ∷ r) (part_listed d n (suc k) l (omega arith)))

-- eight are the whole list, where it has eight
pub eight_listed : {A : Type 0} (d : A) (l : List A) → length l ≡ 8 → listed d 8 0 l ≡ l
eight_listed d l eight = part_listed d 8 0 l (omega arith) ∙ take_all 8 l (omega arith)

-- the XMM registers of their own bits, one by one
pub of_bits : (all : List Xmm) → length all ≡ 8 → xmm_of (map (λ (x : Xmm). x.bits) (listed (xmm 0) 8 0 all)) ≡ all
unfolding xmm_of
of_bits all eight = eight_listed (xmm 0) all eight

-- a value put after another one at the same place may be worked out from the other: for every list, also one that has no such place
pub again : (regs : List ℕ) (i x : ℕ) (f : ℕ → ℕ) → set (set regs i x) i (f (get_or (set regs i x) i 0)) ≡ set (set regs i x) i (f x)
again [] i x f = refl
again (y ∷ ys) zero x f = refl
again (y ∷ ys) (suc i) x f = ap (λ (r : List ℕ). y ∷ r) (again ys i x f)

-- what is put into one of eight XMM registers is read from it again, bit for bit
pub put_read : (all : List Xmm) (i v : ℕ) → length all ≡ 8 → bits_in (with_bits all i v) i ≡ v
unfolding bits_in with_bits
put_read all i v eight = ap (λ (x : Xmm). x.bits) (get_or-set_same all (i % 8) (xmm v) (xmm 0) (omega arith))

-- and the others keep their bits
pub put_others : (all : List Xmm) (i j v : ℕ) → (j % 8 ≡ i % 8 → ⊥) → bits_in (with_bits all i v) j ≡ bits_in all j
unfolding bits_in with_bits
put_others all i j v other = ap (λ (x : Xmm). x.bits) (get_or-set_other all (i % 8) (j % 8) (xmm v) (xmm 0) other)

-- they stay as many
pub put_length : (all : List Xmm) (i v : ℕ) → length (with_bits all i v) ≡ length all
unfolding with_bits
put_length all i v = length-set all (i % 8) (xmm v)
