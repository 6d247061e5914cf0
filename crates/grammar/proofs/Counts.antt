-- Displacements and immediates have 0, 1, 2 or 4 bytes.
-- Assumes nothing.
use mathlib.Core.Bool.{Bool, true, false}
use mathlib.Core.List.{[], ◌∷◌}
use Prim.Native.Nat.{ℕ, zero, suc}
use native.Mathlib.Omega.{arith}
use lib.Dec.{eqb}
use lib.ListN.{get_or}
use Rattle.grammar.specs.Choice.{pick, both}
use Rattle.grammar.specs.Grammar.{rm_of, base_of, mod_of, bare_length, displacement_length, operand_size, immediate_length}
use Rattle.grammar.specs.Decoding.{Count}
use Rattle.grammar.specs.declared.rule.Immediate.{Immediate}

-- of two counts either
pick_count : (c : Bool) {n m : ℕ} → Count n → Count m → Count (pick c n m)
unfolding pick
pick_count true a b = a
pick_count false a b = b

-- the four counts
pub none : Count 0
none = omega arith

one : Count 1
one = omega arith

two : Count 2
two = omega arith

four : Count 4
four = omega arith

-- with Mod 0
bare_count : (m sib : ℕ) → Count (bare_length m sib)
unfolding bare_length
bare_count m sib =
    pick_count (eqb (rm_of m) 5) four (pick_count (both (eqb (rm_of m) 4) (eqb (base_of sib) 5)) four none)

-- by Mod
by_mod : (m sib k : ℕ) → Count (get_or (bare_length m sib ∷ 1 ∷ 4 ∷ []) k 0)
by_mod m sib zero = bare_count m sib
by_mod m sib (suc zero) = one
by_mod m sib (suc (suc zero)) = four
by_mod m sib (suc (suc (suc k))) = none

-- a displacement's count
pub displacement_count : (m sib : ℕ) → Count (displacement_length m sib)
displacement_count m sib = by_mod m sib (mod_of m)

-- the count of "v"
operand_count : (narrow : Bool) → Count (operand_size narrow)
operand_count false = four
operand_count true = two

-- an immediate's count
pub immediate_count : (kind : Immediate) (narrow : Bool) (field : ℕ) → Count (immediate_length kind narrow field)
immediate_count Immediate.Absent narrow field = none
immediate_count Immediate.Imm8 narrow field = one
immediate_count Immediate.Imm16 narrow field = two
immediate_count Immediate.Imm32 narrow field = four
immediate_count Immediate.ImmV narrow field = operand_count narrow
immediate_count Immediate.Address narrow field = four
immediate_count Immediate.Rel8 narrow field = one
immediate_count Immediate.Rel32 narrow field = four
immediate_count Immediate.Imm8For0 narrow field = pick_count (eqb field 0) one none
immediate_count Immediate.ImmVFor0 narrow field = pick_count (eqb field 0) (operand_count narrow) none
