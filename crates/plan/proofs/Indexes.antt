-- A SIB byte's index: 4 is none, any other a register that is shifted. Assumes nothing.
use mathlib.Core.Path.{◌≡◌, ap}
use Prim.Native.Nat.{ℕ, ◌*◌, ◌/◌, ◌%◌, ◌^◌}
use borrow.Author.Tests.{eq-eqb, ne_eqb}
use Rattle.machine.specs.declared.registers.Machine.{Machine}
use Rattle.machine.specs.Registers.{register}
use Rattle.plan.specs.Addresses.{scaled_index}

module _ (m : Machine) (sib : ℕ) where
  -- index 4 is none, and not ESP
  pub no_index : sib / 8 % 8 ≡ 4 → scaled_index m sib % 2 ^ 32 ≡ 0
  unfolding scaled_index
  no_index h = let none : scaled_index m sib ≡ 0 = rw (eq-eqb _ _ h) in ap (λ (n : ℕ). n % 2 ^ 32) none

  -- any other is a register
  pub shifted : (v : ℕ) → (sib / 8 % 8 ≡ 4 → ⊥) → register m (sib / 8 % 8) ≡ v → scaled_index m sib % 2 ^ 32 ≡ v * 2 ^ (sib / 64) % 2 ^ 32
  unfolding scaled_index
  shifted v h e = let times : scaled_index m sib ≡ v * 2 ^ (sib / 64) = rw (ne_eqb _ _ h, e) in ap (λ (n : ℕ). n % 2 ^ 32) times
