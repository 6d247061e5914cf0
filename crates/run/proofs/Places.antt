-- A step by where EIP is. Assumes nothing.
use mathlib.Core.Path.{◌≡◌}
use mathlib.Core.List.{List}
use Prim.Native.Nat.{ℕ, ◌+◌, ◌-◌, ◌<◌, ◌≤◌}
use native.Mathlib.Omega.{arith}
use lib.ListN.{length}
use borrow.Author.Tests.{eq-eqb, ne_eqb, le-leb, lt-leb, lt-ltb, le-ltb}
use Rattle.machine.specs.declared.registers.Machine.{Machine}
use Rattle.grammar.specs.Decoding.{decode_of}
use Rattle.blockcheck.specs.Blocks.{code_base}
use Rattle.run.specs.Steps.{Fixed, stop, home, inside, executed, step_of}

module _ (fixed : Fixed) (m : Machine) (d : List ℕ) where
  pub at_home : m.eip ≡ home → step_of fixed m d ≡ stop 1 m.eip
  unfolding step_of
  at_home h = rw (eq-eqb m.eip home h)

  pub below_code : (m.eip ≡ home → ⊥) → m.eip < code_base → step_of fixed m d ≡ stop 2 m.eip
  unfolding step_of inside
  below_code away h = rw (ne_eqb m.eip home away, lt-leb code_base m.eip h)

  pub past_code : (m.eip ≡ home → ⊥) → code_base ≤ m.eip → length fixed.code ≤ m.eip - code_base
      → step_of fixed m d ≡ stop 2 m.eip
  unfolding step_of inside
  past_code away h l =
      rw (
        ne_eqb m.eip home away,
        le-leb code_base m.eip h,
        le-ltb m.eip (code_base + length fixed.code) (omega arith),
      )

  pub in_code : (m.eip ≡ home → ⊥) → code_base ≤ m.eip → m.eip - code_base < length fixed.code
      → step_of fixed m d ≡ executed fixed (decode_of fixed.code (m.eip - code_base)) m d
  unfolding step_of inside
  in_code away h l =
      rw (
        ne_eqb m.eip home away,
        le-leb code_base m.eip h,
        lt-ltb m.eip (code_base + length fixed.code) (omega arith),
      )
