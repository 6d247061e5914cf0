-- A step by the grammar: 3 and 4 come exactly where the bytes from EIP to the code's end are cut, or no such instruction; where they begin with one, the step is that of its plan. Assumes nothing.
use mathlib.Core.Path.{◌≡◌, refl, sym, ◌∙◌}
use mathlib.Core.Logic.{◌↔◌}
use mathlib.Core.Bool.{Bool, true, false}
use mathlib.Core.List.{List}
use Prim.Native.Nat.{ℕ, ◌-◌, ◌≤◌}
use native.Mathlib.Omega.{arith}
use lib.Dec.{leb, ltb, eqb}
use lib.ListN.{length}
use borrow.Author.Tests.{eqb-true, eqb-false, leb-true, leb-false, ltb-true, ltb-false}
use Rattle.machine.specs.declared.registers.Machine.{Machine}
use Rattle.grammar.specs.Answers.{Found}
use Rattle.std.specs.Prelude.{Ok, Err}
use Rattle.grammar.specs.declared.instruction.Fault.{Fault}
use Rattle.grammar.specs.Answers.{numbers, Begins, instruction, cut, unknown}
use Rattle.grammar.specs.Decoding.{decode_of}
use Rattle.grammar.proofs.Answered.{found_cut, found_unknown, answers_decode}
use Rattle.blockcheck.specs.Blocks.{code_base}
use Rattle.plan.specs.Plans.{plan_of}
use Rattle.run.specs.Steps.{Fixed, stop, home, planned, executed, step_of}
use Rattle.run.specs.Standing.{InCode, from_eip, IsCut, IsUnknown}
use Rattle.run.proofs.Places.{at_home, below_code, past_code, in_code}
use Rattle.run.proofs.Planned.{planned_stops}

-- inside the code a step is that of what decode finds at EIP
pub step_found : (fixed : Fixed) (m : Machine) (d : List ℕ) → InCode fixed.code m
    → step_of fixed m d ≡ executed fixed (decode_of fixed.code (m.eip - code_base)) m d
step_found fixed m d p = in_code fixed m d p.away p.low p.high

-- why a step stops with the number n and the address a
data Halts (code : List ℕ) (m : Machine) (n a : ℕ) : Type 0 where
  first : n ≡ 1 → Halts code m n a
  second : n ≡ 2 → Halts code m n a
  third : n ≡ 3 → IsCut code m a → Halts code m n a
  fourth : n ≡ 4 → IsUnknown code m a → Halts code m n a
  late : 5 ≤ n → n ≤ 7 → Halts code m n a

module _ (fixed : Fixed) (m : Machine) (d : List ℕ) where
  -- inside the code it stops as the grammar says, or late
  halts_inside : (n a : ℕ) → InCode fixed.code m → step_of fixed m d ≡ stop n a → Halts fixed.code m n a
  unfolding executed
  halts_inside n a p e = by (decode_of fixed.code at) refl (sym (step_found fixed m d p) ∙ e)
    where
      at : ℕ
      at = m.eip - code_base

      by : (f : Found) → decode_of fixed.code at ≡ f → executed fixed f m d ≡ stop n a → Halts fixed.code m n a
      by (Ok i) f e = let h = planned_stops _ _ m d e in late h.0 h.1
      by (Err Fault.Cut) f e = third (cc) (record { place = p; address = cc; prefix = found_cut fixed.code at f })
      by (Err Fault.Unknown) f e =
          let h = found_unknown fixed.code at f in
          fourth (cc) (record { place = p; address = cc; begins_with_none = h.0; no_prefix = h.1 })

  -- a step that stops, wherever EIP is
  halts : (n a : ℕ) → step_of fixed m d ≡ stop n a → Halts fixed.code m n a
  halts n a e = by (eqb m.eip home) (leb code_base m.eip) (ltb (m.eip - code_base) (length fixed.code)) refl refl refl
    where
      by : (x y z : Bool) → eqb m.eip home ≡ x → leb code_base m.eip ≡ y → ltb (m.eip - code_base) (length fixed.code) ≡ z
          → Halts fixed.code m n a
      by true y z h low high = first (cc (at_home fixed m d (eqb-true _ _ h)))
      by false false z h low high = second (cc (below_code fixed m d (eqb-false _ _ h) (leb-false _ _ low)))
      by false true false h low high =
          second (cc (past_code fixed m d (eqb-false _ _ h) (leb-true _ _ low) (ltb-false _ _ high)))
      by false true true h low high =
          halts_inside n a (record { away = eqb-false _ _ h; low = leb-true _ _ low; high = ltb-true _ _ high }) e

  -- 3 comes exactly where the bytes from EIP to the code's end are a proper prefix of some instruction, with EIP
  pub cut_exactly : (a : ℕ) → (step_of fixed m d ≡ stop 3 a) ↔ IsCut fixed.code m a
  unfolding executed
  cut_exactly a = (λ e. by (halts 3 a e), back)
    where
      by : Halts fixed.code m 3 a → IsCut fixed.code m a
      by (first e) = absurd (omega arith)
      by (second e) = absurd (omega arith)
      by (third e h) = h
      by (fourth e h) = absurd (omega arith)
      by (late l h) = absurd (omega arith)

      back : IsCut fixed.code m a → step_of fixed m d ≡ stop 3 a
      back h = step_found fixed m d h.place ∙ rw (answers_decode fixed.code (m.eip - code_base) (cut h.prefix), h.address)

  -- 4 comes exactly where they neither begin with one nor are such a prefix, with EIP
  pub unknown_exactly : (a : ℕ) → (step_of fixed m d ≡ stop 4 a) ↔ IsUnknown fixed.code m a
  unfolding executed
  unknown_exactly a = (λ e. by (halts 4 a e), back)
    where
      by : Halts fixed.code m 4 a → IsUnknown fixed.code m a
      by (first e) = absurd (omega arith)
      by (second e) = absurd (omega arith)
      by (third e h) = absurd (omega arith)
      by (fourth e h) = h
      by (late l h) = absurd (omega arith)

      back : IsUnknown fixed.code m a → step_of fixed m d ≡ stop 4 a
      back h =
          step_found fixed m d h.place
          ∙ rw (answers_decode fixed.code (m.eip - code_base) (unknown h.begins_with_none h.no_prefix), h.address)

  -- where they begin with an instruction, the step is that of its plan
  pub instruction_steps : InCode fixed.code m → (i : Begins (from_eip fixed.code m)) → step_of fixed m d ≡ planned fixed.constants (plan_of m.eip (numbers i.instruction.parts)) m d
  unfolding executed
  instruction_steps place i = step_found fixed m d place ∙ rw (answers_decode fixed.code (m.eip - code_base) (instruction i))

  -- a step that stops has a number from 1 to 7
  pub stops_between : (n a : ℕ) → step_of fixed m d ≡ stop n a → (1 ≤ n) × (n ≤ 7)
  stops_between n a e = by (halts n a e)
    where
      by : Halts fixed.code m n a → (1 ≤ n) × (n ≤ 7)
      by (first e) = (omega arith, omega arith)
      by (second e) = (omega arith, omega arith)
      by (third e h) = (omega arith, omega arith)
      by (fourth e h) = (omega arith, omega arith)
      by (late l h) = (omega arith, omega arith)
