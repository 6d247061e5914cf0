-- A step of acceptable code from a landed address goes on to a landed one, or stops with neither 3 nor 4. Assumes nothing.
use mathlib.Core.Path.{◌≡◌, refl, ap, ◌∙◌}
use mathlib.Core.Logic.{⊎_elim}
use mathlib.Core.Bool.{false}
use mathlib.Core.List.{List}
use Prim.Native.Nat.{ℕ, ◌+◌, ◌-◌, ◌%◌, ◌^◌, ◌<◌, ◌≤◌}
use native.Mathlib.Omega.{arith}
use lib.Dec.{eqb}
use lib.ListN.{length}
use lib.IntN.{pos}
use borrow.Author.Tests.{le-leb, le-ltb}
use Rattle.width.specs.declared.Size.TheVariants.{Dword}
use Rattle.width.specs.Sizes.{bits, modulus}
use Rattle.width.specs.Numbers.{rest, residue}
use Rattle.machine.specs.declared.registers.Machine.{Machine}
use Rattle.machine.specs.Registers.{with_xmm}
use Rattle.grammar.specs.Decoding.{decode_of}
use Rattle.grammar.specs.Relative.{relative_of}
use Rattle.grammar.specs.declared.instruction.Decoded.{Decoded}
use Rattle.std.specs.Prelude.{Ok}
use Rattle.grammar.specs.Relative.{Relative}
use Rattle.std.specs.Prelude.{None, Some}
use Rattle.grammar.proofs.Answered.{found_standing, found_inside}
use Rattle.blockcheck.specs.Blocks.{code_base, target_of}
use Rattle.blockcheck.specs.Starts.{Start, Acceptable}
use Rattle.blockcheck.proofs.Starts.{start_decodes, falls_through, displacement_lands}
use Rattle.plan.specs.Plans.{plan_for, plan_of, next_of, leads}
use Rattle.effect.specs.Outcomes.{Effect}
use Rattle.effect.proofs.Choosing.{chosen}
use Rattle.effect.proofs.Ways.{Way, stays, falls, way}
use Rattle.run.specs.Steps.{Fixed, Moved, next, stop, home, inside, executed, step_of}
use Rattle.run.proofs.Places.{at_home, in_code}
use Rattle.safety.specs.Guidance.{Landed, at_start, outside, indirect_found, indirect_at, Readable}
use Rattle.run.proofs.Planned.{Comes, goes_on, stops, planned_comes}

-- a number that is tested for before 3 and 4
pub early : (n : ℕ) → n < 3 → Readable n
early n h = record { not_cut = λ e. omega arith; not_unknown = λ e. omega arith }

-- a number that is tested for after them
pub late : (n : ℕ) → 5 ≤ n → Readable n
late n h = record { not_cut = λ e. omega arith; not_unknown = λ e. omega arith }

-- a step goes on to a landed address, unless through a register or memory, or it stops with neither 3 nor 4
pub data Safe (code : List ℕ) (m : Machine) : Moved → Type 0 where
  goes : {m' : Machine} {d' : List ℕ} → (indirect_at code m ≡ false → Landed code m'.eip) → Safe code m (next m' d')
  halts : {n a : ℕ} → Readable n → Safe code m (stop n a)

-- EIP wraps at 2^32
wraps : (n : ℕ) → rest Dword (pos n) ≡ n % 2 ^ 32
unfolding rest residue modulus bits
wraps n = refl

-- the code's end is outside the code
end_outside : (code : List ℕ) → inside code (code_base + length code) ≡ false
unfolding inside code_base
end_outside code =
    rw (
      le-leb 0x0001_0000 (0x0001_0000 + length code) (omega arith),
      le-ltb (0x0001_0000 + length code) (0x0001_0000 + length code) (omega arith),
    )

module _ {code : List ℕ} (ok : Acceptable code) (m : Machine) {i : ℕ} (start : Start code i) (at : m.eip ≡ code_base + i)
    (x : Decoded) (found : decode_of code i ≡ Ok x) where
  -- the next instruction's address does not wrap
  next_address : next_of m.eip x ≡ code_base + (i + x.length)
  unfolding next_of code_base
  next_address =
      let sized = ok.sized in
      let ends = found_inside code i x found in
      rw (wraps, at) (omega arith)

  -- the next instruction's address is landed
  next_landed : Landed code (next_of m.eip x)
  next_landed =
      rw next_address
      (⊎_elim (λ s. at_start s refl) (λ e. outside (rw e (end_outside code))) (falls_through start x found))

  -- so is where the displacement leads
  target_landed : (by : Relative) → relative_of x ≡ by → Landed code (leads by (next_of m.eip x))
  unfolding leads target_of
  target_landed None e = next_landed
  target_landed (Some y) e =
      let (s, lands, address) = displacement_lands start x found ok y e in
      at_start lands (rw (next_address, wraps) (ap (λ (n : ℕ). n % 2 ^ 32) (omega arith) ∙ address))

  -- so is the address after any effect that does not go through a register or memory
  way_landed : {e : Effect} → Way m (plan_of m.eip x) e → Landed code e.machine.eip
  unfolding plan_of plan_for
  way_landed (stays e) = at_start start (e ∙ at)
  way_landed (falls e) = rw e next_landed
  way_landed (Way.leads e) = rw e (target_landed (relative_of x) refl)

  -- the step of the instruction is safe
  comes_safe : {a : ℕ} {d : List ℕ} {moved : Moved} → Comes (plan_of m.eip x) m a d moved → Safe code m moved
  unfolding indirect_at indirect_found code_base with_xmm
  comes_safe {a} (goes_on r s xmm k l) =
      let place : m.eip - code_base ≡ i = omega arith in
      goes (λ direct. way_landed (way (plan_of m.eip x).operation m (plan_of m.eip x) a r s (rw (place, found) at direct)))
  comes_safe (stops n low high) = halts (late n low)

module _ (fixed : Fixed) (ok : Acceptable fixed.code) (m : Machine) (d : List ℕ) where
  -- outside the code a step stops with 1 or 2
  outside_safe : inside fixed.code m.eip ≡ false → Safe fixed.code m (step_of fixed m d)
  unfolding step_of
  outside_safe e = rw e (chosen (Safe fixed.code m) (eqb m.eip home) (halts (early 1 (omega arith))) (halts (early 2 (omega arith))))

  -- from a landed address every step is safe
  pub step_safe : Landed fixed.code m.eip → Safe fixed.code m (step_of fixed m d)
  unfolding home code_base executed
  step_safe (at_start {s} start at) =
      let (x, found, ends) = start_decodes start in
      let some = (found_standing fixed.code s x found).some in
      let sized = ok.sized in
      let place : m.eip - code_base ≡ s = omega arith in
      rw (in_code fixed m d (λ e. omega arith) (omega arith) (omega arith), place, found)
      (comes_safe ok m start at x found (planned_comes fixed.constants (plan_of m.eip x) m d))
  step_safe (Landed.at_home e) = rw (at_home fixed m d e) (halts (early 1 (omega arith)))
  step_safe (outside e) = outside_safe e
