-- The step of a plan: it stops with 5, 6 or 7, or goes on to the machine of its effect. Assumes nothing.
use mathlib.Core.Path.{◌≡◌, refl, ap, ◌∙◌}
use mathlib.Core.List.{List}
use Prim.Native.Nat.{ℕ, ◌≤◌}
use native.Mathlib.Omega.{arith}
use lib.ListN.{length}
use Rattle.scalar.specs.declared.Xmm.{Xmm}
use Rattle.machine.specs.declared.registers.Machine.{Machine}
use Rattle.machine.specs.Memory.{Stored, Done}
use Rattle.machine.specs.Registers.{with_xmm, with_single}
use Rattle.machine.proofs.Access.{store_length}
use Rattle.machine.proofs.Lists.{put_length}
use Rattle.plan.specs.declared.Plan.{Plan}
use Rattle.effect.specs.Outcomes.{Outcome, Becomes, Writes, Sets, Faults}
use Rattle.effect.specs.All.{effect_by}
use Rattle.effect.proofs.Framing.{singles_kept}
use Rattle.run.specs.Steps.{Moved, next, stop, stored, committed, finished, operand_address, planned}
use Rattle.run.proofs.Reading.{performed_both}

-- the step of a plan goes on to the machine of its effect, with as many singles and data of the same length, or stops with a number from 5 to 7
pub data Comes (p : Plan) (m : Machine) (a : ℕ) (d : List ℕ) : Moved → Type 0 where
  goes_on : (r s : ℕ) (xmm : List Xmm) {d' : List ℕ} → length xmm ≡ length m.xmm → length d' ≡ length d
      → Comes p m a d (next (with_xmm (effect_by p.operation m p a r s).machine xmm) d')
  stops : (n : ℕ) {b : ℕ} → 5 ≤ n → n ≤ 7 → Comes p m a d (stop n b)

-- the machine after the effect of a plan, with what was read, but for its singles
pub record Effected (p : Plan) (m after : Machine) : Type 0 where
  pub r : ℕ
  pub s : ℕ
  pub xmm : List Xmm
  pub is : after ≡ with_xmm (effect_by p.operation m p (operand_address p m) r s).machine xmm

module _ (p : Plan) (m : Machine) (a : ℕ) (d : List ℕ) where
  -- the effect's machine has as many singles
  as_many : (r s : ℕ) → length (effect_by p.operation m p a r s).machine.xmm ≡ length m.xmm
  as_many r s = ap length (singles_kept p.operation m p a r s)

  -- so it is with a write
  stored_comes : (answer : Stored) (r s : ℕ) → Comes p m a d (stored answer (effect_by p.operation m p a r s) d)
  unfolding stored with_xmm
  stored_comes Done r s = goes_on r s _ (as_many r s) (store_length d _ _ _)
  stored_comes (Stored.Outside b) r s = stops 6 (omega arith) (omega arith)

  -- with an effect
  committed_comes : (o : Outcome) (r s : ℕ) → Comes p m a d (committed o (effect_by p.operation m p a r s) m d)
  unfolding committed with_xmm with_single
  committed_comes Becomes r s = goes_on r s _ (as_many r s) refl
  committed_comes Writes r s = stored_comes _ r s
  committed_comes Sets r s = goes_on r s _ (put_length _ _ _ ∙ as_many r s) refl
  committed_comes Faults r s = stops 7 (omega arith) (omega arith)

  -- with the effect of what was read
  finished_comes : (r s : ℕ) → Comes p m a d (finished p m a d r s)
  unfolding finished
  finished_comes r s = committed_comes _ r s

module _ (constants : List ℕ) (p : Plan) (m : Machine) (d : List ℕ) where
  -- with the step of a plan
  pub planned_comes : Comes p m (operand_address p m) d (planned constants p m d)
  unfolding planned
  planned_comes =
      performed_both (λ v _. Comes p m (operand_address p m) d v) constants d (λ w a b is. stops 5 (omega arith) (omega arith)) _ p m m _
      (λ r s first. finished_comes p m _ d r s)

  -- the step of a plan stops only with 5, 6 or 7
  pub planned_stops : {n a : ℕ} → planned constants p m d ≡ stop n a → (5 ≤ n) × (n ≤ 7)
  planned_stops {n} {a} = by planned_comes
    where
      by : {moved : Moved} → Comes p m (operand_address p m) d moved → moved ≡ stop n a → (5 ≤ n) × (n ≤ 7)
      by (goes_on r s xmm k l) e = absurd (let z : ◌≡◌ {A = ℕ} 0 1 = cc in omega arith)
      by (stops k l h) e = let z : n ≡ k = cc in (omega arith, omega arith)

  -- and goes on only to the machine of its effect
  pub planned_goes : {m' : Machine} {d' : List ℕ} → planned constants p m d ≡ next m' d' → Effected p m m'
  planned_goes {m'} {d'} = by planned_comes
    where
      by : {moved : Moved} → Comes p m (operand_address p m) d moved → moved ≡ next m' d' → Effected p m m'
      by (goes_on r s xmm k l) e = record { r = r; s = s; xmm = xmm; is = cc }
      by (stops k l h) e = absurd (let z : ◌≡◌ {A = ℕ} 0 1 = cc in omega arith)
