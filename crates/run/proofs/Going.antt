-- A run goes on, stops or is used up. Assumes nothing.
use Rattle.std.proofs.Common.{◌≡◌, ℕ, suc, ◌+◌, ◌-◌, ◌<◌, List, arith, add-one}
use Rattle.machine.specs.declared.registers.Machine.{Machine}
use Rattle.run.specs.Steps.{Fixed, next, stop, step_of}
use Rattle.run.specs.Runs.{on_moved, run_from}

module _ (fixed : Fixed) (b k : ℕ) (m : Machine) (d : List ℕ) where
  pub goes : (m' : Machine) (d' : List ℕ) → k < b → step_of fixed m d ≡ next m' d'
      → run_from fixed (b - k) m d k ≡ run_from fixed (b - (k + 1)) m' d' (k + 1)
  unfolding run_from on_moved
  goes m' d' h s = let e : b - k ≡ suc (b - (k + 1)) = omega arith in rw (e, s, add-one)

  pub ends_stopped : (n a : ℕ) → k < b → step_of fixed m d ≡ stop n a
      → run_from fixed (b - k) m d k ≡ record { machine = m; area = d; steps = k; number = n; address = a }
  unfolding run_from on_moved
  ends_stopped n a h s = let e : b - k ≡ suc (b - (k + 1)) = omega arith in rw (e, s)

pub ends_used : (fixed : Fixed) (b k : ℕ) (m : Machine) (d : List ℕ) → k ≡ b
    → run_from fixed (b - k) m d k ≡ record { machine = m; area = d; steps = k; number = 0; address = m.eip }
unfolding run_from
ends_used fixed b k m d h = let e : b - k ≡ 0 = omega arith in rw e
