-- A pause changes nothing: a call with n, and one with m on what came back, with the same code and constants, end as one call with n + m does. Assumes nothing.
use mathlib.Core.Path.{◌≡◌, ap, ◌∙◌}
use mathlib.Core.List.{List}
use Prim.Native.Nat.{ℕ, ◌+◌, ◌<◌, ◌≤◌}
use lib.ListN.{length, take}
use borrow.Author.Tests.{eq-eqb}
use Rattle.scalar.specs.declared.Xmm.{Xmm}
use Rattle.machine.specs.Registers.{xmm, bits_in}
use Rattle.machine.proofs.Lists.{listed, eight_listed}
use Rattle.run.specs.declared.Lent.{Lent}
use Rattle.run.specs.Steps.{Fixed}
use Rattle.run.specs.Runs.{Ran, HandedBack, run_of}
use Rattle.run.proofs.Kept.{as_lent}
use Rattle.run.specs.Pausing.{Joined}
use Rattle.run.proofs.Law.{law}
use Rattle.sangolid.specs.Interface.{lent_of, state_of, called, call_of}
use Rattle.sangolid.specs.Pausing.{again, Continues}

-- a machine of eight registers and eight singles
abbrev Eight : Lent → Type 0
Eight m = (length m.regs ≡ 8) × (length m.xmm ≡ 8)

-- handed back, it is lent again as it was
lent_again : (r : Ran) → Eight r.machine → lent_of (state_of r) ≡ r.machine
unfolding lent_of state_of bits_in
lent_again r eight =
    let m = r.machine in
    ap (λ (regs : List ℕ). record { regs = regs; xmm = listed (xmm 0) 8 0 m.xmm; eip = m.eip; word = m.word }) (eight_listed 0 m.regs eight.0)
    ∙ ap (λ (singles : List Xmm). record { regs = m.regs; xmm = singles; eip = m.eip; word = m.word }) (eight_listed (xmm 0) m.xmm eight.1)

-- a call hands back eight of both
eight_back : (state : List ℕ) (fixed : Fixed) (d : List ℕ) (budget : ℕ) → Eight (run_of fixed (lent_of state) d budget).ran.machine
unfolding lent_of
eight_back state fixed d budget = as_lent fixed (lent_of state) d budget

-- runs that join are calls that continue
continues : {first second whole : HandedBack} → Joined first second whole → Continues (called first) (called second) (called whole)
unfolding called state_of
continues joined =
    record {
      machine = ap (λ (l : Lent). take 18 (state_of (record { machine = l; steps = 0; number = 0; address = 0 }))) joined.machine;
      steps = joined.steps;
      address = joined.address;
      area = joined.area;
      number = joined.number;
    }

-- m at least 1, n + m within the limit: a call with n, and again with m, as one with n + m, all three with the same code and constants; the states of another length are those of `misfit_changes_nothing`
pub pause : (state : List ℕ) (fixed : Fixed) (d : List ℕ) (n m : ℕ) → length state ≡ 20 → 0 < m → n + m ≤ 1_000_000
    → Continues (call_of state fixed d n) (again (call_of state fixed d n) fixed m) (call_of state fixed d (n + m))
unfolding call_of called state_of again
pause state fixed d n m twenty some small =
    let first = run_of fixed (lent_of state) d n in
    rw (eq-eqb _ _ twenty, lent_again first.ran (eight_back state fixed d n))
    (continues (law fixed (lent_of state) d n m some small))
