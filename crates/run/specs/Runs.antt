-- A run: refusals 10 to 13 and 15 before any step, then steps until the budget is used up or one stops. Assumes nothing.
use Rattle.std.specs.Prelude.{◌≡◌, not, ◌||◌, List, ℕ, zero, suc, length, if◌then◌else◌, nat_lt, ◌==◌}
use Rattle.flags.specs.Word.{word_of, flags_of, passes}
use Rattle.machine.specs.declared.registers.Machine.{Machine}
use Rattle.effect.specs.Stops as Stops
use Rattle.run.specs.declared.refusal.Refusal.{Refusal}
use Rattle.run.specs.declared.End.{End}
use Rattle.run.specs.declared.Lent.{Lent}
use Rattle.run.specs.declared.Ran as Code
use Rattle.run.specs.Steps.{Fixed, Moved, next, stop, step_of}

-- what a run of steps ends with
pub record Ended : Type 0 where
  pub machine : Machine
  pub area : List ℕ
  pub steps : ℕ
  pub number : ℕ
  pub address : ℕ

-- goes on with the next machine and data, or stops
unfoldable pub on_moved : {A : Type 0} → Moved → (Machine → List ℕ → A) → (ℕ → ℕ → A) → A
on_moved (next m d) go end = go m d
on_moved (stop n a) go end = end n a

-- so many steps at the most, k being done: with 0 left the number is 0, and nothing further is looked at
unfoldable pub run_from : Fixed → ℕ → Machine → List ℕ → ℕ → Ended
run_from fixed zero m d k = record { machine = m; area = d; steps = k; number = 0; address = m.eip }
run_from fixed (suc b) m d k =
    on_moved (step_of fixed m d) (λ m' d'. run_from fixed b m' d' (suc k))
    (λ n a. record { machine = m; area = d; steps = k; number = n; address = a })

-- the number that a run is refused with, 0 if it is not: code length, data length, constants length, flags word, budget, in that order
unfoldable pub refusal : ℕ → ℕ → ℕ → ℕ → ℕ → ℕ
refusal code_length data_length constants_length word budget =
    if code_length == 0 || nat_lt 65_536 code_length then 10
    else (if nat_lt 65_536 data_length then 11
    else (if nat_lt 65_536 constants_length then 15 else (if not (passes word) then 12 else (if nat_lt 1_000_000 budget then 13 else 0))))

-- the same of a run over these areas
abbrev pub refusal_of : Fixed → List ℕ → ℕ → ℕ → ℕ
refusal_of fixed d word budget = refusal (length fixed.code) (length d) (length fixed.constants) word budget

-- the lent machine, with its flags taken apart
unfoldable pub opened : Lent → Machine
opened l = record { regs = l.regs; xmm = l.xmm; eip = l.eip; flags = flags_of l.word }

-- a machine as it is handed back
unfoldable pub closed : Machine → Lent
closed m = record { regs = m.regs; xmm = m.xmm; eip = m.eip; word = word_of m.flags }

-- what a run hands back: the machine, the steps done, and the number and the address that it ends with
pub record Ran : Type 0 where
  pub machine : Lent
  pub steps : ℕ
  pub number : ℕ
  pub address : ℕ

-- that, and the data that it leaves
pub record HandedBack : Type 0 where
  pub ran : Ran
  pub area : List ℕ

-- the number of a refusal
unfoldable pub number_of : Refusal → ℕ
number_of Refusal.Code = 10
number_of Refusal.Data = 11
number_of Refusal.Constants = 15
number_of Refusal.Flags = 12
number_of Refusal.Budget = 13

-- the number of what ends a run: 0 of the budget
unfoldable pub number_at : End → ℕ
number_at End.Budget = 0
number_at (End.Stop s) = Stops.number_of s
number_at (End.Refused r) = number_of r

-- the address that comes with it, where EIP is as given
unfoldable pub address_at : End → ℕ → ℕ
address_at End.Budget eip = eip
address_at (End.Stop s) eip = Stops.address_of s eip
address_at (End.Refused r) eip = 0

-- what r hands back, with the number and the address of its end
unfoldable pub told : Code.Ran → Ran
told r = record { machine = r.machine; steps = r.steps; number = number_at r.end; address = address_at r.end r.machine.eip }

-- r and the data after are what the run hands back
pub record Runs (o : HandedBack) (r : Code.Ran) (after : List ℕ) : Type 0 where
  pub is : told r ≡ o.ran
  pub left : after ≡ o.area

-- steps were taken
unfoldable pub taken : Ended → HandedBack
taken e =
    record {
      ran = record { machine = closed e.machine; steps = e.steps; number = e.number; address = e.address };
      area = e.area;
    }

-- no step was taken: the machine and the data as handed in
unfoldable pub refused : Lent → List ℕ → ℕ → HandedBack
refused l d n = record { ran = record { machine = l; steps = 0; number = n; address = 0 }; area = d }

-- a run of a block
unfoldable pub run_of : Fixed → Lent → List ℕ → ℕ → HandedBack
run_of fixed l d budget =
    if refusal_of fixed d l.word budget == 0 then taken (run_from fixed budget (opened l) d 0)
    else refused l d (refusal_of fixed d l.word budget)

-- a machine has as many registers and XMM registers as another, and its data are as long as the other's
pub record Kept (m : Machine) (d : List ℕ) (m' : Machine) (d' : List ℕ) : Type 0 where
  pub registers : length m'.regs ≡ length m.regs
  pub singles : length m'.xmm ≡ length m.xmm
  pub long : length d' ≡ length d
