-- The C interface: what a call of a run, a block check or the reading of a hex file returns, and what it leaves in the areas lent to it. Assumes nothing.
use Rattle.std.specs.Prelude.{◌≡◌, List, [], ◌∷◌, ℕ, min, length, if◌then◌else◌, slice_index, ◌==◌}
use Rattle.machine.specs.Registers.{xmm, bits_in}
use Rattle.run.specs.declared.Lent.{Lent}
use Rattle.run.specs.Steps.{Fixed}
use Rattle.run.specs.Runs.{Ran, HandedBack, run_of}
use Rattle.blockcheck.specs.Blocks.{Judged}
use Rattle.intel_hex.specs.Files.{Outcome}

-- the number for a state or an answer area of another length
unfoldable pub misfit : ℕ
misfit = 90

-- the machine in a state: EAX ECX EDX EBX ESP EBP ESI EDI, EIP, flags word, XMM0 to XMM7 by their bits
unfoldable pub lent_of : List ℕ → Lent
lent_of state =
    record {
      regs = slice_index state 0 ∷ slice_index state 1 ∷ slice_index state 2 ∷ slice_index state 3 ∷ slice_index state 4 ∷ slice_index state 5 ∷ slice_index state 6 ∷ slice_index state 7 ∷ [];
      xmm = xmm (slice_index state 10) ∷ xmm (slice_index state 11) ∷ xmm (slice_index state 12) ∷ xmm (slice_index state 13) ∷ xmm (slice_index state 14) ∷ xmm (slice_index state 15) ∷ xmm (slice_index state 16) ∷ xmm (slice_index state 17) ∷ [];
      eip = slice_index state 8;
      word = slice_index state 9;
    }

-- EIP, flags word and XMM0 to XMM7 in the same places, then the steps and the address
abbrev pub rest_of : Lent → ℕ → ℕ → List ℕ
rest_of m steps address =
    m.eip
    ∷ m.word
    ∷ bits_in m.xmm 0
    ∷ bits_in m.xmm 1
    ∷ bits_in m.xmm 2
    ∷ bits_in m.xmm 3
    ∷ bits_in m.xmm 4
    ∷ bits_in m.xmm 5
    ∷ bits_in m.xmm 6
    ∷ bits_in m.xmm 7
    ∷ steps
    ∷ address
    ∷ []

-- the state after a run: the machine in the same places, then the steps and the address
unfoldable pub state_of : Ran → List ℕ
state_of r =
    slice_index r.machine.regs 0
    ∷ slice_index r.machine.regs 1
    ∷ slice_index r.machine.regs 2
    ∷ slice_index r.machine.regs 3
    ∷ slice_index r.machine.regs 4
    ∷ slice_index r.machine.regs 5
    ∷ slice_index r.machine.regs 6
    ∷ slice_index r.machine.regs 7
    ∷ rest_of r.machine r.steps r.address

-- what a call of a run comes to
pub record Call : Type 0 where
  pub number : ℕ
  pub state : List ℕ
  pub area : List ℕ

-- the run was called
unfoldable pub called : HandedBack → Call
called o = record { number = o.ran.number; state = state_of o.ran; area = o.area }

-- a call with a state of 20 words runs the block; any other changes nothing
unfoldable pub call_of : List ℕ → Fixed → List ℕ → ℕ → Call
call_of state fixed d budget =
    if length state == 20 then called (run_of fixed (lent_of state) d budget)
    else (record { number = misfit; state = state; area = d })

-- the number returned, the state and the data after are what the call comes to
pub record Calls (call : Call) (number : ℕ) (state area : List ℕ) : Type 0 where
  pub is : number ≡ call.number
  pub state_left : state ≡ call.state
  pub area_left : area ≡ call.area

-- the number that a check returns, the marks and the answer after: with an answer area of one word the block is judged; any other changes nothing
pub data Checks (code marks answer : List ℕ) : ℕ → List ℕ → List ℕ → Type 0 where
  unfit : (length answer ≡ 1 → ⊥) → Checks code marks answer misfit marks answer
  judged : length answer ≡ 1 → {number value : ℕ} {after : List ℕ} → Judged code marks number value after
      → Checks code marks answer number after (value ∷ [])

-- a code's length or a line as a word; FFFFFFFFh stands for that line and all after it
unfoldable pub word_of : ℕ → ℕ
word_of n = min n 0xFFFF_FFFF

-- the number that reading a hex file returns, the code area and the answer after: with an answer area of one word the file is read; any other changes nothing
pub data Unhexes (text code answer : List ℕ) : ℕ → List ℕ → List ℕ → Type 0 where
  unfit_answer : (length answer ≡ 1 → ⊥) → Unhexes text code answer misfit code answer
  unhexed : length answer ≡ 1 → {number value : ℕ} {after : List ℕ} → Outcome text code number value after
      → Unhexes text code answer number after (word_of value ∷ [])
