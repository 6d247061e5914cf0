-- A line of a table of cases, and when it holds of the written rules. Assumes nothing.
use Rattle.std.specs.Prelude.{◌≡◌, true, false, List, [], ◌∷◌, ℕ, ◌+◌, ◌^◌, ◌<◌, length, replicate}
use Rattle.width.specs.Numbers.{bit_at}
use Rattle.flags.specs.Word.{passes}
use Rattle.scalar.specs.declared.Xmm.{Xmm}
use Rattle.machine.specs.Registers.{xmm}
use Rattle.grammar.specs.Cases as Bytes
use Rattle.blockcheck.specs.Blocks.{code_base}
use Rattle.blockcheck.specs.Cases as Blocks
use Rattle.run.specs.declared.Lent.{Lent}
use Rattle.run.specs.Runs.{Ran}
use Rattle.run.specs.Steps.{fixed_to}
use Rattle.run.specs.Runs.{run_of}

-- eight XMM registers with singles that are 0
abbrev pub zeros : List Xmm
zeros = replicate 8 (xmm 0)

-- the machine that a run is lent, by its registers, EIP and the flags word; its singles are 0
abbrev pub lent : List ℕ → ℕ → ℕ → Lent
lent regs eip word = record { regs = regs; xmm = zeros; eip = eip; word = word }

-- a run: what it is given, the machine, steps, number and address that it gives back, and the data that it leaves
pub record Run : Type 0 where
  pub code : List ℕ
  pub constants : List ℕ
  pub given : Lent
  pub area : List ℕ
  pub budget : ℕ
  pub back : Ran
  pub left : List ℕ

-- the run gives that back, and leaves those data
unfoldable pub Gives : Run → Type 0
Gives c = run_of (fixed_to c.code c.constants) c.given c.area c.budget ≡ record { ran = c.back; area = c.left }

-- a run that uses up its budget, and ends with this machine and these data
abbrev pub ends : List ℕ → Lent → List ℕ → ℕ → Lent → List ℕ → Run
ends code given area budget after left =
    record {
      code = code;
      constants = [];
      given = given;
      area = area;
      budget = budget;
      back = record { machine = after; steps = budget; number = 0; address = after.eip };
      left = left;
    }

-- a run that is stopped after so many steps, with a number at an address, and then has this machine and these data
abbrev pub stops : List ℕ → Lent → List ℕ → ℕ → Lent → List ℕ → ℕ → ℕ → ℕ → Run
stops code given area budget after left steps number address =
    record {
      code = code;
      constants = [];
      given = given;
      area = area;
      budget = budget;
      back = record { machine = after; steps = steps; number = number; address = address };
      left = left;
    }

-- a run with constants
abbrev pub lending : List ℕ → Run → Run
lending constants c =
    record {
      code = c.code;
      constants = constants;
      given = c.given;
      area = c.area;
      budget = c.budget;
      back = c.back;
      left = c.left;
    }

-- a run of one step, with no data
abbrev pub step : List ℕ → Lent → Lent → Run
step code given after = ends code given [] 1 after []

-- a divide error in the first step: number 7 at EIP, and the machine as it was
abbrev pub fault : List ℕ → Lent → Run
fault code given = stops code given [] 1 given [] 0 7 given.eip

-- the code's first step changes only EIP, whatever the registers, the singles and the flags are, where OF is clear
unfoldable pub Keeps : List ℕ → Type 0
Keeps code =
    (eax : ℕ) (others : List ℕ) (singles : List Xmm) (word : ℕ)
    → eax < 2 ^ 32
    → passes word ≡ true
    → bit_at 11 word ≡ false
    → Gives
    (step code (record { regs = eax ∷ others; xmm = singles; eip = code_base; word = word })
    (record { regs = eax ∷ others; xmm = singles; eip = code_base + length code; word = word }))

-- a line: a run, code that with OF clear changes only EIP, what some bytes are, or what the block check answers
pub data Case : Type 0 where
  run : Run → Case
  keeps : List ℕ → Case
  bytes : Bytes.BytesCase → Case
  block : Blocks.BlockCase → Case

-- it holds
unfoldable pub Holds : Case → Type 0
Holds (run c) = Gives c
Holds (keeps code) = Keeps code
Holds (bytes c) = Bytes.Holds c.says c.bytes
Holds (block c) = Blocks.Holds c

-- each line of a table holds
unfoldable pub All : List Case → Type 0
All [] = Unit
All (c ∷ cases) = Holds c × All cases
