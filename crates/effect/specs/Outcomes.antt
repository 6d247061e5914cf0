-- What an operation comes to: the next machine, perhaps with one write or one single put, or a divide error; and what one computes on the way there. Assumes nothing.
use Rattle.std.specs.Prelude.{Bool, ℕ}
use Rattle.width.specs.declared.Size.{Size}
use Rattle.flags.specs.declared.Flags.{Flags}
use Rattle.machine.specs.declared.registers.Machine.{Machine}

-- the machine changes and nothing is written, or something is, or a single is put into an XMM register, or a divide error
pub data Outcome : Type 0 where
  Becomes : Outcome
  Writes : Outcome
  Sets : Outcome
  Faults : Outcome

-- what an operation reads, in this order: numbers of a size, each at an address
pub data Reads : Type 0 where
  Nothing : Reads
  One : Size → ℕ → Reads
  Two : Size → ℕ → ℕ → Reads

-- the next machine, and the write, or the single that is put into the XMM register with the number `address`, where there is one
pub record Effect : Type 0 where
  pub outcome : Outcome
  pub machine : Machine
  pub size : Size
  pub address : ℕ
  pub value : ℕ

-- what an operation computes: the flags, and a value that is assigned to DEST or not
pub record Computed : Type 0 where
  pub flags : Flags
  pub value : ℕ
  pub assigned : Bool
