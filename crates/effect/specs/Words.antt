-- The words that effects are written in: an operand's value, assigning, reading. Assumes nothing.
use Rattle.std.specs.Prelude.{ℕ}
use Rattle.width.specs.declared.Size.{Size}
use Rattle.width.specs.declared.Size.TheVariants.{Byte, Dword}
use Rattle.machine.specs.declared.registers.Machine.{Machine}
use Rattle.machine.specs.Registers.{part, with_part, with_eip}
use Rattle.plan.specs.declared.Operand.{Operand}
use Rattle.plan.specs.declared.Operand.TheVariants.{Register, Memory, Number}
use Rattle.plan.specs.declared.Plan.{Plan}
use Rattle.effect.specs.Outcomes.{Becomes, Writes, Sets, Faults, Effect, Reads, Nothing, One}

-- the next machine, with no write
unfoldable pub becomes : Machine → Effect
becomes m = record { outcome = Becomes; machine = m; size = Byte; address = 0; value = 0 }

-- the next machine, and v written at an address
unfoldable pub writes : Machine → Size → ℕ → ℕ → Effect
writes m w a v = record { outcome = Writes; machine = m; size = w; address = a; value = v }

-- the next machine, and the bits v put into an XMM register
unfoldable pub sets : Machine → ℕ → ℕ → Effect
sets m i v = record { outcome = Sets; machine = m; size = Dword; address = i; value = v }

-- a divide error
unfoldable pub faults : Machine → Effect
faults m = record { outcome = Faults; machine = m; size = Byte; address = 0; value = 0 }

-- the machine at the next instruction
unfoldable pub onward : Machine → Plan → Machine
onward m p = with_eip m p.next

-- an operand's value at a size, where r is what was read of memory
unfoldable pub value : Operand → Machine → ℕ → Size → ℕ
value (Register i) m r w = part m w i
value Memory m r w = r
value (Number n) m r w = n

-- v assigned to an operand, where a is its address if it lies in memory
unfoldable pub assign : Operand → ℕ → Machine → Size → ℕ → Effect
assign (Register i) a m w v = becomes (with_part m w i v)
assign Memory a m w v = writes m w a v
assign (Number n) a m w v = becomes m

-- v assigned to an operand that is no memory
unfoldable pub assigned : Operand → Machine → Size → ℕ → Machine
assigned (Register i) m w v = with_part m w i v
assigned Memory m w v = m
assigned (Number n) m w v = m

-- a read of an operand, where it lies in memory, at the address a; else what is read besides
unfoldable pub read_or : Operand → ℕ → Size → Reads → Reads
read_or (Register i) a w besides = besides
read_or Memory a w besides = One w a
read_or (Number n) a w besides = besides

-- a read of an operand, where it lies in memory
unfoldable pub read_of : Operand → ℕ → Size → Reads
read_of o a w = read_or o a w Nothing
