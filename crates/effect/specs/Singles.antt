-- Operations on singles: what each does, beside 003's page for it. m is the machine before, a the effective address, r what was read. Assumes nothing.
use Rattle.std.specs.Prelude.{Bool, true, false, ℕ}
use Rattle.width.specs.declared.Size.TheVariants.{Dword}
use Rattle.scalar.specs.declared.Compute.{Compute}
use Rattle.scalar.specs.Singles.{computed, compared}
use Rattle.machine.specs.declared.registers.Machine.{Machine}
use Rattle.machine.specs.Registers.{single, with_flags}
use Rattle.sense.specs.declared.Operation.{Operation}
use Rattle.plan.specs.declared.Operand.{Operand}
use Rattle.plan.specs.declared.Operand.TheVariants.{Register, Memory, Number}
use Rattle.plan.specs.declared.Plan.{Plan}
use Rattle.effect.specs.Outcomes.{Effect, Reads}
use Rattle.effect.specs.Words.{becomes, writes, sets, onward, read_of}

-- an operand's single: that of an XMM register, or the 4 bytes that were read
unfoldable pub single_value : Operand → Machine → ℕ → ℕ
single_value (Register i) m r = single m i
single_value Memory m r = r
single_value (Number n) m r = n

-- v assigned to an XMM register, or to the 4 bytes at a
unfoldable pub assign_single : Operand → ℕ → Machine → ℕ → Effect
assign_single (Register i) a m v = sets m i v
assign_single Memory a m v = writes m Dword a v
assign_single (Number n) a m v = becomes m

-- the source is read, where it lies in memory
unfoldable pub single_reads : Plan → ℕ → Reads
single_reads p a = read_of p.source a Dword

-- 003 "MOVSS": DEST ← SRC
unfoldable pub single_moved : Machine → Plan → ℕ → ℕ → Effect
single_moved m p a r = assign_single p.destination a (onward m p) (single_value p.source m r)

-- 003 "ADDSS", "MULSS", "SUBSS", "MINSS", "DIVSS", "MAXSS": DEST ← DEST op SRC
unfoldable pub single_computed : Compute → Machine → Plan → ℕ → ℕ → Effect
single_computed op m p a r =
    assign_single p.destination a (onward m p) (computed op (single_value p.destination m r) (single_value p.source m r))

-- 003 "COMISS": the flags of DEST compared with SRC
unfoldable pub single_compared : Machine → Plan → ℕ → Effect
single_compared m p r =
    becomes (with_flags (onward m p) (compared (single_value p.destination m r) (single_value p.source m r) m.flags))

-- whether an operation is one on singles
unfoldable pub on_singles : Operation → Bool
on_singles (Operation.Arithmetic op) = false
on_singles (Operation.Move op) = false
on_singles (Operation.Flagging op) = false
on_singles (Operation.Stack op) = false
on_singles (Operation.Branch op) = false
on_singles (Operation.Strings op) = false
on_singles Operation.MoveSingle = true
on_singles (Operation.ComputeSingle op) = true
on_singles Operation.CompareSingle = true
