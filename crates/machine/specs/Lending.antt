-- Registers lent by themselves, and the machine that has them. Assumes nothing.
use Rattle.std.specs.Prelude.{List, [], map, ℕ}
use Rattle.flags.specs.declared.Flags.{Flags}
use Rattle.scalar.specs.declared.Xmm.{Xmm}
use Rattle.machine.specs.declared.registers.Machine.{Machine}
use Rattle.machine.specs.Registers.{xmm}

-- the machine with these registers and singles, at this EIP, with these flags
abbrev pub machine_of : List ℕ → List Xmm → ℕ → Flags → Machine
machine_of regs singles eip f = record { regs = regs; xmm = singles; eip = eip; flags = f }

-- the same without singles, for what neither looks at them nor changes them
abbrev pub holding : List ℕ → ℕ → Flags → Machine
holding regs eip f = machine_of regs [] eip f

-- lent XMM registers, by their bits
unfoldable pub xmm_of : List ℕ → List Xmm
xmm_of bits = map xmm bits
