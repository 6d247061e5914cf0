-- The machine's registers and their parts, and the singles of its XMM registers. Assumes nothing.
use Rattle.std.specs.Prelude.{List, ℕ, ◌+◌, ◌-◌, ◌*◌, ◌/◌, ◌%◌, ◌^◌, set, slice_index, slice_index_or}
use Rattle.width.specs.declared.Size.{Size}
use Rattle.width.specs.declared.Size.TheVariants.{Byte, Word, Dword}
use Rattle.width.specs.Sizes.{bits}
use Rattle.flags.specs.declared.Flags.{Flags}
use Rattle.scalar.specs.declared.Xmm.{Xmm}
use Rattle.machine.specs.declared.registers.Machine.{Machine}

-- EAX ECX EDX EBX ESP EBP ESI EDI, by their numbers 0 to 7
unfoldable pub register : Machine → ℕ → ℕ
register m i = slice_index m.regs (i % 8)

unfoldable pub with_register : Machine → ℕ → ℕ → Machine
with_register m i v = record { regs = set m.regs (i % 8) v; xmm = m.xmm; eip = m.eip; flags = m.flags }

unfoldable pub with_eip : Machine → ℕ → Machine
with_eip m eip = record { regs = m.regs; xmm = m.xmm; eip = eip; flags = m.flags }

unfoldable pub with_flags : Machine → Flags → Machine
with_flags m f = record { regs = m.regs; xmm = m.xmm; eip = m.eip; flags = f }

unfoldable pub with_xmm : Machine → List Xmm → Machine
with_xmm m all = record { regs = m.regs; xmm = all; eip = m.eip; flags = m.flags }

-- an XMM register by its single's bits
abbrev pub xmm : ℕ → Xmm
xmm n = record { bits = n }

-- a single's bits, of XMM0 to XMM7 by their numbers 0 to 7
unfoldable pub bits_in : List Xmm → ℕ → ℕ
bits_in all i = (slice_index_or all (i % 8) (xmm 0)).bits

unfoldable pub with_bits : List Xmm → ℕ → ℕ → List Xmm
with_bits all i v = set all (i % 8) (xmm v)

unfoldable pub single : Machine → ℕ → ℕ
single m i = bits_in m.xmm i

unfoldable pub with_single : Machine → ℕ → ℕ → Machine
with_single m i v = with_xmm m (with_bits m.xmm i v)

-- the register that a part lies in: AL CL DL BL AH CH DH BH lie in the first four
unfoldable pub holder : Size → ℕ → ℕ
holder Byte i = i % 4
holder Word i = i
holder Dword i = i

-- the part's lowest bit there: 8 for AH CH DH BH
unfoldable pub lowest : Size → ℕ → ℕ
lowest Byte i = i / 4 % 2 * 8
lowest Word i = 0
lowest Dword i = 0

-- the n bits of a number from bit s on
unfoldable pub bits_from : ℕ → ℕ → ℕ → ℕ
bits_from s n v = v / 2 ^ s % 2 ^ n

-- the part of a register with the number i at a size
unfoldable pub part : Machine → Size → ℕ → ℕ
part m w i = bits_from (lowest w i) (bits w) (register m (holder w i))

-- a 32-bit number v with its n bits from bit s on replaced by those of x
unfoldable pub replaced : ℕ → ℕ → ℕ → ℕ → ℕ
replaced s n v x =
    bits_from (s + n) (32 - (s + n)) v * 2 ^ (s + n) + bits_from 0 n x * 2 ^ s + bits_from 0 s v

-- the machine with another value in a part
unfoldable pub with_part : Machine → Size → ℕ → ℕ → Machine
with_part m w i x =
    with_register m (holder w i) (replaced (lowest w i) (bits w) (register m (holder w i)) x)
