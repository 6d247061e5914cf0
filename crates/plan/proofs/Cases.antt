-- Document 01's case 9, its address, computed from the definitions; an offset alone. Assumes nothing.
use mathlib.Core.Path.{◌≡◌, refl}
use mathlib.Core.List.{[], ◌∷◌}
use Prim.Native.Nat.{ℕ, ◌^◌, ◌<◌}
use native.Mathlib.Omega.{arith}
use Rattle.width.specs.Sizes.{bits, modulus}
use Rattle.width.specs.Numbers.{residue, rest}
use Rattle.flags.specs.Word.{flags_of}
use Rattle.machine.specs.declared.registers.Machine.{Machine}
use Rattle.machine.specs.Registers.{register}
use Rattle.machine.specs.Lending.{holding}
use Rattle.plan.specs.declared.Address.{Address}
use Rattle.plan.specs.Addresses.{scaled_index, base_register, address_base, effective_address}
use Rattle.plan.specs.Plans.{offset_alone}

-- ECX = C0000001h
abbrev pub before : Machine
before = holding (0 ∷ 0xC000_0001 ∷ 0 ∷ 0 ∷ 0 ∷ 0 ∷ 0 ∷ 0 ∷ []) 0 (flags_of 0x0002)

-- of 8D 04 8D 10 00 00 00
abbrev pub address : Address
address = record { modrm = 0x04; sib = 0x8D; displacement = 0x10 }

-- ECX * 4 + 10h wraps at 2^32
pub case_9 : effective_address before address ≡ 0x14
unfolding bits modulus residue rest register scaled_index base_register address_base effective_address
case_9 = refl

-- an offset alone is the address itself
pub offset_is : (m : Machine) (offset : ℕ) → offset < 2 ^ 32 → effective_address m (offset_alone offset) ≡ offset
unfolding bits modulus residue rest scaled_index base_register address_base effective_address offset_alone
offset_is m offset h = omega arith
