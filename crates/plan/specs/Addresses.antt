-- Effective addresses by 003's tables 2-2 and 2-3, from the registers before the instruction, wrapping at 2^32. Assumes nothing.
use Rattle.std.specs.Prelude.{◌&&◌, ℕ, ◌+◌, ◌*◌, ◌/◌, ◌%◌, ◌^◌, pos, if◌then◌else◌, ◌==◌}
use Rattle.width.specs.declared.Size.TheVariants.{Dword}
use Rattle.width.specs.Numbers.{rest}
use Rattle.machine.specs.declared.registers.Machine.{Machine}
use Rattle.machine.specs.Registers.{register}
use Rattle.grammar.specs.Grammar.{mod_of, rm_of, base_of}
use Rattle.plan.specs.declared.Address.{Address}

-- a SIB byte's index: the register times 1, 2, 4 or 8; index 4 is none
unfoldable pub scaled_index : Machine → ℕ → ℕ
scaled_index m sib = if sib / 8 % 8 == 4 then 0 else register m (sib / 8 % 8) * 2 ^ (sib / 64)

-- the base register with the number i, of a SIB byte or of R/M; with Mod 0 number 5 is none
unfoldable pub base_register : Machine → ℕ → ℕ → ℕ
base_register m modrm i = if mod_of modrm == 0 && i == 5 then 0 else register m i

-- what the displacement is added to: with R/M 4 what the SIB byte says
unfoldable pub address_base : Machine → ℕ → ℕ → ℕ
address_base m modrm sib =
    if rm_of modrm == 4 then base_register m modrm (base_of sib) + scaled_index m sib
    else base_register m modrm (rm_of modrm)

-- the effective address
unfoldable pub effective_address : Machine → Address → ℕ
effective_address m a = rest Dword (pos (address_base m a.modrm a.sib + a.displacement))
