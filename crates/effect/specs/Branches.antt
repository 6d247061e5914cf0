-- Jumps and loops: what each does, beside 003's page for it. m is the machine before, a the effective address, r what was read. Assumes nothing.
use Rattle.std.specs.Prelude.{Bool, true, not, ◌&&◌, ℕ, if◌then◌else◌, ◌==◌}
use Rattle.std.proofs.Math.IntN.{sub_ℕ}
use Rattle.width.specs.declared.Size.TheVariants.{Dword}
use Rattle.width.specs.Numbers.{rest}
use Rattle.flags.specs.Conditions.{meets}
use Rattle.machine.specs.declared.registers.Machine.{Machine}
use Rattle.machine.specs.Registers.{register, with_register, with_eip}
use Rattle.sense.specs.declared.Branch.{Branch}
use Rattle.plan.specs.declared.Plan.{Plan}
use Rattle.effect.specs.Outcomes.{Effect, Reads, Nothing}
use Rattle.effect.specs.Words.{becomes, value, read_of}

-- ECX
abbrev pub ecx : ℕ
ecx = 1

-- ECX less 1
unfoldable pub counted : Machine → ℕ
counted m = rest Dword (sub_ℕ (register m ecx) 1)

-- to the target if the test holds, else on
unfoldable pub branched : Bool → Machine → Plan → Machine
branched taken m p = with_eip m (if taken then p.target else p.next)

-- 003 "LOOP/LOOPcc": ECX ← ECX - 1; to the target if ECX isn't 0 and the condition holds
unfoldable pub looped : Bool → Machine → Plan → Effect
looped holds m p = becomes (branched (not (counted m == 0) && holds) (with_register m ecx (counted m)) p)

-- JMP through memory reads its target
unfoldable pub branch_reads : Branch → Plan → ℕ → Reads
branch_reads Branch.Jump p a = Nothing
branch_reads Branch.JumpTo p a = read_of p.source a p.size
branch_reads (Branch.JumpIf n) p a = Nothing
branch_reads Branch.Loopne p a = Nothing
branch_reads Branch.Loope p a = Nothing
branch_reads Branch.Loop p a = Nothing
branch_reads Branch.Jecxz p a = Nothing

-- what the operation does
unfoldable pub branch_effect : Branch → Machine → Plan → ℕ → Effect
-- 003 "JMP": EIP ← the target
branch_effect Branch.Jump m p r = becomes (with_eip m p.target)
branch_effect Branch.JumpTo m p r = becomes (with_eip m (value p.source m r p.size))
-- 003 "Jcc"
branch_effect (Branch.JumpIf n) m p r = becomes (branched (meets n m.flags) m p)
branch_effect Branch.Loopne m p r = looped (not m.flags.zf) m p
branch_effect Branch.Loope m p r = looped m.flags.zf m p
branch_effect Branch.Loop m p r = looped true m p
branch_effect Branch.Jecxz m p r = becomes (branched (register m ecx == 0) m p)
