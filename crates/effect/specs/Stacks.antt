-- Operations on the stack: what each does, beside 003's page for it. m is the machine before, a the effective address, r what was read. Assumes nothing.
use Rattle.std.specs.Prelude.{ℕ, ◌+◌, pos}
use Rattle.std.proofs.Math.IntN.{sub_ℕ}
use Rattle.width.specs.declared.Size.TheVariants.{Dword}
use Rattle.width.specs.Numbers.{rest}
use Rattle.machine.specs.declared.registers.Machine.{Machine}
use Rattle.machine.specs.Registers.{register, with_register, with_eip}
use Rattle.sense.specs.declared.Stack.{Stack}
use Rattle.plan.specs.declared.Plan.{Plan}
use Rattle.effect.specs.Outcomes.{Effect, Reads, Nothing, One}
use Rattle.effect.specs.Words.{becomes, writes, onward, value, assign, read_of}

-- ESP and EBP
abbrev pub esp : ℕ
esp = 4

abbrev pub ebp : ℕ
ebp = 5

-- the address n bytes above the one in a register
unfoldable pub above : Machine → ℕ → ℕ → ℕ
above m i n = rest Dword (pos (register m i + n))

-- the address 4 bytes below ESP
unfoldable pub below : Machine → ℕ
below m = rest Dword (sub_ℕ (register m esp) 4)

-- 003 "PUSH": ESP ← ESP - 4; the doubleword at ESP ← v. The value is the one before: PUSH ESP stores the old ESP
unfoldable pub pushed : Machine → ℕ → Effect
pushed m v = writes (with_register m esp (below m)) Dword (below m) v

-- what the operation reads: a pop its doubleword, LEAVE the one at EBP
unfoldable pub stack_reads : Stack → Machine → Plan → ℕ → Reads
stack_reads Stack.Push m p a = read_of p.source a p.size
stack_reads Stack.Pop m p a = One Dword (register m esp)
stack_reads Stack.Leave m p a = One Dword (register m ebp)
stack_reads Stack.Call m p a = Nothing
stack_reads Stack.CallTo m p a = read_of p.source a p.size
stack_reads Stack.Return m p a = One Dword (register m esp)

-- what the operation does
unfoldable pub stack_effect : Stack → Machine → Plan → ℕ → ℕ → Effect
stack_effect Stack.Push m p a r = pushed (onward m p) (value p.source m r p.size)
-- 003 "POP": DEST ← the doubleword at ESP; ESP ← ESP + 4 before, so that POP ESP ends with the popped word
stack_effect Stack.Pop m p a r = assign p.destination a (with_register (onward m p) esp (above m esp 4)) p.size r
-- 003 "LEAVE": ESP ← EBP; EBP ← Pop()
stack_effect Stack.Leave m p a r = becomes (with_register (with_register (onward m p) esp (above m ebp 4)) ebp r)
-- 003 "CALL": Push(EIP); EIP ← the target
stack_effect Stack.Call m p a r = pushed (with_eip m p.target) p.next
stack_effect Stack.CallTo m p a r = pushed (with_eip m (value p.source m r p.size)) p.next
-- 003 "RET": EIP ← Pop(); ESP ← ESP + SRC
stack_effect Stack.Return m p a r =
    becomes (with_register (with_eip m r) esp (above m esp (4 + value p.source m r p.size)))
