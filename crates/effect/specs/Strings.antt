-- String operations: one round, and what a repeat prefix makes of it. m is the machine before, r and s what was read. Assumes nothing.
use Rattle.std.specs.Prelude.{Bool, true, false, not, ◌&&◌, ◌||◌, ℕ, ◌+◌, pos, if◌then◌else◌, ◌==◌}
use Rattle.std.proofs.Math.IntN.{sub_ℕ}
use Rattle.width.specs.declared.Size.{Size}
use Rattle.width.specs.declared.Size.TheVariants.{Dword}
use Rattle.width.specs.Sizes.{bytes}
use Rattle.width.specs.Numbers.{rest}
use Rattle.arith.specs.declared.Binary.TheVariants.{Cmp}
use Rattle.arith.specs.Binary.{binary_flags}
use Rattle.machine.specs.declared.registers.Machine.{Machine}
use Rattle.machine.specs.Registers.{register, with_register, with_eip, with_flags, part, with_part}
use Rattle.grammar.specs.declared.rule.Repeat.{Repeat}
use Rattle.sense.specs.declared.Strings.{Strings}
use Rattle.plan.specs.declared.Plan.{Plan}
use Rattle.effect.specs.Outcomes.{Effect, Reads, Nothing, One, Two}
use Rattle.effect.specs.Words.{becomes, writes, onward}
use Rattle.effect.specs.Branches.{ecx, counted}

-- ESI and EDI
abbrev pub esi : ℕ
esi = 6

abbrev pub edi : ℕ
edi = 7

-- a register moved on by one element: up with DF clear, down with DF set
unfoldable pub passed : Machine → Size → ℕ → Machine
passed m w i =
    with_register m i
    (if m.flags.df then rest Dword (sub_ℕ (register m i) (bytes w)) else rest Dword (pos (register m i + bytes w)))

-- one round
unfoldable pub round : Strings → Machine → Size → ℕ → ℕ → Effect
-- 003 "MOVS": the element at EDI ← the one at ESI
round Strings.Movs m w r s = writes (passed (passed m w esi) w edi) w (register m edi) r
-- 003 "CMPS": the flags of the element at ESI less the one at EDI
round Strings.Cmps m w r s = becomes (with_flags (passed (passed m w esi) w edi) (binary_flags Cmp w r s m.flags))
-- 003 "STOS": the element at EDI ← the accumulator
round Strings.Stos m w r s = writes (passed m w edi) w (register m edi) (part m w 0)
-- 003 "LODS": the accumulator ← the element at ESI
round Strings.Lods m w r s = becomes (passed (with_part m w 0 r) w esi)
-- 003 "SCAS": the flags of the accumulator less the element at EDI
round Strings.Scas m w r s = becomes (with_flags (passed m w edi) (binary_flags Cmp w (part m w 0) r m.flags))

-- what a round reads, in this order
unfoldable pub round_reads : Strings → Machine → Size → Reads
round_reads Strings.Movs m w = One w (register m esi)
round_reads Strings.Cmps m w = Two w (register m esi) (register m edi)
round_reads Strings.Stos m w = Nothing
round_reads Strings.Lods m w = One w (register m esi)
round_reads Strings.Scas m w = One w (register m edi)

-- whether ZF can end the repetition: of CMPS and SCAS only
unfoldable pub compares : Strings → Bool
compares Strings.Movs = false
compares Strings.Cmps = true
compares Strings.Stos = false
compares Strings.Lods = false
compares Strings.Scas = true

-- the repetition is over with no elements left; of CMPS and SCAS also with ZF clear under F3 and set under F2
unfoldable pub over : Repeat → Strings → ℕ → Bool → Bool
over Repeat.Absent op left zf = true
over Repeat.F3 op left zf = left == 0 || compares op && not zf
over Repeat.F2 op left zf = left == 0 || compares op && zf

-- the machine after a round of a repetition: ECX less 1, and EIP moves on where it is over, else it stays at the first prefix
unfoldable pub repeated : Repeat → Strings → Machine → Plan → Machine
repeated again op m p =
    with_eip (with_register m ecx (counted m)) (if over again op (counted m) m.flags.zf then p.next else m.eip)

-- an effect with another machine
unfoldable pub with_machine : Effect → Machine → Effect
with_machine e m =
    record { outcome = e.outcome; machine = m; size = e.size; address = e.address; value = e.value }

-- whether a repetition has nothing to do: a prefix, and ECX 0
unfoldable pub idle : Repeat → Machine → Bool
idle Repeat.Absent m = false
idle Repeat.F2 m = register m ecx == 0
idle Repeat.F3 m = register m ecx == 0

-- what the operation reads
unfoldable pub string_reads : Strings → Machine → Plan → Reads
string_reads op m p = if idle p.repeat m then Nothing else round_reads op m p.size

-- one round, alone or under a prefix
unfoldable pub rounded : Repeat → Strings → Effect → Plan → Effect
rounded Repeat.Absent op e p = with_machine e (onward e.machine p)
rounded Repeat.F2 op e p = with_machine e (repeated Repeat.F2 op e.machine p)
rounded Repeat.F3 op e p = with_machine e (repeated Repeat.F3 op e.machine p)

-- what the operation does
unfoldable pub string_effect : Strings → Machine → Plan → ℕ → ℕ → Effect
string_effect op m p r s =
    if idle p.repeat m then becomes (onward m p) else rounded p.repeat op (round op m p.size r s) p
