-- String operations under F3: with ECX 0 nothing is done, else a round is, ECX less 1; those that don't compare end with the count. Assumes nothing.
use mathlib.Core.Path.{◌≡◌, refl, ◌∙◌}
use mathlib.Core.Bool.{false, cond, or-false}
use Prim.Native.Nat.{ℕ, suc, ◌%◌, ◌^◌, ◌<◌}
use native.Mathlib.Omega.{arith}
use lib.Dec.{eqb}
use lib.ListN.{length, length-set}
use lib.Seq.{get_or-set_same, get_or-set_other}
use borrow.Author.Tests.{ne_eqb}
use Rattle.width.specs.declared.Size.{Size}
use Rattle.width.specs.declared.Size.TheVariants.{Byte, Word, Dword}
use Rattle.width.specs.Sizes.{bits, modulus}
use Rattle.width.specs.Numbers.{residue, rest}
use Rattle.width.proofs.Differences.{is_pos}
use Rattle.flags.specs.declared.Flags.{Flags}
use Rattle.machine.specs.declared.registers.Machine.{Machine}
use Rattle.machine.specs.Registers.{register, with_register, with_eip, with_flags, holder, with_part}
use Rattle.grammar.specs.declared.rule.Repeat.{Repeat}
use Rattle.sense.specs.declared.Strings.{Strings}
use Rattle.plan.specs.declared.Plan.{Plan}
use Rattle.effect.specs.Words.{becomes, writes, onward}
use Rattle.effect.specs.Branches.{ecx, counted}
use Rattle.effect.specs.Strings.{esi, edi, passed, round, compares, over, repeated, with_machine, idle, rounded, string_effect}

-- a change of the machine that keeps ECX, EIP and the number of registers
pub record Kept (m after : Machine) : Type 0 where
  pub count : register after ecx ≡ register m ecx
  pub place : after.eip ≡ m.eip
  pub many : length after.regs ≡ length m.regs

-- two such changes are one
then : {a b c : Machine} → Kept a b → Kept b c → Kept a c
then h k = record { count = k.count ∙ h.count; place = k.place ∙ h.place; many = k.many ∙ h.many }

-- another register is assigned
other : (m : Machine) (i v : ℕ) → (1 ≡ i % 8 → ⊥) → Kept m (with_register m i v)
unfolding register with_register
other m i v h =
    record { count = get_or-set_other m.regs (i % 8) 1 v 0 h; place = refl; many = length-set m.regs (i % 8) v }

-- another register is moved on
moved : (m : Machine) (w : Size) (i : ℕ) → (1 ≡ i % 8 → ⊥) → Kept m (passed m w i)
unfolding passed
moved m w i h = other m i _ h

-- the accumulator is assigned
loaded : (m : Machine) (w : Size) (v : ℕ) → Kept m (with_part m w 0 v)
unfolding with_part holder
loaded m Byte v = other m 0 _ (λ e. omega arith)
loaded m Word v = other m 0 _ (λ e. omega arith)
loaded m Dword v = other m 0 _ (λ e. omega arith)

-- the flags are assigned
flagged : {m after : Machine} → Kept m after → (f : Flags) → Kept m (with_flags after f)
unfolding register with_flags
flagged h f = record { count = h.count; place = h.place; many = h.many }

-- ESI and EDI are moved on
both : (m : Machine) (w : Size) → Kept m (passed (passed m w esi) w edi)
both m w = then (moved m w esi (λ e. omega arith)) (moved _ w edi (λ e. omega arith))

-- a round keeps them
pub round_keeps : (op : Strings) (m : Machine) (w : Size) (r s : ℕ) → Kept m (round op m w r s).machine
unfolding round becomes writes
round_keeps Strings.Movs m w r s = both m w
round_keeps Strings.Cmps m w r s = flagged (both m w) _
round_keeps Strings.Stos m w r s = moved m w edi (λ e. omega arith)
round_keeps Strings.Lods m w r s = then (loaded m w r) (moved _ w esi (λ e. omega arith))
round_keeps Strings.Scas m w r s = flagged (moved m w edi (λ e. omega arith)) _

-- a count less 1
pub less : (m : Machine) (n : ℕ) → register m ecx ≡ suc n → register m ecx < 2 ^ 32 → counted m ≡ n
unfolding counted rest residue modulus bits
less m n h b = rw (h, is_pos (suc n) 1 n (omega arith)) (omega arith)

module _ (op : Strings) (m : Machine) (p : Plan) (r s : ℕ) (prefix : p.repeat ≡ Repeat.F3) where
  -- with ECX 0 nothing is done
  pub none_left : register m ecx ≡ 0 → string_effect op m p r s ≡ becomes (onward m p)
  unfolding string_effect idle
  none_left h = simp (prefix, h)

  module _ (n : ℕ) (count : register m ecx ≡ suc n) (bound : register m ecx < 2 ^ 32) where
    -- else a round is done, and then the count
    one_round : (string_effect op m p r s).machine ≡ repeated Repeat.F3 op (round op m p.size r s).machine p
    unfolding string_effect idle rounded with_machine
    one_round = simp (prefix, ne_eqb (register m ecx) 0 (λ e. omega arith))

    -- the round keeps ECX, EIP and the number of registers
    kept : Kept m (round op m p.size r s).machine
    kept = round_keeps op m p.size r s

    -- what the count is then
    left : counted (round op m p.size r s).machine ≡ n
    left = less _ n (kept.count ∙ count) (rw kept.count bound)

    -- ECX less 1
    pub counts : length m.regs ≡ 8 → register (string_effect op m p r s).machine ecx ≡ n
    unfolding repeated register with_register with_eip
    counts eight =
        let many = kept.many
        in
        rw (one_round, left) (get_or-set_same (round op m p.size r s).machine.regs 1 n 0 (omega arith))

    -- and as many registers as before
    pub as_many : length (string_effect op m p r s).machine.regs ≡ length m.regs
    unfolding repeated with_register with_eip
    as_many = rw one_round (simp length-set kept.many)

    -- of an operation that doesn't compare, EIP moves on with the last round, and stays before
    pub goes_on : compares op ≡ false → (string_effect op m p r s).machine.eip ≡ cond (eqb n 0) p.next m.eip
    unfolding repeated over with_eip with_register
    goes_on plain = rw one_round (simp (left, plain, or-false, kept.place))
