-- What does not look at the flags: operands, addresses, and where an effect puts its value. Assumes nothing.
use mathlib.Core.Path.{◌≡◌, refl}
use mathlib.Core.Bool.{Bool, true, false, cond}
use Prim.Native.Nat.{ℕ}
use Rattle.width.specs.declared.Size.{Size}
use Rattle.flags.specs.declared.Flags.{Flags}
use Rattle.machine.specs.declared.registers.Machine.{Machine}
use Rattle.machine.specs.Registers.{register, with_register, with_eip, with_flags, part, with_part}
use Rattle.sense.specs.declared.Arithmetic.{Arithmetic}
use Rattle.plan.specs.declared.Operand.{Operand}
use Rattle.plan.specs.declared.Operand.TheVariants.{Register, Memory, Number}
use Rattle.plan.specs.declared.Address.{Address}
use Rattle.plan.specs.declared.Plan.{Plan}
use Rattle.plan.specs.Addresses.{scaled_index, base_register, address_base, effective_address}
use Rattle.effect.specs.Outcomes.{Computed}
use Rattle.effect.specs.Words.{becomes, writes, onward, value, assign}
use Rattle.effect.specs.Bits.{unit_of}
use Rattle.effect.specs.Arithmetic.{arithmetic_address, settled}

-- an operand's value
pub value_same : (o : Operand) (m : Machine) (g : Flags) (r : ℕ) (w : Size) → value o (with_flags m g) r w ≡ value o m r w
unfolding register with_flags part value
value_same (Register i) m g r w = refl
value_same Memory m g r w = refl
value_same (Number n) m g r w = refl

-- a part of a register
pub part_same : (m : Machine) (g : Flags) (w : Size) (i : ℕ) → part (with_flags m g) w i ≡ part m w i
unfolding register with_flags part
part_same m g w i = refl

-- an effective address
pub address_same : (m : Machine) (g : Flags) (a : Address) → effective_address (with_flags m g) a ≡ effective_address m a
unfolding register with_flags scaled_index base_register address_base effective_address
address_same m g a = refl

-- where an operand in memory is
pub operand_same : (op : Arithmetic) (m : Machine) (g : Flags) (p : Plan) (a : ℕ) → arithmetic_address op (with_flags m g) p a ≡ arithmetic_address op m p a
unfolding unit_of arithmetic_address
operand_same (Arithmetic.Binary op) m g p a = refl
operand_same Arithmetic.Test m g p a = refl
operand_same (Arithmetic.Single op) m g p a = refl
operand_same (Arithmetic.Shift op) m g p a = refl
operand_same Arithmetic.Mul m g p a = refl
operand_same Arithmetic.Imul m g p a = refl
operand_same Arithmetic.ImulLow m g p a = refl
operand_same Arithmetic.Div m g p a = refl
operand_same Arithmetic.Idiv m g p a = refl
operand_same (Arithmetic.Bits op) m g p a = refl
operand_same (Arithmetic.BitString op) m g p a = rw (value_same p.source m g 0 p.size)

-- what is computed gives the flags, whatever they were
pub settled_same : (c : Computed) (m : Machine) (g : Flags) (p : Plan) (a : ℕ) → settled c (with_flags m g) p a ≡ settled c m p a
unfolding with_eip with_flags onward settled
settled_same c m g p a = refl

-- assigning keeps the flags
assign_flags : (o : Operand) (a : ℕ) (m : Machine) (w : Size) (v : ℕ) → (assign o a m w v).machine.flags ≡ m.flags
unfolding with_register with_part becomes writes assign
assign_flags (Register i) a m w v = refl
assign_flags Memory a m w v = refl
assign_flags (Number n) a m w v = refl

-- what was computed gives the flags
pub settled_flags : (c : Computed) (m : Machine) (p : Plan) (a : ℕ) → (settled c m p a).machine.flags ≡ c.flags
unfolding with_flags becomes settled
settled_flags c m p a = by c.assigned
  where
    by : (b : Bool) → (cond b (assign p.destination a (with_flags (onward m p) c.flags) p.size c.value) (becomes (with_flags (onward m p) c.flags))).machine.flags ≡ c.flags
    by true = assign_flags p.destination a (with_flags (onward m p) c.flags) p.size c.value
    by false = refl
