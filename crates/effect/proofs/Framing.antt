-- No operation but those on singles looks at a single or changes one; and no operation looks at one for where its operand is, or for what it reads. Assumes nothing.
use mathlib.Core.Path.{◌≡◌, refl, ap, ◌∙◌}
use mathlib.Core.Bool.{false, true≢false}
use mathlib.Core.List.{List}
use Prim.Native.Nat.{ℕ}
use native.Mathlib.Omega.{arith}
use Rattle.width.specs.declared.Size.{Size}
use Rattle.width.specs.declared.Size.TheVariants.{Byte}
use Rattle.scalar.specs.declared.Xmm.{Xmm}
use Rattle.std.specs.Prelude.{Option, None, Some}
use Rattle.product.specs.declared.Parts.{Parts}
use Rattle.machine.specs.declared.registers.Machine.{Machine}
use Rattle.machine.specs.Registers.{register, with_register, with_eip, with_flags, with_xmm, part, with_part}
use Rattle.machine.specs.Lending.{xmm_of}
use Rattle.grammar.specs.declared.rule.Repeat.{Repeat}
use Rattle.sense.specs.declared.Arithmetic.{Arithmetic}
use Rattle.sense.specs.declared.Move.{Move}
use Rattle.sense.specs.declared.Stack.{Stack}
use Rattle.sense.specs.declared.Branch.{Branch}
use Rattle.sense.specs.declared.Strings.{Strings}
use Rattle.sense.specs.declared.Operation.{Operation}
use Rattle.plan.specs.declared.Operand.{Operand}
use Rattle.plan.specs.declared.Operand.TheVariants.{Register, Memory, Number}
use Rattle.plan.specs.declared.Address.{Address}
use Rattle.plan.specs.declared.Plan.{Plan}
use Rattle.plan.specs.Addresses.{scaled_index, base_register, address_base, effective_address}
use Rattle.effect.specs.Outcomes.{Sets, Effect, Computed}
use Rattle.effect.specs.Framed.{lent, held, framed}
use Rattle.effect.specs.Words.{becomes, writes, sets, faults, onward, value, assign, assigned}
use Rattle.effect.specs.Bits.{unit_of}
use Rattle.effect.specs.Arithmetic.{arithmetic_address, settled, doubled, multiplied, multiplied_signed, quotient, divided, divided_signed, arithmetic_effect}
use Rattle.effect.specs.Moves.{exchanged, chosen, move_effect, flagging_effect}
use Rattle.effect.specs.Stacks.{above, below, pushed, stack_reads, stack_effect}
use Rattle.effect.specs.Branches.{counted, branched, looped, branch_effect}
use Rattle.effect.specs.Strings.{passed, round, round_reads, repeated, with_machine, idle, string_reads, rounded, string_effect}
use Rattle.effect.specs.Singles.{assign_single, single_moved, single_computed, single_compared, on_singles}
use Rattle.effect.specs.All.{address_by, reads_by, effect_by}
use Rattle.effect.proofs.Choosing.{chosen_both}

-- an effect that puts no single, and the same with these singles
record Framed (xmm : List Xmm) (e e' : Effect) : Type 0 where
  is : e' ≡ framed xmm e
  none : e.outcome ≡ Sets → ⊥

module _ (m : Machine) (xmm : List Xmm) where
  -- so it is where nothing is written
  becomes_framed : Framed xmm (becomes m) (becomes (with_xmm m xmm))
  unfolding becomes framed
  becomes_framed = record { is = refl; none = λ e. absurd (let z : ◌≡◌ {A = ℕ} 0 1 = cc in omega arith) }

  -- where something is
  writes_framed : (w : Size) (a v : ℕ) → Framed xmm (writes m w a v) (writes (with_xmm m xmm) w a v)
  unfolding writes framed
  writes_framed w a v = record { is = refl; none = λ e. absurd (let z : ◌≡◌ {A = ℕ} 0 1 = cc in omega arith) }

  -- with a divide error
  faults_framed : Framed xmm (faults m) (faults (with_xmm m xmm))
  unfolding faults framed
  faults_framed = record { is = refl; none = λ e. absurd (let z : ◌≡◌ {A = ℕ} 0 1 = cc in omega arith) }

module _ (m : Machine) (xmm : List Xmm) where
  -- an operand's value
  value_framed : (o : Operand) (r : ℕ) (w : Size) → value o (with_xmm m xmm) r w ≡ value o m r w
  unfolding register with_xmm part value
  value_framed (Register i) r w = refl
  value_framed Memory r w = refl
  value_framed (Number n) r w = refl

  -- an effective address
  pub effective_framed : (a : Address) → effective_address (with_xmm m xmm) a ≡ effective_address m a
  unfolding register with_xmm scaled_index base_register address_base effective_address
  effective_framed a = refl

  -- a value assigned
  assign_framed : (o : Operand) (a : ℕ) (w : Size) (v : ℕ) → Framed xmm (assign o a m w v) (assign o a (with_xmm m xmm) w v)
  unfolding register with_register with_xmm part with_part assign
  assign_framed (Register i) a w v = becomes_framed (with_part m w i v) xmm
  assign_framed Memory a w v = writes_framed m xmm w a v
  assign_framed (Number n) a w v = becomes_framed m xmm

  -- a value assigned to an operand that is no memory
  assigned_framed : (o : Operand) (w : Size) (v : ℕ) → assigned o (with_xmm m xmm) w v ≡ with_xmm (assigned o m w v) xmm
  unfolding register with_register with_xmm part with_part assigned
  assigned_framed (Register i) w v = refl
  assigned_framed Memory w v = refl
  assigned_framed (Number n) w v = refl

  -- where an operand in memory is
  operand_framed : (op : Arithmetic) (p : Plan) (a : ℕ) → arithmetic_address op (with_xmm m xmm) p a ≡ arithmetic_address op m p a
  unfolding unit_of arithmetic_address
  operand_framed (Arithmetic.Binary op) p a = refl
  operand_framed Arithmetic.Test p a = refl
  operand_framed (Arithmetic.Single op) p a = refl
  operand_framed (Arithmetic.Shift op) p a = refl
  operand_framed Arithmetic.Mul p a = refl
  operand_framed Arithmetic.Imul p a = refl
  operand_framed Arithmetic.ImulLow p a = refl
  operand_framed Arithmetic.Div p a = refl
  operand_framed Arithmetic.Idiv p a = refl
  operand_framed (Arithmetic.Bits op) p a = refl
  operand_framed (Arithmetic.BitString op) p a = rw (value_framed p.source 0 p.size)

  pub address_framed : (op : Operation) (p : Plan) (a : ℕ) → address_by op (with_xmm m xmm) p a ≡ address_by op m p a
  unfolding address_by
  address_framed (Operation.Arithmetic op) p a = operand_framed op p a
  address_framed (Operation.Move op) p a = refl
  address_framed (Operation.Flagging op) p a = refl
  address_framed (Operation.Stack op) p a = refl
  address_framed (Operation.Branch op) p a = refl
  address_framed (Operation.Strings op) p a = refl
  address_framed Operation.MoveSingle p a = refl
  address_framed (Operation.ComputeSingle op) p a = refl
  address_framed Operation.CompareSingle p a = refl

  -- what an operation reads
  stack_reads_lem : (op : Stack) (p : Plan) (a : ℕ) → stack_reads op (with_xmm m xmm) p a ≡ stack_reads op m p a
  unfolding register with_xmm stack_reads
  stack_reads_lem Stack.Push p a = refl
  stack_reads_lem Stack.Pop p a = refl
  stack_reads_lem Stack.Leave p a = refl
  stack_reads_lem Stack.Call p a = refl
  stack_reads_lem Stack.CallTo p a = refl
  stack_reads_lem Stack.Return p a = refl

  round_reads_lem : (op : Strings) (w : Size) → round_reads op (with_xmm m xmm) w ≡ round_reads op m w
  unfolding register with_xmm round_reads
  round_reads_lem Strings.Movs w = refl
  round_reads_lem Strings.Cmps w = refl
  round_reads_lem Strings.Stos w = refl
  round_reads_lem Strings.Lods w = refl
  round_reads_lem Strings.Scas w = refl

  idle_framed : (again : Repeat) → idle again (with_xmm m xmm) ≡ idle again m
  unfolding register with_xmm idle
  idle_framed Repeat.Absent = refl
  idle_framed Repeat.F2 = refl
  idle_framed Repeat.F3 = refl

  pub reads_framed : (op : Operation) (p : Plan) (a : ℕ) → reads_by op (with_xmm m xmm) p a ≡ reads_by op m p a
  unfolding reads_by string_reads
  reads_framed (Operation.Arithmetic op) p a = refl
  reads_framed (Operation.Move op) p a = refl
  reads_framed (Operation.Flagging op) p a = refl
  reads_framed (Operation.Stack op) p a = stack_reads_lem op p a
  reads_framed (Operation.Branch op) p a = refl
  reads_framed (Operation.Strings op) p a = rw (idle_framed p.repeat, round_reads_lem op p.size)
  reads_framed Operation.MoveSingle p a = refl
  reads_framed (Operation.ComputeSingle op) p a = refl
  reads_framed Operation.CompareSingle p a = refl

module _ (m : Machine) (xmm : List Xmm) (p : Plan) where
  -- what was computed, settled
  settled_framed : (c : Computed) (a : ℕ) → Framed xmm (settled c m p a) (settled c (with_xmm m xmm) p a)
  unfolding with_eip with_flags with_xmm onward settled
  settled_framed c a =
      chosen_both (Framed xmm) c.assigned (assign_framed (with_flags (onward m p) c.flags) xmm p.destination a p.size c.value)
      (becomes_framed (with_flags (onward m p) c.flags) xmm)

  -- a division
  quotient_framed : (q : Option Parts) → Framed xmm (quotient q m p) (quotient q (with_xmm m xmm) p)
  unfolding register with_register with_eip with_flags with_xmm part with_part onward doubled quotient
  quotient_framed None = faults_framed m xmm
  quotient_framed (Some d) = becomes_framed _ xmm

  -- what the operations that compute do
  arithmetic_framed : (op : Arithmetic) (a r : ℕ) → Framed xmm (arithmetic_effect op m p a r) (arithmetic_effect op (with_xmm m xmm) p a r)
  unfolding register with_register with_eip with_flags with_xmm part with_part onward doubled multiplied multiplied_signed divided divided_signed arithmetic_effect
  arithmetic_framed (Arithmetic.Binary op) a r = rw (value_framed m xmm p.destination r p.size, value_framed m xmm p.source r p.size) (settled_framed _ a)
  arithmetic_framed Arithmetic.Test a r = rw (value_framed m xmm p.destination r p.size, value_framed m xmm p.source r p.size) (settled_framed _ a)
  arithmetic_framed (Arithmetic.Single op) a r = rw (value_framed m xmm p.destination r p.size) (settled_framed _ a)
  arithmetic_framed (Arithmetic.Shift op) a r = rw (value_framed m xmm p.destination r p.size, value_framed m xmm p.source r Byte) (settled_framed _ a)
  arithmetic_framed Arithmetic.Mul a r = rw (value_framed m xmm p.destination r p.size) (becomes_framed _ xmm)
  arithmetic_framed Arithmetic.Imul a r = rw (value_framed m xmm p.destination r p.size) (becomes_framed _ xmm)
  arithmetic_framed Arithmetic.ImulLow a r = rw (value_framed m xmm p.source r p.size, value_framed m xmm p.other r p.size) (settled_framed _ a)
  arithmetic_framed Arithmetic.Div a r = rw (value_framed m xmm p.destination r p.size) (quotient_framed _)
  arithmetic_framed Arithmetic.Idiv a r = rw (value_framed m xmm p.destination r p.size) (quotient_framed _)
  arithmetic_framed (Arithmetic.Bits op) a r = rw (value_framed m xmm p.destination r p.size, value_framed m xmm p.source r p.size, value_framed m xmm p.other r Byte) (settled_framed _ a)
  arithmetic_framed (Arithmetic.BitString op) a r = rw (value_framed m xmm p.destination r p.size, value_framed m xmm p.source r p.size) (settled_framed _ a)

  -- a value assigned on the way to the next instruction
  onward_framed : (o : Operand) (a : ℕ) (w : Size) (v : ℕ) → Framed xmm (assign o a (onward m p) w v) (assign o a (onward (with_xmm m xmm) p) w v)
  unfolding with_eip with_xmm onward
  onward_framed o a w v = assign_framed (onward m p) xmm o a w v

  -- what the operations that move do
  move_framed : (op : Move) (a r : ℕ) → Framed xmm (move_effect op m p a r) (move_effect op (with_xmm m xmm) p a r)
  unfolding register with_register with_eip with_flags with_xmm part with_part onward exchanged chosen move_effect
  move_framed Move.Mov a r = rw (value_framed m xmm p.source r p.size) (onward_framed p.destination a p.size _)
  move_framed (Move.MovZero from) a r = rw (value_framed m xmm p.source r from) (onward_framed p.destination a p.size _)
  move_framed (Move.MovSign from) a r = rw (value_framed m xmm p.source r from) (onward_framed p.destination a p.size _)
  move_framed Move.Lea a r = onward_framed p.destination a p.size a
  move_framed Move.Xchg a r =
      rw (value_framed m xmm p.destination r p.size, value_framed m xmm p.source r p.size, assigned_framed (onward m p) xmm p.source p.size (value p.destination m r p.size))
      (assign_framed (assigned p.source (onward m p) p.size (value p.destination m r p.size)) xmm p.destination a p.size (value p.source m r p.size))
  move_framed Move.Convert a r = becomes_framed _ xmm
  move_framed Move.Spread a r = becomes_framed _ xmm
  move_framed Move.Bswap a r = rw (value_framed m xmm p.destination r p.size) (onward_framed p.destination a p.size _)
  move_framed (Move.Set n) a r = onward_framed p.destination a p.size _
  move_framed Move.Lahf a r = becomes_framed _ xmm
  move_framed Move.Sahf a r = becomes_framed _ xmm
  move_framed (Move.MovIf n) a r = rw (value_framed m xmm p.source r p.size, value_framed m xmm p.destination r p.size) (onward_framed p.destination a p.size _)

  -- what the operations on the stack do
  stack_framed : (op : Stack) (a r : ℕ) → Framed xmm (stack_effect op m p a r) (stack_effect op (with_xmm m xmm) p a r)
  unfolding register with_register with_eip with_xmm onward above below pushed stack_effect
  stack_framed Stack.Push a r = rw (value_framed m xmm p.source r p.size) (writes_framed _ xmm _ _ _)
  stack_framed Stack.Pop a r = assign_framed (with_register (onward m p) 4 (above m 4 4)) xmm p.destination a p.size r
  stack_framed Stack.Leave a r = becomes_framed _ xmm
  stack_framed Stack.Call a r = writes_framed _ xmm _ _ _
  stack_framed Stack.CallTo a r = rw (value_framed m xmm p.source r p.size) (writes_framed _ xmm _ _ _)
  stack_framed Stack.Return a r = rw (value_framed m xmm p.source r p.size) (becomes_framed _ xmm)

  -- what the branches do
  branch_framed : (op : Branch) (r : ℕ) → Framed xmm (branch_effect op m p r) (branch_effect op (with_xmm m xmm) p r)
  unfolding register with_register with_eip with_xmm counted branched looped branch_effect
  branch_framed Branch.Jump r = becomes_framed _ xmm
  branch_framed Branch.JumpTo r = rw (value_framed m xmm p.source r p.size) (becomes_framed _ xmm)
  branch_framed (Branch.JumpIf n) r = becomes_framed _ xmm
  branch_framed Branch.Loopne r = becomes_framed _ xmm
  branch_framed Branch.Loope r = becomes_framed _ xmm
  branch_framed Branch.Loop r = becomes_framed _ xmm
  branch_framed Branch.Jecxz r = becomes_framed _ xmm

  -- what a round does
  round_framed : (op : Strings) (w : Size) (r s : ℕ) → Framed xmm (round op m w r s) (round op (with_xmm m xmm) w r s)
  unfolding register with_register with_flags with_xmm part with_part passed round
  round_framed Strings.Movs w r s = writes_framed _ xmm _ _ _
  round_framed Strings.Cmps w r s = becomes_framed _ xmm
  round_framed Strings.Stos w r s = writes_framed _ xmm _ _ _
  round_framed Strings.Lods w r s = becomes_framed _ xmm
  round_framed Strings.Scas w r s = becomes_framed _ xmm

  -- and what it comes to, alone or under a prefix
  rounded_framed : (again : Repeat) (op : Strings) {e e' : Effect} → Framed xmm e e' → Framed xmm (rounded again op e p) (rounded again op e' p)
  unfolding register with_register with_eip with_xmm onward counted repeated with_machine rounded framed
  rounded_framed Repeat.Absent op h = record { is = rw h.is; none = h.none }
  rounded_framed Repeat.F2 op h = record { is = rw h.is; none = h.none }
  rounded_framed Repeat.F3 op h = record { is = rw h.is; none = h.none }

  -- what the string operations do
  string_framed : (op : Strings) (r s : ℕ) → Framed xmm (string_effect op m p r s) (string_effect op (with_xmm m xmm) p r s)
  unfolding with_eip with_xmm onward string_effect
  string_framed op r s =
      rw (idle_framed m xmm p.repeat)
      (chosen_both (Framed xmm) (idle p.repeat m) (becomes_framed (onward m p) xmm) (rounded_framed p.repeat op (round_framed op p.size r s)))

-- every operation but those on singles
effect_framed : (op : Operation) → on_singles op ≡ false → (m : Machine) (xmm : List Xmm) (p : Plan) (a r s : ℕ)
    → Framed xmm (effect_by op m p a r s) (effect_by op (with_xmm m xmm) p a r s)
unfolding with_eip with_flags with_xmm onward flagging_effect effect_by on_singles
effect_framed (Operation.Arithmetic op) other m xmm p a r s = arithmetic_framed m xmm p op a r
effect_framed (Operation.Move op) other m xmm p a r s = move_framed m xmm p op a r
effect_framed (Operation.Flagging op) other m xmm p a r s = becomes_framed _ xmm
effect_framed (Operation.Stack op) other m xmm p a r s = stack_framed m xmm p op a r
effect_framed (Operation.Branch op) other m xmm p a r s = branch_framed m xmm p op r
effect_framed (Operation.Strings op) other m xmm p a r s = string_framed m xmm p op r s
effect_framed Operation.MoveSingle other m xmm p a r s = absurd (true≢false other)
effect_framed (Operation.ComputeSingle op) other m xmm p a r s = absurd (true≢false other)
effect_framed Operation.CompareSingle other m xmm p a r s = absurd (true≢false other)

-- it does the same whatever the singles are, and leaves them as they are
pub framing : (op : Operation) → on_singles op ≡ false → (m : Machine) (xmm : List Xmm) (p : Plan) (a r s : ℕ)
    → effect_by op (with_xmm m xmm) p a r s ≡ framed xmm (effect_by op m p a r s)
framing op other m xmm p a r s = (effect_framed op other m xmm p a r s).is

-- and puts none
pub puts_none : (op : Operation) → on_singles op ≡ false → (m : Machine) (p : Plan) (a r s : ℕ) → (effect_by op m p a r s).outcome ≡ Sets → ⊥
puts_none op other m p a r s = (effect_framed op other m m.xmm p a r s).none

-- so what it does to lent registers it does beside lent XMM registers
pub lifted : (op : Operation) → on_singles op ≡ false → (regs xmm : List ℕ) (eip word : ℕ) (p : Plan) (a r s : ℕ) {e : Effect}
    → effect_by op (held regs eip word) p a r s ≡ e → effect_by op (lent regs xmm eip word) p a r s ≡ framed (xmm_of xmm) e
unfolding with_xmm
lifted op other regs xmm eip word p a r s is = framing op other (held regs eip word) (xmm_of xmm) p a r s ∙ ap (framed (xmm_of xmm)) is

-- a single assigned leaves the machine's singles as they are, for the put
assigned_single : (o : Operand) (a : ℕ) (m : Machine) (v : ℕ) → (assign_single o a m v).machine.xmm ≡ m.xmm
unfolding becomes writes sets assign_single
assigned_single (Register i) a m v = refl
assigned_single Memory a m v = refl
assigned_single (Number n) a m v = refl

-- the machine of an effect has the singles of the machine before: only the put of an effect that sets one changes it
pub singles_kept : (op : Operation) (m : Machine) (p : Plan) (a r s : ℕ) → (effect_by op m p a r s).machine.xmm ≡ m.xmm
unfolding with_eip with_flags with_xmm onward becomes single_moved single_computed single_compared effect_by on_singles framed
singles_kept (Operation.Arithmetic op) m p a r s = ap (λ e. e.machine.xmm) (framing (Operation.Arithmetic op) refl m m.xmm p a r s)
singles_kept (Operation.Move op) m p a r s = ap (λ e. e.machine.xmm) (framing (Operation.Move op) refl m m.xmm p a r s)
singles_kept (Operation.Flagging op) m p a r s = ap (λ e. e.machine.xmm) (framing (Operation.Flagging op) refl m m.xmm p a r s)
singles_kept (Operation.Stack op) m p a r s = ap (λ e. e.machine.xmm) (framing (Operation.Stack op) refl m m.xmm p a r s)
singles_kept (Operation.Branch op) m p a r s = ap (λ e. e.machine.xmm) (framing (Operation.Branch op) refl m m.xmm p a r s)
singles_kept (Operation.Strings op) m p a r s = ap (λ e. e.machine.xmm) (framing (Operation.Strings op) refl m m.xmm p a r s)
singles_kept Operation.MoveSingle m p a r s = assigned_single p.destination a (onward m p) _
singles_kept (Operation.ComputeSingle op) m p a r s = assigned_single p.destination a (onward m p) _
singles_kept Operation.CompareSingle m p a r s = refl
