-- Where EIP goes: it stays, falls to the next instruction or leads to the target, but for each return and each jump or call through a register or memory; and the registers stay as many. Assumes nothing.
use mathlib.Core.Path.{◌≡◌, refl, ◌∙◌}
use mathlib.Core.Bool.{Bool, true, false, cond, true≢false}
use Prim.Native.Nat.{ℕ, ◌%◌}
use lib.ListN.{length, length-set}
use Rattle.width.specs.declared.Size.{Size}
use Rattle.flags.specs.declared.Flags.{Flags}
use Rattle.std.specs.Prelude.{Option, None, Some}
use Rattle.product.specs.declared.Parts.{Parts}
use Rattle.machine.specs.declared.registers.Machine.{Machine}
use Rattle.machine.specs.Registers.{with_register, with_eip, with_flags, with_part}
use Rattle.grammar.specs.declared.rule.Repeat.{Repeat}
use Rattle.sense.specs.declared.Arithmetic.{Arithmetic}
use Rattle.sense.specs.declared.Move.{Move}
use Rattle.sense.specs.declared.Stack.{Stack}
use Rattle.sense.specs.declared.Branch.{Branch}
use Rattle.sense.specs.declared.Strings.{Strings}
use Rattle.sense.specs.declared.Operation.{Operation}
use Rattle.plan.specs.declared.Operand.{Operand}
use Rattle.plan.specs.declared.Operand.TheVariants.{Register, Memory, Number}
use Rattle.plan.specs.declared.Plan.{Plan}
use Rattle.effect.specs.Outcomes.{Effect, Computed}
use Rattle.effect.specs.Words.{becomes, writes, sets, faults, onward, assign, assigned}
use Rattle.effect.specs.Arithmetic.{settled, doubled, multiplied, multiplied_signed, quotient, divided, divided_signed, arithmetic_effect}
use Rattle.effect.specs.Moves.{exchanged, move_effect, flagging_effect}
use Rattle.effect.specs.Stacks.{pushed, stack_effect}
use Rattle.effect.specs.Branches.{branched, looped, branch_effect}
use Rattle.effect.specs.Strings.{over, repeated, with_machine, idle, rounded, string_effect}
use Rattle.effect.specs.Singles.{assign_single, single_moved, single_computed, single_compared}
use Rattle.effect.specs.All.{effect_by}
use Rattle.effect.specs.Ways.{indirect_stack, indirect_branch, indirect}
use Rattle.effect.proofs.Choosing.{chosen}
use Rattle.effect.proofs.Repeats.{round_keeps}

-- where EIP is after an effect: at the instruction itself, at the next one or at the target
pub data Way (m : Machine) (p : Plan) (e : Effect) : Type 0 where
  stays : e.machine.eip ≡ m.eip → Way m p e
  falls : e.machine.eip ≡ p.next → Way m p e
  leads : e.machine.eip ≡ p.target → Way m p e

-- EIP is a, and there are as many registers as in m
record At (m : Machine) (a : ℕ) (after : Machine) : Type 0 where
  place : after.eip ≡ a
  many : length after.regs ≡ length m.regs

-- a machine is at its own EIP
here : (m : Machine) → At m m.eip m
here m = record { place = refl; many = refl }

module _ {m : Machine} {a : ℕ} {after : Machine} (h : At m a after) where
  -- with EIP assigned, it is what was assigned
  eip_set : {b c : ℕ} → b ≡ c → At m c (with_eip after b)
  unfolding with_eip
  eip_set e = record { place = e; many = h.many }

  -- gone on, it is the next instruction's address
  next_set : (p : Plan) → At m p.next (onward after p)
  unfolding onward
  next_set p = eip_set refl

  -- a register assigned keeps both
  register_set : (i v : ℕ) → At m a (with_register after i v)
  unfolding with_register
  register_set i v = record { place = h.place; many = length-set after.regs (i % 8) v ∙ h.many }

  -- so does a part of a register
  part_set : (w : Size) (i v : ℕ) → At m a (with_part after w i v)
  unfolding with_part
  part_set w i v = register_set _ _

  -- so do the flags
  flags_set : (f : Flags) → At m a (with_flags after f)
  unfolding with_flags
  flags_set f = record { place = h.place; many = h.many }

  -- so does an operand that is no memory
  operand_set : (o : Operand) (w : Size) (v : ℕ) → At m a (assigned o after w v)
  unfolding assigned
  operand_set (Register i) w v = part_set w i v
  operand_set Memory w v = h
  operand_set (Number n) w v = h

  -- an effect with no write has its machine's
  of_becomes : At m a (becomes after).machine
  unfolding becomes
  of_becomes = h

  -- so has an effect with a write
  of_writes : (w : Size) (b v : ℕ) → At m a (writes after w b v).machine
  unfolding writes
  of_writes w b v = h

  -- so has an effect that puts a single
  of_sets : (i v : ℕ) → At m a (sets after i v).machine
  unfolding sets
  of_sets i v = h

  -- an effect with another machine has the other's
  of_machine : (e : Effect) → At m a (with_machine e after).machine
  unfolding with_machine
  of_machine e = h

module _ {m : Machine} {a : ℕ} {after : Machine} (h : At m a after) where
  -- the accumulator and the upper half's register assigned keep both
  halves_set : (w : Size) (low high : ℕ) → At m a (doubled after w low high)
  unfolding doubled
  halves_set w low high = part_set (part_set h w 0 low) w _ high

  -- an effect that assigns an operand has its machine's
  of_assign : (o : Operand) (b : ℕ) (w : Size) (v : ℕ) → At m a (assign o b after w v).machine
  unfolding assign
  of_assign (Register i) b w v = of_becomes (part_set h w i v)
  of_assign Memory b w v = of_writes h w b v
  of_assign (Number n) b w v = of_becomes h

  -- so has one that assigns a single
  of_single : (o : Operand) (b v : ℕ) → At m a (assign_single o b after v).machine
  unfolding assign_single
  of_single (Register i) b v = of_sets h i v
  of_single Memory b v = of_writes h _ b v
  of_single (Number n) b v = of_becomes h

  -- so has one that pushes a number
  of_pushed : (v : ℕ) → At m a (pushed after v).machine
  unfolding pushed
  of_pushed v = of_writes (register_set h _ _) _ _ v

-- from the machine before, on to the next instruction
on : (m : Machine) (p : Plan) → At m p.next (onward m p)
on m p = next_set (here m) p

-- an effect has one of the ways, unless it goes through a register or memory; and the registers stay as many
record Course (m : Machine) (p : Plan) (through : Bool) (e : Effect) : Type 0 where
  way : through ≡ false → Way m p e
  many : length e.machine.regs ≡ length m.regs

module _ {m : Machine} {p : Plan} {e : Effect} where
  -- EIP stays
  staying : {through : Bool} → At m m.eip e.machine → Course m p through e
  staying h = record { way = λ _. stays h.place; many = h.many }

  -- EIP falls to the next instruction
  falling : {through : Bool} → At m p.next e.machine → Course m p through e
  falling h = record { way = λ _. falls h.place; many = h.many }

  -- EIP leads to the target
  leading : {through : Bool} → At m p.target e.machine → Course m p through e
  leading h = record { way = λ _. leads h.place; many = h.many }

  -- EIP goes through a register or memory, to any address
  anywhere : {a : ℕ} → At m a e.machine → Course m p true e
  anywhere h = record { way = λ t. absurd (true≢false t); many = h.many }

-- an operation whose value is assigned or not falls
settled_course : (c : Computed) (m : Machine) (p : Plan) (a : ℕ) → Course m p false (settled c m p a)
unfolding settled
settled_course c m p a = chosen (Course m p false) c.assigned (falling (of_assign (flags_set (on m p) _) _ a _ _)) (falling (of_becomes (flags_set (on m p) _)))

-- a division stays with a fault, and else falls
quotient_course : (d : Option Parts) (m : Machine) (p : Plan) → Course m p false (quotient d m p)
unfolding quotient faults
quotient_course None m p = staying (here m)
quotient_course (Some d) m p = falling (of_becomes (halves_set (flags_set (on m p) _) _ d.quotient d.remainder))

-- an operation that computes falls, but for a division's fault
arithmetic_course : (op : Arithmetic) (m : Machine) (p : Plan) (a r : ℕ) → Course m p false (arithmetic_effect op m p a r)
unfolding arithmetic_effect multiplied multiplied_signed divided divided_signed
arithmetic_course (Arithmetic.Binary op) m p a r = settled_course _ m p a
arithmetic_course Arithmetic.Test m p a r = settled_course _ m p a
arithmetic_course (Arithmetic.Single op) m p a r = settled_course _ m p a
arithmetic_course (Arithmetic.Shift op) m p a r = settled_course _ m p a
arithmetic_course Arithmetic.Mul m p a r = falling (of_becomes (halves_set (flags_set (on m p) _) _ _ _))
arithmetic_course Arithmetic.Imul m p a r = falling (of_becomes (halves_set (flags_set (on m p) _) _ _ _))
arithmetic_course Arithmetic.ImulLow m p a r = settled_course _ m p a
arithmetic_course Arithmetic.Div m p a r = quotient_course _ m p
arithmetic_course Arithmetic.Idiv m p a r = quotient_course _ m p
arithmetic_course (Arithmetic.Bits op) m p a r = settled_course _ m p a
arithmetic_course (Arithmetic.BitString op) m p a r = settled_course _ m p a

-- an operation that moves a value falls
move_course : (op : Move) (m : Machine) (p : Plan) (a r : ℕ) → Course m p false (move_effect op m p a r)
unfolding move_effect exchanged
move_course Move.Mov m p a r = falling (of_assign (on m p) _ a _ _)
move_course (Move.MovZero from) m p a r = falling (of_assign (on m p) _ a _ _)
move_course (Move.MovSign from) m p a r = falling (of_assign (on m p) _ a _ _)
move_course Move.Lea m p a r = falling (of_assign (on m p) _ a _ _)
move_course Move.Xchg m p a r = falling (of_assign (operand_set (on m p) _ _ _) _ a _ _)
move_course Move.Convert m p a r = falling (of_becomes (part_set (on m p) _ _ _))
move_course Move.Spread m p a r = falling (of_becomes (part_set (on m p) _ _ _))
move_course Move.Bswap m p a r = falling (of_assign (on m p) _ a _ _)
move_course (Move.Set n) m p a r = falling (of_assign (on m p) _ a _ _)
move_course Move.Lahf m p a r = falling (of_becomes (part_set (on m p) _ _ _))
move_course Move.Sahf m p a r = falling (of_becomes (flags_set (on m p) _))
move_course (Move.MovIf n) m p a r = falling (of_assign (on m p) _ a _ _)

-- an operation on the stack falls, but for a call, which leads or goes through its operand, and a return
stack_course : (op : Stack) (m : Machine) (p : Plan) (a r : ℕ) → Course m p (indirect_stack op) (stack_effect op m p a r)
unfolding stack_effect indirect_stack
stack_course Stack.Push m p a r = falling (of_pushed (on m p) _)
stack_course Stack.Pop m p a r = falling (of_assign (register_set (on m p) _ _) _ a _ _)
stack_course Stack.Leave m p a r = falling (of_becomes (register_set (register_set (on m p) _ _) _ _))
stack_course Stack.Call m p a r = leading (of_pushed (eip_set (here m) refl) _)
stack_course Stack.CallTo m p a r = anywhere (of_pushed (eip_set (here m) refl) _)
stack_course Stack.Return m p a r = anywhere (of_becomes (register_set (eip_set (here m) refl) _ _))

-- a branch leads if the test holds, and else falls
branched_course
    : (taken : Bool) {m after : Machine} (p : Plan) {a : ℕ} → At m a after → Course m p false (becomes (branched taken after p))
unfolding branched
branched_course true p h = leading (of_becomes (eip_set h refl))
branched_course false p h = falling (of_becomes (eip_set h refl))

-- a loop leads or falls
looped_course : (holds : Bool) (m : Machine) (p : Plan) → Course m p false (looped holds m p)
unfolding looped
looped_course holds m p = branched_course _ p (register_set (here m) _ _)

-- a jump leads or falls, but for one through a register or memory
branch_course : (op : Branch) (m : Machine) (p : Plan) (r : ℕ) → Course m p (indirect_branch op) (branch_effect op m p r)
unfolding branch_effect indirect_branch
branch_course Branch.Jump m p r = leading (of_becomes (eip_set (here m) refl))
branch_course Branch.JumpTo m p r = anywhere (of_becomes (eip_set (here m) refl))
branch_course (Branch.JumpIf n) m p r = branched_course _ p (here m)
branch_course Branch.Loopne m p r = looped_course _ m p
branch_course Branch.Loope m p r = looped_course _ m p
branch_course Branch.Loop m p r = looped_course _ m p
branch_course Branch.Jecxz m p r = branched_course _ p (here m)

module _ (m : Machine) (p : Plan) (e : Effect) (h : At m m.eip e.machine) where
  -- a round of a repetition falls if that was the last, and else stays
  repeated_course
      : (ended : Bool) {after : Machine} → At m m.eip after
      → Course m p false (with_machine e (with_eip after (cond ended p.next e.machine.eip)))
  repeated_course true now = falling (of_machine (eip_set now refl) e)
  repeated_course false now = staying (of_machine (eip_set now h.place) e)

  -- a round alone falls; under a prefix it falls or stays
  rounded_course : (again : Repeat) (op : Strings) → Course m p false (rounded again op e p)
  unfolding rounded repeated
  rounded_course Repeat.Absent op = falling (of_machine (next_set h p) e)
  rounded_course Repeat.F2 op = repeated_course (over Repeat.F2 op _ _) (register_set h _ _)
  rounded_course Repeat.F3 op = repeated_course (over Repeat.F3 op _ _) (register_set h _ _)

-- a string operation falls or stays
string_course : (op : Strings) (m : Machine) (p : Plan) (r s : ℕ) → Course m p false (string_effect op m p r s)
unfolding string_effect
string_course op m p r s =
    let kept = round_keeps op m p.size r s in
    chosen (Course m p false) (idle p.repeat m) (falling (of_becomes (on m p)))
    (rounded_course m p _ (record { place = kept.place; many = kept.many }) p.repeat op)

-- every operation has one of the ways, unless it is indirect, and keeps the number of registers
course : (op : Operation) (m : Machine) (p : Plan) (a r s : ℕ) → Course m p (indirect op) (effect_by op m p a r s)
unfolding indirect effect_by flagging_effect single_moved single_computed single_compared
course (Operation.Arithmetic op) m p a r s = arithmetic_course op m p a r
course (Operation.Move op) m p a r s = move_course op m p a r
course (Operation.Flagging op) m p a r s = falling (of_becomes (flags_set (on m p) _))
course (Operation.Stack op) m p a r s = stack_course op m p a r
course (Operation.Branch op) m p a r s = branch_course op m p r
course (Operation.Strings op) m p a r s = string_course op m p r s
course Operation.MoveSingle m p a r s = falling (of_single (on m p) _ a _)
course (Operation.ComputeSingle op) m p a r s = falling (of_single (on m p) _ a _)
course Operation.CompareSingle m p a r s = falling (of_becomes (flags_set (on m p) _))

-- EIP stays, falls to the next instruction or leads to the target, but for each return and each jump or call through a register or memory
pub way : (op : Operation) (m : Machine) (p : Plan) (a r s : ℕ) → indirect op ≡ false → Way m p (effect_by op m p a r s)
way op m p a r s = (course op m p a r s).way

-- every operation keeps the number of registers
pub regs_kept
    : (op : Operation) (m : Machine) (p : Plan) (a r s : ℕ)
    → length (effect_by op m p a r s).machine.regs ≡ length m.regs
regs_kept op m p a r s = (course op m p a r s).many
