-- A string operation by its round. Assumes nothing.
use Rattle.std.proofs.Common.{◌≡◌, refl, ℕ, List, true, false}
use Rattle.width.specs.declared.Size.{Size}
use Rattle.machine.specs.declared.registers.Machine.{Machine}
use Rattle.machine.specs.Memory.{Stored, Done, stored_of}
use Rattle.grammar.specs.declared.rule.Repeat.{Repeat}
use Rattle.sense.specs.declared.Strings.{Strings}
use Rattle.plan.specs.declared.Plan.{Plan}
use Rattle.effect.specs.Outcomes.{Effect}
use Rattle.effect.specs.Words.{becomes, writes, onward}
use Rattle.effect.specs.Strings.{round, round_reads, rounded, with_machine, string_reads, string_effect, idle}
use Rattle.effect.specs.Performing.{next, committed, stored}
use Rattle.effect.specs.Does.{Got, got, astray, got_of, done, did}
use Rattle.effect.specs.Rounds.{after, on_next, round_of, string_of}

by_write : (s : Stored) (e : Effect) (m' : Machine) (d : List ℕ) (f : Machine → Machine) → stored s (with_machine e (f e.machine)) d ≡ on_next f (stored s e d)
unfolding stored with_machine
by_write Done e m' d f = refl
by_write (Stored.Outside b) e m' d f = refl

-- of an effect that becomes or writes
of_becomes : (f : Machine → Machine) (m' m : Machine) (d : List ℕ) → done (with_machine (becomes m') (f m')) m d ≡ on_next f (done (becomes m') m d)
unfolding done with_machine becomes committed
of_becomes f m' m d = refl

of_writes : (f : Machine → Machine) (m' : Machine) (w : Size) (a v : ℕ) (m : Machine) (d : List ℕ)
    → done (with_machine (writes m' w a v) (f m')) m d ≡ on_next f (done (writes m' w a v) m d)
unfolding done with_machine writes committed
of_writes f m' w a v m d = by_write (stored_of d w a) (writes m' w a v) m' d f

of_round : (f : Machine → Machine) (op : Strings) (m : Machine) (w : Size) (r s : ℕ) (d : List ℕ)
    → done (with_machine (round op m w r s) (f (round op m w r s).machine)) m d ≡ on_next f (done (round op m w r s) m d)
unfolding round becomes writes
of_round f Strings.Movs m w r s d = of_writes f _ w _ r m d
of_round f Strings.Cmps m w r s d = of_becomes f _ m d
of_round f Strings.Stos m w r s d = of_writes f _ w _ _ m d
of_round f Strings.Lods m w r s d = of_becomes f _ m d
of_round f Strings.Scas m w r s d = of_becomes f _ m d

of_rounded : (again : Repeat) (op : Strings) (m : Machine) (w : Size) (r s : ℕ) (p : Plan) (d : List ℕ)
    → done (rounded again op (round op m w r s) p) m d ≡ on_next (after again op p) (done (round op m w r s) m d)
unfolding rounded after
of_rounded Repeat.Absent op m w r s p d = of_round (λ m'. onward m' p) op m w r s d
of_rounded Repeat.F2 op m w r s p d = of_round (λ m'. Rattle.effect.specs.Strings.repeated Repeat.F2 op m' p) op m w r s d
of_rounded Repeat.F3 op m w r s p d = of_round (λ m'. Rattle.effect.specs.Strings.repeated Repeat.F3 op m' p) op m w r s d

module _ (constants d : List ℕ) (op : Strings) (m : Machine) (p : Plan) where
  -- with nothing to do: on
  pub idles : idle p.repeat m ≡ true
      → string_of constants d op m p ≡ next (onward m p) d
  unfolding string_of string_reads string_effect got_of did done becomes committed
  idles h = rw h

  -- else a round, and what comes after
  pub rounds : idle p.repeat m ≡ false
      → string_of constants d op m p
      ≡ on_next (after p.repeat op p) (round_of constants d op m p.size)
  unfolding string_of round_of string_reads string_effect did
  rounds h = rw h (by (got_of constants d (round_reads op m p.size)))
    where
      by : (g : Got) → did g (λ r s. rounded p.repeat op (round op m p.size r s) p) m d ≡ on_next (after p.repeat op p) (did g (λ r s. round op m p.size r s) m d)
      by (got r s) = of_rounded p.repeat op m p.size r s p d
      by (astray b) = refl
