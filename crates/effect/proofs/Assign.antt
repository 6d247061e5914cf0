-- An assignment as a write and then a change of the machine; reads and writes do not look at the machine. Assumes nothing.
use Rattle.std.proofs.Common.{◌≡◌, refl, ℕ, List}
use Rattle.width.specs.declared.Size.{Size}
use Rattle.machine.specs.declared.registers.Machine.{Machine}
use Rattle.machine.specs.Memory.{Stored, Done, stored_of}
use Rattle.plan.specs.declared.Operand.{Operand}
use Rattle.effect.specs.Words.{becomes, writes, faults, assign, assigned}
use Rattle.effect.specs.Performing.{next, stop, committed, stored}
use Rattle.effect.specs.Does.{done, wrote, written, landed}

pub done_assign : (o : Operand) (a : ℕ) (m' : Machine) (w : Size) (v : ℕ) (m : Machine) (d : List ℕ)
    → done (assign o a m' w v) m d ≡ landed (wrote o d w a) (assigned o m' w v) (written o d w a v)
unfolding done wrote written assign assigned becomes writes committed stored
done_assign (Operand.Register i) a m' w v m d = refl
done_assign Operand.Memory a m' w v m d = by (stored_of d w a)
  where
    by : (s : Stored) → stored s (writes m' w a v) d ≡ landed s m' (Rattle.machine.specs.Memory.store_of d w a v)
    by Done = refl
    by (Stored.Outside b) = refl
done_assign (Operand.Number n) a m' w v m d = refl

-- an effect that writes nothing
pub done_becomes : (m' m : Machine) (d : List ℕ) → done (becomes m') m d ≡ next m' d
unfolding done becomes committed
done_becomes m' m d = refl

-- a divide error
pub done_faults : (m : Machine) (d : List ℕ) → done (faults m) m d ≡ stop 7 m.eip
unfolding done faults committed
done_faults m d = refl
