-- The step of a plan by the reads and the effect of its operation. Assumes nothing.
use Rattle.std.proofs.Common.{◌≡◌, refl, ℕ, List}
use Rattle.machine.specs.declared.registers.Machine.{Machine}
use Rattle.machine.specs.Memory.{Loaded, Value, load_of}
use Rattle.plan.specs.declared.Plan.{Plan}
use Rattle.plan.specs.Addresses.{effective_address}
use Rattle.effect.specs.Outcomes.{Reads, Nothing, One, Two}
use Rattle.effect.specs.All.{effect_by}
use Rattle.effect.specs.Performing.{loaded, finished, performed, planned, operand_address}
use Rattle.effect.specs.Does.{first_got, second_got, both_got, got_of, did, done, executed_of}

module _ (p : Plan) (m : Machine) (a : ℕ) (d : List ℕ) where
  one : (l : Loaded) → loaded l (λ r. finished p m a d r 0) ≡ did (first_got l) (λ r s. effect_by p.operation m p a r s) m d
  unfolding loaded finished did done
  one (Value v) = refl
  one (Loaded.Outside b) = refl

  second : (r : ℕ) (l : Loaded) → loaded l (λ s. finished p m a d r s) ≡ did (second_got r l) (λ r' s. effect_by p.operation m p a r' s) m d
  unfolding loaded finished did done
  second r (Value v) = refl
  second r (Loaded.Outside b) = refl

  two : (l l' : Loaded) → loaded l (λ r. loaded l' (λ s. finished p m a d r s)) ≡ did (both_got l l') (λ r s. effect_by p.operation m p a r s) m d
  unfolding loaded did
  two (Value v) l' = second v l'
  two (Loaded.Outside b) l' = refl

  performed_is : (constants : List ℕ) (reads : Reads)
      → performed constants reads p m a d ≡ did (got_of constants d reads) (λ r s. effect_by p.operation m p a r s) m d
  unfolding performed got_of did done finished
  performed_is constants Nothing = refl
  performed_is constants (One w b) = one (load_of constants d w b)
  performed_is constants (Two w b c) = two (load_of constants d w b) (load_of constants d w c)

pub planned_is : (constants : List ℕ) (p : Plan) (m : Machine) (d : List ℕ)
    → planned constants p m d ≡ executed_of p.operation constants d m p (effective_address m p.address)
unfolding planned operand_address executed_of
planned_is constants p m d = performed_is p m (operand_address p m) d constants _
