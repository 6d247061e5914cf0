-- What a plan's step comes to is what its reads come to, and then its effect: one law for all that is said of steps. Assumes nothing.
use mathlib.Core.Path.{◌≡◌, refl}
use mathlib.Core.List.{List}
use Prim.Native.Nat.{ℕ}
use Rattle.width.specs.declared.Size.{Size}
use Rattle.machine.specs.declared.registers.Machine.{Machine}
use Rattle.machine.specs.Memory.{Loaded, Value, load_of}
use Rattle.plan.specs.declared.Plan.{Plan}
use Rattle.effect.specs.Outcomes.{Reads, Nothing, One, Two}
use Rattle.run.specs.Steps.{Moved, stop, finished, loaded, performed}

-- r is what the first read gives, 0 where nothing is read
abbrev pub First : List ℕ → List ℕ → Reads → ℕ → Type 0
First constants d Nothing r = r ≡ 0
First constants d (One w b) r = load_of constants d w b ≡ Value r
First constants d (Two w b c) r = load_of constants d w b ≡ Value r

-- a relation between what two steps come to that holds where a read of both is outside
module _ (R : Moved → Moved → Type 0) (constants d : List ℕ)
    (outside : (w : Size) (a b : ℕ) → load_of constants d w a ≡ Loaded.Outside b → R (stop 5 b) (stop 5 b)) where
  -- holds of a read if it does of what follows
  loaded_both : (w : Size) (a : ℕ) (go go' : ℕ → Moved) → ((v : ℕ) → load_of constants d w a ≡ Value v → R (go v) (go' v))
      → R (loaded (load_of constants d w a) go) (loaded (load_of constants d w a) go')
  unfolding loaded
  loaded_both w a go go' after = by (load_of constants d w a) refl
    where
      by : (answer : Loaded) → load_of constants d w a ≡ answer → R (loaded answer go) (loaded answer go')
      by (Value v) is = after v is
      by (Loaded.Outside b) is = outside w a b is

  -- and of the reads of a plan if it does of its effects
  pub performed_both : (reads : Reads) (p : Plan) (m m' : Machine) (a : ℕ)
      → ((r s : ℕ) → First constants d reads r → R (finished p m a d r s) (finished p m' a d r s))
      → R (performed constants reads p m a d) (performed constants reads p m' a d)
  unfolding performed
  performed_both Nothing p m m' a after = after 0 0 refl
  performed_both (One w b) p m m' a after = loaded_both w b _ _ (λ r is. after r 0 is)
  performed_both (Two w b c) p m m' a after = loaded_both w b _ _ (λ r is. loaded_both w c _ _ (λ s _. after r s is))
