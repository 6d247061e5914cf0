-- Flags that an operation leaves undefined, by their names, and what it means that nothing hangs on them. Assumes nothing.
use Rattle.std.specs.Prelude.{◌≡◌, false, List, [], ◌∷◌}
use Rattle.flags.specs.declared.Flags.{Flags}

-- the status flags
pub data Flag : Type 0 where
  CF PF AF ZF SF OF : Flag

-- all six of them
unfoldable pub status_flags : List Flag
status_flags = CF ∷ OF ∷ SF ∷ ZF ∷ AF ∷ PF ∷ []

-- the flags with this one cleared
unfoldable pub cleared : Flag → Flags → Flags
cleared CF f = record { cf = false; pf = f.pf; af = f.af; zf = f.zf; sf = f.sf; df = f.df; of = f.of }
cleared PF f = record { cf = f.cf; pf = false; af = f.af; zf = f.zf; sf = f.sf; df = f.df; of = f.of }
cleared AF f = record { cf = f.cf; pf = f.pf; af = false; zf = f.zf; sf = f.sf; df = f.df; of = f.of }
cleared ZF f = record { cf = f.cf; pf = f.pf; af = f.af; zf = false; sf = f.sf; df = f.df; of = f.of }
cleared SF f = record { cf = f.cf; pf = f.pf; af = f.af; zf = f.zf; sf = false; df = f.df; of = f.of }
cleared OF f = record { cf = f.cf; pf = f.pf; af = f.af; zf = f.zf; sf = f.sf; df = f.df; of = false }

-- the flags with those of a list cleared
unfoldable pub without : List Flag → Flags → Flags
without [] f = f
without (x ∷ us) f = without us (cleared x f)

-- two values of the flags differ only in those of a list: with these cleared they are the same
unfoldable pub DifferOnlyIn : List Flag → Flags → Flags → Type 0
DifferOnlyIn us f g = without us f ≡ without us g

-- what is worked out from flags does not depend on those of a list
unfoldable pub Regardless : {A : Type 0} → List Flag → (Flags → A) → Type 0
Regardless us out = (f g : Flags) → DifferOnlyIn us f g → out f ≡ out g

-- what an operation makes of the flags, where it leaves those of a list undefined: it does not depend on them, and they come out clear
pub record Settles (us : List Flag) (after : Flags → Flags) : Type 0 where
  pub regardless : Regardless us after
  pub clear : (f : Flags) → without us (after f) ≡ after f
