-- What does not depend on some flags, and settles them: how it is shown, and that the policy settles all six. Assumes nothing.
use mathlib.Core.Path.{◌≡◌, refl, sym, ap, ◌∙◌}
use mathlib.Core.Bool.{Bool, true, false, cond}
use mathlib.Core.List.{List, [], ◌∷◌, ◌++◌}
use Rattle.flags.specs.declared.Flags.{Flags}
use Rattle.flags.specs.Results.{undefined_flag, all_undefined}
use Rattle.flags.specs.Undefined.{Flag, status_flags, cleared, without, DifferOnlyIn, Regardless, Settles}

-- what comes out the same with these flags cleared before does not depend on them
pub regardless : {A : Type 0} (us : List Flag) (out : Flags → A) → ((f : Flags) → out (without us f) ≡ out f) → Regardless us out
unfolding DifferOnlyIn Regardless
regardless us out same f g h = sym (same f) ∙ ap out h ∙ same g

-- it comes out the same with these flags cleared, before or after
unfoldable pub Aside : List Flag → (Flags → Flags) → Type 0
Aside us after = (f : Flags) → (after (without us f) ≡ after f) × (without us (after f) ≡ after f)

-- and so settles them
pub settles : (us : List Flag) (after : Flags → Flags) → Aside us after → Settles us after
unfolding Aside
settles us after h = record { regardless = regardless us after (λ f. (h f).0); clear = λ f. (h f).1 }

-- no flag
pub none_aside : (after : Flags → Flags) → Aside [] after
unfolding without Aside
none_aside after f = (refl, refl)

-- clearing those of two lists is clearing those of one, and then those of the other
joined : (us vs : List Flag) (f : Flags) → without (us ++ vs) f ≡ without vs (without us f)
unfolding without
joined [] vs f = refl
joined (x ∷ us) vs f = joined us vs (cleared x f)

-- those of two lists
pub both_aside : (us vs : List Flag) (after : Flags → Flags) → Aside us after → Aside vs after → Aside (us ++ vs) after
unfolding Aside
both_aside us vs after p q f =
    (ap after (joined us vs f) ∙ (q (without us f)).0 ∙ (p f).0, joined us vs (after f) ∙ ap (without vs) (p f).1 ∙ (q f).1)

-- those of a list, unless a test holds
pub unless_aside : (b : Bool) (us : List Flag) (after : Flags → Flags) → (b ≡ false → Aside us after) → Aside (cond b [] us) after
unless_aside true us after h = none_aside after
unless_aside false us after h = h refl

-- one way or another, each with its list
pub either_aside : (b : Bool) (us vs : List Flag) (after other : Flags → Flags) → Aside us after → Aside vs other
    → Aside (cond b us vs) (λ f. cond b (after f) (other f))
either_aside true us vs after other p q = p
either_aside false us vs after other p q = q

-- all six by the policy
pub all_aside : Aside status_flags all_undefined
unfolding undefined_flag all_undefined status_flags cleared without Aside
all_aside f = (refl, refl)

pub all_settle : Settles status_flags all_undefined
all_settle = settles status_flags all_undefined all_aside
