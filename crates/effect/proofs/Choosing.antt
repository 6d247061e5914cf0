-- A choice between two. Assumes nothing.
use mathlib.Core.Bool.{Bool, true, false, cond}

-- what holds of both of two things holds of the one chosen
pub chosen : {A : Type 0} (P : A → Type 0) (b : Bool) {x y : A} → P x → P y → P (cond b x y)
chosen P true x y = x
chosen P false x y = y

-- what holds between two things and two others, each to each, holds between the ones chosen
pub chosen_both : {A : Type 0} (R : A → A → Type 0) (b : Bool) {x y x' y' : A} → R x x' → R y y' → R (cond b x y) (cond b x' y')
chosen_both R true h k = h
chosen_both R false h k = k
