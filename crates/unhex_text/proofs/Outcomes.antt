-- The answer to a file is determined. Assumes nothing.
use mathlib.Core.Path.{◌≡◌, refl, ap, ap₂}
use mathlib.Core.List.{List}
use Prim.Native.Nat.{ℕ}
use native.Mathlib.Omega.{arith}
use Rattle.intel_hex.proofs.Outcomes.{outcome_unique}
use Rattle.std.specs.Prelude.{Some}
use Rattle.std.specs.declared.option.Option.{Option}
use Rattle.text.specs.Fields.{refusal}
use Rattle.unhex_text.specs.Unhexing.{code_line, Told, code, refused, too_long, Unhexed}
use Rattle.unhex_text.specs.declared.Ends.{Ends}

-- any two answers to a text coincide
told_unique : {a b : Option ℕ} {text area x y l m : List ℕ} → Told text area a x l → Told text area b y m → (a ≡ b) × (x ≡ y) × (l ≡ m)
told_unique (code short some o) (code small few p) =
    let (number, size, after) = outcome_unique o p in
    (ap Some size, after, ap code_line size)
told_unique (code short some o) (refused small few p) =
    let (number, size, after) = outcome_unique o p in
    absurd (omega arith)
told_unique (code short some o) (too_long long) = absurd (omega arith)
told_unique (refused short some o) (code small few p) =
    let (number, size, after) = outcome_unique o p in
    absurd (omega arith)
told_unique (refused short some o) (refused small few p) =
    let (number, place, after) = outcome_unique o p in
    (refl, refl, ap₂ refusal number place)
told_unique (refused short some o) (too_long long) = absurd (omega arith)
told_unique (too_long long) (code short some o) = absurd (omega arith)
told_unique (too_long long) (refused short some o) = absurd (omega arith)
told_unique (too_long long) (too_long far) = (refl, refl, refl)

-- any two permitted outcomes coincide
pub unhexed_unique : {text area out area₁ area₂ out₁ out₂ : List ℕ} {ends₁ ends₂ : Ends} → Unhexed text area out ends₁ area₁ out₁
    → Unhexed text area out ends₂ area₂ out₂ → (ends₁.code ≡ ends₂.code) × (ends₁.line ≡ ends₂.line) × (area₁ ≡ area₂) × (out₁ ≡ out₂)
unhexed_unique a b =
    let (size, area, line) = told_unique a.told b.told in
    let place = a.wrote.place in
    let other_place = b.wrote.place in
    let out = a.wrote.holds in
    let other_out = b.wrote.holds in
    (size, cc, area, cc)
