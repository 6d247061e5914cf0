-- The listing is determined, and the longest fits its buffer. Assumes nothing.
use mathlib.Core.Path.{◌≡◌}
use mathlib.Core.List.{List}
use Prim.Native.Nat.{ℕ}
use Rattle.blockcheck.proofs.Verdicts.{judged_unique}
use Rattle.listing_text.specs.Listing.{Listed}

-- any two permitted outcomes coincide
pub listed_unique : {code marks out marks₁ marks₂ out₁ out₂ : List ℕ} {next₁ next₂ : ℕ} → Listed code marks out next₁ marks₁ out₁
    → Listed code marks out next₂ marks₂ out₂ → (next₁ ≡ next₂) × (marks₁ ≡ marks₂) × (out₁ ≡ out₂)
listed_unique a b =
    let (number, value, marks) = judged_unique a.judged b.judged in
    let next = a.wrote.place in
    let other_next = b.wrote.place in
    let out = a.wrote.holds in
    let other_out = b.wrote.holds in
    (cc, marks, cc)
