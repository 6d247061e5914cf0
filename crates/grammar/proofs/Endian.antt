-- A displacement's bytes as a number. Assumes nothing.
use Rattle.std.proofs.Common.{◌≡◌, refl, ap, sym, ℕ, zero, suc, ◌≤◌, List, [], ◌∷◌, length, take, drop, Bool, true, false, cond, ltb, Result, Ok, Err, arith}
use Rattle.std.proofs.lemmas.Bool.{ltb-false}
use Rattle.width.specs.LittleEndian.{little_endian}
use Rattle.grammar.specs.Answers.{displaced}
use Rattle.grammar.specs.Fields.{number_at, displacement_at}
use Rattle.grammar.specs.declared.instruction.Fault.{Fault}

-- unless it is one byte, a displacement is the number of its bytes
displaced_number : (n : ℕ) (bytes : List ℕ) → n ≤ length bytes → (n ≡ 1 → ⊥) → displaced (take n bytes) ≡ little_endian (take n bytes)
unfolding displaced little_endian
displaced_number zero bytes h other = refl
displaced_number (suc zero) bytes h other = absurd (other refl)
displaced_number (suc (suc n)) [] h other = refl
displaced_number (suc (suc n)) (a ∷ []) h other = absurd (omega arith)
displaced_number (suc (suc n)) (a ∷ b ∷ bytes) h other = refl

-- a value, and the bytes after it
abbrev pub gives : {A : Type 0} → A → List ℕ → Result (A × List ℕ) Fault
gives x rest = Ok (x, rest)

pub number_displacement : (n : ℕ) (bytes : List ℕ) → (n ≡ 1 → ⊥) → number_at n bytes ≡ displacement_at n bytes
number_displacement n bytes other = go (ltb (length bytes) n) refl
  where
    go : (c : Bool) → ltb (length bytes) n ≡ c
        → cond c (Err Fault.Cut) (gives (little_endian (take n bytes)) (drop n bytes)) ≡ cond c (Err Fault.Cut) (gives (displaced (take n bytes)) (drop n bytes))
    go true e = refl
    go false e = ap (λ (v : ℕ). gives v (drop n bytes)) (sym (displaced_number n bytes (ltb-false _ _ e) other))
