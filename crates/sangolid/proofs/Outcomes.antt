-- What the contracts permit is determined, and a refused run leaves the machine's words as they are. Assumes nothing.
use mathlib.Core.Path.{◌≡◌, refl, sym, ap, ◌∙◌}
use mathlib.Core.List.{List, [], ◌∷◌, ◌++◌}
use Prim.Native.Nat.{ℕ}
use native.Mathlib.Omega.{arith}
use lib.ListN.{length, get_or, take}
use borrow.Author.Tests.{eq-eqb, ne_eqb}
use Rattle.machine.specs.Registers.{bits_in}
use Rattle.machine.proofs.Lists.{part_listed}
use Rattle.blockcheck.proofs.Verdicts.{judged_unique}
use Rattle.intel_hex.proofs.Outcomes.{outcome_unique}
use Rattle.run.specs.Steps.{Fixed}
use Rattle.run.specs.Runs.{refusal_of, refused, run_of}
use Rattle.sangolid.specs.Interface.{lent_of, state_of, Call, called, call_of, Calls, Checks, unfit, judged, word_of, Unhexes, unfit_answer, unhexed}

-- any two permitted outcomes of a call of a run coincide
pub calls_unique : {call : Call} {m n : ℕ} {s t a b : List ℕ} → Calls call m s a → Calls call n t b → (m ≡ n) × (s ≡ t) × (a ≡ b)
calls_unique p q = (p.is ∙ sym q.is, p.state_left ∙ sym q.state_left, p.area_left ∙ sym q.area_left)

-- any two permitted outcomes of a check coincide
pub checks_unique : {code marks answer : List ℕ} {m n : ℕ} {a b x y : List ℕ} → Checks code marks answer m a x → Checks code marks answer n b y
    → (m ≡ n) × (a ≡ b) × (x ≡ y)
checks_unique (unfit p) (unfit q) = (refl, refl, refl)
checks_unique (unfit p) (judged q k) = absurd (p q)
checks_unique (judged p j) (unfit q) = absurd (q p)
checks_unique (judged p j) (judged q k) =
    let (number, value, marks) = judged_unique j k in
    (number, marks, ap (λ (v : ℕ). v ∷ []) value)

-- any two permitted outcomes of reading a hex file coincide
pub unhexes_unique : {text code answer : List ℕ} {m n : ℕ} {a b x y : List ℕ} → Unhexes text code answer m a x → Unhexes text code answer n b y
    → (m ≡ n) × (a ≡ b) × (x ≡ y)
unhexes_unique (unfit_answer p) (unfit_answer q) = (refl, refl, refl)
unhexes_unique (unfit_answer p) (unhexed q o) = absurd (p q)
unhexes_unique (unhexed p o) (unfit_answer q) = absurd (q p)
unhexes_unique (unhexed p first) (unhexed q second) =
    let (number, value, code) = outcome_unique first second in
    (number, code, ap (λ (v : ℕ). word_of v ∷ []) value)

-- 10 to 13 and 15 keep the eighteen words of the machine: 0 steps, address 0, and the data as handed in
pub refused_keeps : (state : List ℕ) (fixed : Fixed) (d : List ℕ) (budget : ℕ) → length state ≡ 20
    → (refusal_of fixed d (get_or state 9 0) budget ≡ 0 → ⊥)
    → call_of state fixed d budget
    ≡ record { number = refusal_of fixed d (get_or state 9 0) budget; state = take 18 state ++ (0 ∷ 0 ∷ []); area = d }
unfolding call_of called run_of refused lent_of state_of bits_in
refused_keeps state fixed d budget long some =
    rw (eq-eqb _ _ long, ne_eqb _ _ some)
    (ap (λ (words : List ℕ). record { number = refusal_of fixed d (get_or state 9 0) budget; state = words ++ (0 ∷ 0 ∷ []); area = d }) (part_listed 0 18 0 state (omega arith)))
