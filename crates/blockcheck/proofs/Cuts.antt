-- Cuts of some code: no code has two, and all that is asked of one is asked of the code. Assumes nothing.
use mathlib.Core.Path.{◌≡◌, refl, ap, sym, ◌∙◌}
use mathlib.Core.Logic.{inl, inr}
use mathlib.Core.List.{List, [], ◌++◌, append_assoc}
use Prim.Native.Nat.{ℕ, ◌+◌, ◌≤◌}
use native.Mathlib.Omega.{arith}
use lib.ListN.{length, length-append}
use Rattle.grammar.specs.Grammar.{Instruction, Cut, done, next}
use Rattle.grammar.specs.Answers.{numbers, Begins, Answers, instruction}
use Rattle.std.specs.Prelude.{Ok}
use Rattle.grammar.proofs.Answered.{answers_unique, prefix_free, same_rest, instruction_some}
use Rattle.blockcheck.specs.Blocks.{starts_from, Lawful, Good, Astray}

-- bytes that an instruction stands before begin with it
abbrev pub begins_with : {bytes : List ℕ} → Instruction bytes → (rest : List ℕ) → Begins (bytes ++ rest)
begins_with {bytes} i rest = record { own = bytes; instruction = i; rest = rest; joined = refl }

-- nothing begins with an instruction where no byte is
pub nothing_begins : Begins [] → ⊥
nothing_begins b = omega (arith, instruction_some b.instruction, simp length-append at (ap length b.joined))

-- an instruction's length in numbers is that of its bytes
pub same_length : {bytes : List ℕ} (i : Instruction bytes) → (numbers i.parts).length ≡ length bytes
unfolding numbers
same_length i = ap length i.joined

-- the same bytes are the same instruction in numbers
same_numbers : {xs ys : List ℕ} (i : Instruction xs) (j : Instruction ys) → xs ≡ ys → numbers i.parts ≡ numbers j.parts
same_numbers {xs} {ys} i j e =
    let f : Answers (xs ++ []) (Ok (numbers i.parts)) = instruction (begins_with i []) in
    let g : Answers (ys ++ []) (Ok (numbers j.parts)) = instruction (begins_with j []) in
    let u = answers_unique (rw e at f) g in
    cc

-- of joined bytes, the first instruction and what follows it
same_next : {xs ys : List ℕ} → Instruction xs → Instruction ys → (a b : List ℕ) → xs ++ a ≡ ys ++ b → (xs ≡ ys) × (a ≡ b)
same_next i j a b e = (prefix_free i j a b e, same_rest i j a b e)

-- cutting that can go no further has come equally far, by the same pieces
pub same_reach : {xs ys : List (List ℕ)} {a b : List ℕ} → Cut xs a → Cut ys b → (r s : List ℕ) → a ++ r ≡ b ++ s → (Begins r → ⊥)
    → (Begins s → ⊥) → (xs ≡ ys) × (a ≡ b)
same_reach done done r s e p q = (refl, refl)
same_reach done (next {bytes} {code} i later) r s e p q = absurd (p (rw (e ∙ append_assoc bytes code s) (begins_with i (code ++ s))))
same_reach (next {bytes} {code} i later) done r s e p q =
    absurd (q (rw (sym e ∙ append_assoc bytes code r) (begins_with i (code ++ r))))
same_reach (next {bytes} {code} i later) (next {bytes = bytes'} {code = code'} j later') r s e p q =
    let (first, rest) = same_next i j (code ++ r) (code' ++ s) (sym (append_assoc bytes code r) ∙ e ∙ append_assoc bytes' code' s) in
    let (pieces, same) = same_reach later later' r s rest p q in
    (cc, cc)

-- no code has two cuts
pub cut_unique : {xs ys : List (List ℕ)} {code : List ℕ} → Cut xs code → Cut ys code → xs ≡ ys
cut_unique p q = (same_reach p q [] [] refl nothing_begins nothing_begins).0

-- where an instruction stands, bytes are
not_empty : {bytes : List ℕ} → Instruction bytes → (code : List ℕ) → bytes ++ code ≡ [] → ⊥
not_empty i code e = omega (arith, instruction_some i, simp length-append at (ap length e))

module _ (starts : List ℕ) where
  -- the same bytes at the same offset are as lawful
  lawful_same : {xs ys : List ℕ} (i : Instruction xs) (j : Instruction ys) {m n : ℕ} → xs ≡ ys → m ≡ n → Lawful starts m xs i
      → Lawful starts n ys j
  unfolding Lawful
  lawful_same i j e h l = rw (← same_numbers i j e, ← e, ← h) l

  -- equal bytes from the same offset on are as good, however they are cut
  good_same : {xs ys : List (List ℕ)} {a b : List ℕ} {m n : ℕ} (p : Cut xs a) (q : Cut ys b) → a ≡ b → m ≡ n → Good starts m p
      → Good starts n q
  unfolding Good
  good_same done done e h g = tt
  good_same done (next {code} j q) e h g = absurd (not_empty j code (sym e))
  good_same (next i p) done e h g = tt
  good_same (next {bytes} {code} i p) (next {bytes = bytes'} {code = code'} j q) e h (lawful, later) =
      let (first, rest) = same_next i j code code' e in
      let long : length bytes ≡ length bytes' = ap length first in
      (lawful_same i j first h lawful, good_same p q rest (omega arith) later)

  -- and go astray at the same offset
  astray_same : {xs ys : List (List ℕ)} {a b : List ℕ} {m n : ℕ} (k : ℕ) (p : Cut xs a) (q : Cut ys b) → a ≡ b → m ≡ n → Astray starts m p k
      → Astray starts n q k
  unfolding Astray
  astray_same k done q e h s = absurd s
  astray_same k (next {code} i p) done e h s = absurd (not_empty i code e)
  astray_same k (next {bytes} {code} i p) (next {bytes = bytes'} {code = code'} j q) e h (inl (wrong, here)) =
      let (first, rest) = same_next i j code code' e in
      inl (λ l. wrong (lawful_same j i (sym first) (sym h) l), here ∙ h)
  astray_same k (next {bytes} {code} i p) (next {bytes = bytes'} {code = code'} j q) e h (inr (lawful, later)) =
      let (first, rest) = same_next i j code code' e in
      let long : length bytes ≡ length bytes' = ap length first in
      inr (lawful_same i j first h lawful, astray_same k p q rest (omega arith) later)

  -- a good cut has nothing astray
  pub good_not_astray : {xs : List (List ℕ)} {a : List ℕ} (m k : ℕ) (p : Cut xs a) → Good starts m p → Astray starts m p k → ⊥
  unfolding Good Astray
  good_not_astray m k done g s = s
  good_not_astray m k (next {bytes} i p) (lawful, later) (inl (wrong, here)) = wrong lawful
  good_not_astray m k (next {bytes} i p) (lawful, later) (inr (also, astray)) = good_not_astray (m + length bytes) k p later astray

  -- the first astray is one
  pub astray_unique : {xs : List (List ℕ)} {a : List ℕ} (m k l : ℕ) (p : Cut xs a) → Astray starts m p k → Astray starts m p l → k ≡ l
  unfolding Astray
  astray_unique m k l done s t = absurd s
  astray_unique m k l (next {bytes} i p) (inl (wrong, here)) (inl (wrong', here')) = here ∙ sym here'
  astray_unique m k l (next {bytes} i p) (inl (wrong, here)) (inr (lawful, later)) = absurd (wrong lawful)
  astray_unique m k l (next {bytes} i p) (inr (lawful, later)) (inl (wrong, here)) = absurd (wrong lawful)
  astray_unique m k l (next {bytes} i p) (inr (lawful, later)) (inr (lawful', later')) = astray_unique (m + length bytes) k l p later later'

-- any cut of the code is as good
pub good_of : {xs ys : List (List ℕ)} {code : List ℕ} (p : Cut xs code) (q : Cut ys code) → Good (starts_from 0 xs) 0 p → Good (starts_from 0 ys) 0 q
good_of {xs} p q g = rw (cut_unique p q) at (good_same (starts_from 0 xs) p q refl refl g)

-- any cut of the code goes astray at the same offset
pub astray_of : {xs ys : List (List ℕ)} {code : List ℕ} (k : ℕ) (p : Cut xs code) (q : Cut ys code) → Astray (starts_from 0 xs) 0 p k
    → Astray (starts_from 0 ys) 0 q k
astray_of {xs} k p q a = rw (cut_unique p q) at (astray_same (starts_from 0 xs) k p q refl refl a)

-- a cut has no more instructions than bytes
pub pieces_within : {pieces : List (List ℕ)} {code : List ℕ} → Cut pieces code → length pieces ≤ length code
pieces_within done = omega arith
pieces_within (next first later) = simp length-append (omega (arith, instruction_some first, pieces_within later))

-- what goes astray stands inside the code
pub astray_within : (starts : List ℕ) (i k : ℕ) {pieces : List (List ℕ)} {code : List ℕ} (cut : Cut pieces code) → Astray starts i cut k → k ≤ i + length code
unfolding Astray
astray_within starts i k done a = absurd a
astray_within starts i k (next first later) (inl (wrong, here)) = omega arith
astray_within starts i k (next {bytes} first later) (inr (lawful, after)) =
    let h = astray_within starts (i + length bytes) k later after in
    simp length-append (omega arith)
