-- Laws of any reading tree: which bytes lead to which value, and what a run tells of them.
-- Assumes nothing.
use mathlib.Core.Path.{◌≡◌, refl, ap, ◌∙◌}
use mathlib.Core.Bool.{Bool, true, false}
use mathlib.Core.List.{List, [], ◌∷◌, ◌++◌}
use mathlib.Core.Logic.{◌⊎◌, inl, inr}
use Prim.Native.Nat.{ℕ, zero, suc, ◌<◌}
use native.Mathlib.Omega.{arith}
use lib.Dec.{ltb}
use borrow.Author.Tests.{lt-ltb, ltb-true}
use Rattle.grammar.specs.Choice.{pick}
use Rattle.grammar.specs.Grammar.{Bytes, end, and}
use Rattle.grammar.specs.Reading.{Tree, done, none, byte, whole, short, wrong, run, bytes_then}

-- the bytes lead to the value
pub data Spells {A : Type 0} : Tree A → A → List ℕ → Type 0 where
  here : {a : A} → Spells (done a) a []
  read : {f : ℕ → Tree A} {a : A} {b : ℕ} {bs : List ℕ} → b < 256 → Spells (f b) a bs → Spells (byte f) a (b ∷ bs)

-- some bytes lead to a value
pub data Ends {A : Type 0} : Tree A → Type 0 where
  here : {a : A} → Ends (done a)
  read : {f : ℕ → Tree A} (b : ℕ) → b < 256 → Ends (f b) → Ends (byte f)

-- wherever reading goes on, it can end
pub data Live {A : Type 0} : Tree A → Type 0 where
  here : {a : A} → Live (done a)
  nowhere : Live none
  read : {f : ℕ → Tree A} → Ends (byte f) → ((b : ℕ) → b < 256 → Live (f b)) → Live (byte f)

module _ {A : Type 0} where
  -- a run reads a byte
  pub run_byte : (f : ℕ → Tree A) (b : ℕ) (bs : List ℕ) → b < 256 → run (byte f) (b ∷ bs) ≡ run (f b) bs
  unfolding run pick
  run_byte f b bs h = rw (lt-ltb b 256 h)

  -- a run over spelled bytes gives the value, and the bytes after it
  pub spelled_run : {t : Tree A} {a : A} {bs : List ℕ} → Spells t a bs → (rest : List ℕ) → run t (bs ++ rest) ≡ whole a rest
  unfolding run
  spelled_run here rest = refl
  spelled_run (read {f} {a} {b} {bs} h s) rest = run_byte f b (bs ++ rest) h ∙ spelled_run s rest

  -- a whole run has read spelled bytes
  pub run_spelled : (t : Tree A) (bytes : List ℕ) (a : A) (rest : List ℕ) → run t bytes ≡ whole a rest
      → (bs : List ℕ) × Spells t a bs × (bs ++ rest ≡ bytes)
  unfolding run pick
  run_spelled (done x) bytes a rest e =
      let same : x ≡ a = cc in let after : rest ≡ bytes = cc in ([], rw (← same) here, after)
  run_spelled none bytes a rest e = absurd (let z : ◌≡◌ {A = ℕ} 0 1 = cc in omega arith)
  run_spelled (byte f) [] a rest e = absurd (let z : ◌≡◌ {A = ℕ} 0 1 = cc in omega arith)
  run_spelled (byte f) (b ∷ bytes) a rest e = go (ltb b 256) refl e (λ h. run_spelled (f b) bytes a rest h)
    where
      go : (c : Bool) → ltb b 256 ≡ c → pick c (run (f b) bytes) wrong ≡ whole a rest
          → (run (f b) bytes ≡ whole a rest → (bs : List ℕ) × Spells (f b) a bs × (bs ++ rest ≡ bytes))
          → (bs : List ℕ) × Spells (byte f) a bs × (bs ++ rest ≡ b ∷ bytes)
      go true small e later = let (bs, s, j) = later e in (b ∷ bs, read (ltb-true b 256 small) s, ap (λ (l : List ℕ). b ∷ l) j)
      go false small e later = absurd (let z : ◌≡◌ {A = ℕ} 0 1 = cc in omega arith)

  -- a run over a proper prefix of spelled bytes ends too early
  pub spelled_short : {t : Tree A} {a : A} (bytes : List ℕ) (next : ℕ) (more : List ℕ) → Spells t a (bytes ++ next ∷ more) → run t bytes ≡ short
  unfolding run
  spelled_short [] next more (read h s) = refl
  spelled_short (b ∷ bytes) next more (read {f} h s) = run_byte f b bytes h ∙ spelled_short {t = f b} bytes next more s

  -- what can end spells some value
  ends_spelled : {t : Tree A} → Ends t → (a : A) × (bs : List ℕ) × Spells t a bs
  ends_spelled (here {a}) = (a, [], here)
  ends_spelled (read b h e) = let (a, bs, s) = ends_spelled e in (a, b ∷ bs, read h s)

  -- a run that ends too early has read a proper prefix of spelled bytes
  pub short_spelled : {t : Tree A} → Live t → (bytes : List ℕ) → run t bytes ≡ short
      → (a : A) × (b : ℕ) × (more : List ℕ) × Spells t a (bytes ++ b ∷ more)
  unfolding run pick
  short_spelled here bytes e = absurd (let z : ◌≡◌ {A = ℕ} 0 1 = cc in omega arith)
  short_spelled nowhere bytes e = absurd (let z : ◌≡◌ {A = ℕ} 0 1 = cc in omega arith)
  short_spelled (read (read b h ends) live) [] e = let (a, more, s) = ends_spelled ends in (a, b, more, read h s)
  short_spelled (read {f} ends live) (b ∷ bytes) e = go (ltb b 256) refl e (λ h. short_spelled (live b h) bytes)
    where
      go : (c : Bool) → ltb b 256 ≡ c → pick c (run (f b) bytes) wrong ≡ short
          → (b < 256 → run (f b) bytes ≡ short → (a : A) × (next : ℕ) × (more : List ℕ) × Spells (f b) a (bytes ++ next ∷ more))
          → (a : A) × (next : ℕ) × (more : List ℕ) × Spells (byte f) a (b ∷ (bytes ++ next ∷ more))
      go true small e later =
          let h = ltb-true b 256 small in let (a, next, more, s) = later h e in (a, next, more, read h s)
      go false small e later = absurd (let z : ◌≡◌ {A = ℕ} 0 1 = cc in omega arith)

  -- so many bytes are read, and then what they lead to
  pub run_then : {n : ℕ} {bs : List ℕ} → Bytes n bs → (then : List ℕ → Tree A) (rest : List ℕ)
      → run (bytes_then n then) (bs ++ rest) ≡ run (then bs) rest
  unfolding bytes_then
  run_then end then rest = refl
  run_then (and {b} {n} {bs} h more) then rest =
      run_byte (λ x. bytes_then n (λ xs. then (x ∷ xs))) b (bs ++ rest) h ∙ run_then more (λ xs. then (b ∷ xs)) rest

  -- fewer bytes end too early
  pub then_short : {m : ℕ} {bs : List ℕ} → Bytes m bs → (n : ℕ) → m < n → (then : List ℕ → Tree A) → run (bytes_then n then) bs ≡ short
  unfolding bytes_then run
  then_short end zero h then = absurd (omega arith)
  then_short end (suc n) h then = refl
  then_short (and small more) zero h then = absurd (omega arith)
  then_short (and {b} {n = m} {bs} small more) (suc n) h then =
      run_byte (λ x. bytes_then n (λ xs. then (x ∷ xs))) b bs small ∙ then_short more n (omega arith) (λ xs. then (b ∷ xs))

  -- so many bytes spell what they lead to
  pub spells_then : {n : ℕ} {bs : List ℕ} → Bytes n bs → (then : List ℕ → Tree A) {a : A} {rest : List ℕ}
      → Spells (then bs) a rest → Spells (bytes_then n then) a (bs ++ rest)
  unfolding bytes_then
  spells_then end then s = s
  spells_then (and {b} h more) then s = read h (spells_then more (λ xs. then (b ∷ xs)) s)

  -- and nothing else
  pub then_spells : (n : ℕ) (then : List ℕ → Tree A) {a : A} {bytes : List ℕ} → Spells (bytes_then n then) a bytes
      → (bs : List ℕ) × Bytes n bs × (rest : List ℕ) × Spells (then bs) a rest × (bs ++ rest ≡ bytes)
  unfolding bytes_then
  then_spells zero then {a} {bytes} s = ([], end, bytes, s, refl)
  then_spells (suc n) then (read {b} h s) =
      let (bs, more, rest, t, j) = then_spells n (λ xs. then (b ∷ xs)) s in
      (b ∷ bs, and h more, rest, t, ap (λ (l : List ℕ). b ∷ l) j)

  -- what so many bytes lead to ends, and is live
  pub ends_then : (n : ℕ) (then : List ℕ → Tree A) → ((bs : List ℕ) → Bytes n bs → Ends (then bs)) → Ends (bytes_then n then)
  unfolding bytes_then
  ends_then zero then ends = ends [] end
  ends_then (suc n) then ends = read 0 (omega arith) (ends_then n (λ xs. then (0 ∷ xs)) (λ bs more. ends (0 ∷ bs) (and (omega arith) more)))

  pub live_then : (n : ℕ) (then : List ℕ → Tree A) → ((bs : List ℕ) → Bytes n bs → Ends (then bs))
      → ((bs : List ℕ) → Bytes n bs → Live (then bs)) → Live (bytes_then n then)
  unfolding bytes_then
  live_then zero then ends live = live [] end
  live_then (suc n) then ends live =
      read (ends_then (suc n) then ends)
      (λ b h. live_then n (λ xs. then (b ∷ xs)) (λ bs more. ends (b ∷ bs) (and h more)) (λ bs more. live (b ∷ bs) (and h more)))

-- a test that holds, and one that fails
pub spells_yes : {A : Type 0} {c : Bool} {t : Tree A} (u : Tree A) {a : A} {bs : List ℕ} → c ≡ true → Spells t a bs → Spells (pick c t u) a bs
unfolding pick
spells_yes u e s = rw e s

pub spells_no : {A : Type 0} {c : Bool} (t : Tree A) {u : Tree A} {a : A} {bs : List ℕ} → c ≡ false → Spells u a bs → Spells (pick c t u) a bs
unfolding pick
spells_no t e s = rw e s

-- which side of a test spells
pub pick_spells : {A : Type 0} (c : Bool) (t u : Tree A) {a : A} {bs : List ℕ} → Spells (pick c t u) a bs
    → ((c ≡ true) × Spells t a bs) ⊎ ((c ≡ false) × Spells u a bs)
unfolding pick
pick_spells true t u s = inl (refl, s)
pick_spells false t u s = inr (refl, s)

-- where reading fails nothing is spelled
pub none_spells : {A : Type 0} {t : Tree A} {a : A} {bs : List ℕ} → Spells t a bs → t ≡ none → ⊥
none_spells here e = let z : ◌≡◌ {A = ℕ} 0 1 = cc in omega arith
none_spells (read h s) e = let z : ◌≡◌ {A = ℕ} 0 1 = cc in omega arith

-- a test that must have held
pub held : {A : Type 0} (c : Bool) (t : Tree A) {a : A} {bs : List ℕ} → Spells (pick c t none) a bs → (c ≡ true) × Spells t a bs
unfolding pick
held true t s = (refl, s)
held false t s = absurd (none_spells s refl)

-- where it is done no byte is left
pub done_spells : {A : Type 0} {x a : A} {bs : List ℕ} → Spells (done x) a bs → (x ≡ a) × ([] ≡ bs)
done_spells here = (refl, refl)
