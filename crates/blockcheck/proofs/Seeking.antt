-- Where displacements lead: marks that show the starts tell, and the first astray is found. Assumes nothing.
use mathlib.Core.Path.{◌≡◌, refl, ap, sym, ◌∙◌, subst}
use mathlib.Core.Logic.{inl, inr}
use mathlib.Core.Bool.{Bool, true, false, not}
use mathlib.Core.List.Memᴰ
use mathlib.Core.List.{List, [], ◌∷◌, ◌++◌, Memᴰ}
use Prim.Native.Nat.{ℕ, ◌+◌, ◌-◌, ◌<◌, ◌≤◌}
use native.Mathlib.Omega.{arith}
use native.Mathlib.Decide.{ℕ_discrete}
use lib.Dec.{eqb}
use lib.ListN.{length, get_or, drop, get_or-eq_default}
use lib.Seq.{drop-drop, drop_at}
use borrow.Author.Tests.{eqb-true, eqb-false}
use Rattle.grammar.specs.Grammar.{Instruction, Cut, done, next}
use Rattle.grammar.specs.Answers.{numbers}
use Rattle.grammar.specs.Decoding.{decode_of}
use Rattle.grammar.specs.Relative.{relative_of}
use Rattle.grammar.specs.declared.instruction.Decoded.{Decoded}
use Rattle.std.specs.Prelude.{Ok, Err}
use Rattle.grammar.specs.declared.instruction.Fault.{Fault}
use Rattle.grammar.specs.Relative.{Relative}
use Rattle.std.specs.Prelude.{None, Some}
use Rattle.grammar.proofs.Answered.{instruction_some, instruction_found}
use Rattle.blockcheck.specs.Blocks.{starts_from, code_base, target_of, Lands, Arrives, no_displacement, arrives, Lawful, Good, Astray}
use Rattle.blockcheck.specs.Passes.{Tells, holds, fails, Shows, mark_of, Whole, Fine, Looked, onward, astray, Looks, Sought, all_good, astray_at}
use Rattle.blockcheck.proofs.Cuts.{same_length}
use Rattle.blockcheck.proofs.Marking.{starts_inside}
use Rattle.blockcheck.proofs.Levels.{coded_long, coded_shows}

-- no start lies below the code
pub below_code : (starts : List ℕ) (address : ℕ) → address < 0x1_0000 → Tells (Lands starts address) false
unfolding Lands code_base
below_code starts address h = fails (λ (s, m, e). omega arith)

module _ {marks starts : List ℕ} (shows : Shows marks starts) (address : ℕ) where
  -- no start lies past the marks
  pub past_marks : 0x1_0000 ≤ address → length marks ≤ address - 0x1_0000 → Tells (Lands starts address) false
  unfolding Lands code_base
  past_marks low high =
      fails
      (λ (s, m, e).
      let out : length marks ≤ s = omega arith in
      shows.some s m (get_or-eq_default marks 0 out))

  -- a mark that is not 0 is a start
  on_mark : 0x1_0000 ≤ address → (get_or marks (address - 0x1_0000) 0 ≡ 0 → ⊥) → Lands starts address
  unfolding Lands code_base
  on_mark low some = (address - 0x1_0000, shows.start (address - 0x1_0000) some, omega arith)

  -- a mark of 0 is none
  off_mark : 0x1_0000 ≤ address → get_or marks (address - 0x1_0000) 0 ≡ 0 → Lands starts address → ⊥
  unfolding Lands code_base
  off_mark low none (s, m, e) =
      let same : address - 0x1_0000 ≡ s = omega arith in
      shows.some s m (rw same at none)

  -- the mark tells whether a start lies at an address of the code
  pub at_mark : 0x1_0000 ≤ address → Tells (Lands starts address) (not (eqb (get_or marks (address - 0x1_0000) 0) 0))
  at_mark low = go (eqb (get_or marks (address - 0x1_0000) 0) 0) refl
    where
      go : (b : Bool) → eqb (get_or marks (address - 0x1_0000) 0) 0 ≡ b → Tells (Lands starts address) (not b)
      go true e = fails (off_mark low (eqb-true (get_or marks (address - 0x1_0000) 0) 0 e))
      go false e = holds (on_mark low (eqb-false (get_or marks (address - 0x1_0000) 0) 0 e))

-- where a displacement that arrives leads is a start
pub landed : {starts : List ℕ} {i n displacement : ℕ} → Arrives starts i n (Some displacement) → Lands starts (target_of i n displacement)
landed (arrives l) = l

-- a displacement arrives exactly if its target is a start
pub arrives_as : {starts : List ℕ} {i n displacement : ℕ} {b : Bool} → Tells (Lands starts (target_of i n displacement)) b
    → Tells (Arrives starts i n (Some displacement)) b
arrives_as (holds l) = holds (arrives l)
arrives_as (fails l) = fails (λ a. l (landed a))

-- an instruction whose mark is not 2 has no displacement that could go astray
arrives_unmarked : (starts : List ℕ) (i n : ℕ) (r : Relative) → (mark_of r ≡ 2 → ⊥) → Arrives starts i n r
unfolding mark_of
arrives_unmarked starts i n None other = no_displacement
arrives_unmarked starts i n (Some displacement) other = absurd (other refl)

module _ (code marks : List ℕ) (at : ℕ) where
  -- a look at any mark but 2
  pub other_mark : (get_or marks at 0 ≡ 2 → ⊥) → Looks code marks at true
  unfolding Looks Fine
  other_mark other w =
      onward (λ m d e. arrives_unmarked (starts_from 0 w.pieces) at d.length (relative_of d) (λ two. other (w.coded.told at m d e ∙ two)))

  -- a look at a found instruction, by whether it arrives
  pub found_instruction : (x : Decoded) → decode_of code at ≡ Ok x → get_or marks at 0 ≡ 2 → {b : Bool}
      → ((starts : List ℕ) → Shows marks starts → Tells (Arrives starts at x.length (relative_of x)) b) → Looks code marks at b
  unfolding Looks Fine
  found_instruction x f two tells w = go (tells (starts_from 0 w.pieces) shows)
    where
      shows : Shows marks (starts_from 0 w.pieces)
      shows = coded_shows w.cut w.coded

      same : (d : Decoded) → decode_of code at ≡ Ok d → d ≡ x
      same d e = cc

      go : {b : Bool} → Tells (Arrives (starts_from 0 w.pieces) at x.length (relative_of x)) b → Looked code (starts_from 0 w.pieces) at b
      go (holds a) = onward (λ m d e. rw (same d e) a)
      go (fails a) = astray (shows.start at (λ none. omega arith)) (λ fine. a (fine x f))

  -- a look where no instruction stands
  pub found_nothing : {fault : Fault} → decode_of code at ≡ Err fault → Looks code marks at true
  unfolding Looks Fine
  found_nothing f w = onward (λ m d e. absurd (let z : ◌≡◌ {A = ℕ} 0 1 = cc in omega arith))

-- no start of a cut lies before its first
starts_from_lem : {s : ℕ} (i : ℕ) (pieces : List (List ℕ)) → Memᴰ s (starts_from i pieces) → i ≤ s
unfolding starts_from
starts_from_lem i [] m = absurd (Memᴰ.not-nil m)
starts_from_lem i (bytes ∷ pieces) (Memᴰ.head e) = omega arith
starts_from_lem i (bytes ∷ pieces) (Memᴰ.tail m) = let h = starts_from_lem (i + length bytes) pieces m in omega arith

module _ (code starts : List ℕ) where
  -- the code past an instruction
  past : (bytes : List ℕ) (at : ℕ) (after : List ℕ) → drop at code ≡ bytes ++ after → drop (at + length bytes) code ≡ after
  past bytes at after e = sym (drop-drop (length bytes) at code) ∙ ap (drop (length bytes)) e ∙ drop_at bytes after (length bytes) refl

  module _ {bytes : List ℕ} (own : Instruction bytes) (at : ℕ) (after : List ℕ) (e : drop at code ≡ bytes ++ after) where
    -- an instruction that is fine where it stands is lawful
    fine_lawful : Fine code starts at → Lawful starts at bytes own
    unfolding Fine Lawful
    fine_lawful fine =
        subst (λ (n : ℕ). Arrives starts at n (relative_of (numbers own.parts))) (same_length own)
        (fine (numbers own.parts) (instruction_found own code at after e))

    -- one that is lawful is fine
    lawful_fine : Lawful starts at bytes own → Fine code starts at
    unfolding Fine Lawful
    lawful_fine lawful d found =
        let is = instruction_found own code at after e in
        let same : d ≡ numbers own.parts = cc in
        rw same (subst (λ (n : ℕ). Arrives starts at n (relative_of (numbers own.parts))) (sym (same_length own)) lawful)

  -- where every start is fine, the cut is good
  all_fine : {pieces : List (List ℕ)} {rest : List ℕ} (at : ℕ) (cut : Cut pieces rest) → drop at code ≡ rest
      → ((s : ℕ) → Memᴰ s (starts_from at pieces) → Fine code starts s) → Good starts at cut
  unfolding Good starts_from
  all_fine at done e fine = tt
  all_fine at (next {bytes} {code = after} own later) e fine = (
    fine_lawful own at after e (fine at (Memᴰ.head refl)),
    all_fine (at + length bytes) later (past bytes at after e) (λ s m. fine s (Memᴰ.tail m)),
  )

  -- where every start before one is fine and that one is not, it is the first astray
  first_wrong : {pieces : List (List ℕ)} {rest : List ℕ} {k : ℕ} (at : ℕ) (cut : Cut pieces rest) → drop at code ≡ rest
      → ((s : ℕ) → s < k → Memᴰ s (starts_from at pieces) → Fine code starts s) → Memᴰ k (starts_from at pieces)
      → (Fine code starts k → ⊥) → Astray starts at cut k
  unfolding Astray starts_from
  first_wrong at done e fine m wrong = absurd (Memᴰ.not-nil m)
  first_wrong at (next {bytes} {code = after} own later) e fine (Memᴰ.head here) wrong =
      inl (λ lawful. wrong (rw here (lawful_fine own at after e lawful)), here)
  first_wrong at (next {bytes} {code = after} {later = left} own later) e fine (Memᴰ.tail m) wrong =
      let before = starts_from_lem (at + length bytes) left m in
      inr (
        fine_lawful own at after e (fine at (omega (arith, instruction_some own)) (Memᴰ.head refl)),
        first_wrong (at + length bytes) later (past bytes at after e) (λ s h n. fine s h (Memᴰ.tail n)) m wrong,
      )

-- the starts before a place are fine
pub record Seeking (code marks : List ℕ) (at : ℕ) : Type 0 where
  pub whole : Whole code marks
  pub inside : at ≤ length code
  pub fine : (s : ℕ) → s < at → Memᴰ s (starts_from 0 whole.pieces) → Fine code (starts_from 0 whole.pieces) s

-- no start is looked at yet
pub begins : {code marks : List ℕ} → Whole code marks → Seeking code marks 0
begins w = record { whole = w; inside = omega arith; fine = λ s h. absurd (omega arith) }

module _ {code marks : List ℕ} {at : ℕ} (so : Seeking code marks at) where
  -- the starts of the code
  abbrev starts : List ℕ
  starts = starts_from 0 so.whole.pieces

  -- there are as many marks as bytes
  pub as_long : length marks ≡ length code
  as_long = coded_long so.whole.coded

  -- one place more
  pub goes : at < length code → Looks code marks at true → Seeking code marks (at + 1)
  unfolding Looks
  goes h looks = record { whole = so.whole; inside = omega arith; fine = λ s before m. go (looks so.whole) s (ℕ_discrete s at) before m }
    where
      go : Looked code starts at true → (s : ℕ) → Dec (s ≡ at) → s < at + 1 → Memᴰ s starts → Fine code starts s
      go (onward fine) s (yes same) before m = rw same (fine (rw same at m))
      go (onward fine) s (no other) before m = so.fine s (omega arith) m

  -- the place is the first astray
  pub stops : Looks code marks at false → Sought code (Some at)
  unfolding Looks
  stops looks = go (looks so.whole)
    where
      go : Looked code starts at false → Sought code (Some at)
      go (astray m wrong) = astray_at so.whole.cut (first_wrong code starts 0 so.whole.cut refl so.fine m wrong)

  -- all places are looked at: all displacements are good
  pub ends : length code ≤ at → Sought code None
  ends h =
      let fine : (s : ℕ) → Memᴰ s starts → Fine code starts s =
      λ s m. so.fine s (let in_code = starts_inside 0 so.whole.cut m in omega arith) m in
      all_good so.whole.cut (all_fine code starts 0 so.whole.cut refl fine)
