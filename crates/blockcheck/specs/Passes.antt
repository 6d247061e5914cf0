-- What each pass of the block check gives: for the private functions on the way, and nothing here need be believed. Assumes nothing.
use Rattle.std.specs.Prelude.{◌≡◌, Bool, true, false, ℕ, ◌<◌, length, replicate, if◌then◌else◌, slice_index, ◌==◌, None, Some, Ok, Err}
use mathlib.Core.List.{List, map, Memᴰ}
use Rattle.grammar.specs.Grammar.{Cut}
use Rattle.grammar.specs.Answers.{Begins, Prefix}
use Rattle.grammar.specs.Decoding.{decode_of}
use Rattle.grammar.specs.Relative.{Relative, relative_of}
use Rattle.grammar.specs.declared.instruction.Decoded.{Decoded}
use Rattle.grammar.specs.declared.instruction.Fault.{Fault}
use Rattle.std.specs.Prelude.{Option}
use Rattle.blockcheck.specs.Blocks.{Verdict, number_of, value_of, starts_from, Arrives, Good, Astray, marked, Reached, Judged}
use Rattle.blockcheck.specs.declared.Refusal.{Refusal}

-- a flag says whether something holds
pub data Tells (claim : Type 0) : Bool → Type 0 where
  holds : claim → Tells claim true
  fails : (claim → ⊥) → Tells claim false

-- the marks are not 0 exactly at the starts
pub record Shows (marks starts : List ℕ) : Type 0 where
  pub start : (i : ℕ) → (slice_index marks i ≡ 0 → ⊥) → Memᴰ i starts
  pub some : (i : ℕ) → Memᴰ i starts → slice_index marks i ≡ 0 → ⊥

-- a start's mark between the passes: 2 where the instruction has a displacement
unfoldable pub mark_of : Relative → ℕ
mark_of None = 1
mark_of (Some displacement) = 2

-- a mark after the passes: 1 for any that is not 0
unfoldable pub level_of : ℕ → ℕ
level_of mark = if mark == 0 then 0 else 1

-- all marks after the passes
unfoldable pub levelled : List ℕ → List ℕ
levelled marks = map level_of marks

-- the marks between the passes: levelled they are 1 at the starts, and at each start the mark is its instruction's
pub record Coded (code starts marks : List ℕ) : Type 0 where
  pub level : levelled marks ≡ marked (length code) starts
  pub told : (i : ℕ) → Memᴰ i starts → (d : Decoded) → decode_of code i ≡ Ok d → slice_index marks i ≡ mark_of (relative_of d)

-- why a block is refused in which no instruction stands at an offset
abbrev pub refusal_at : ℕ → Fault → Refusal
refusal_at at Fault.Cut = Refusal.Cut at
refusal_at at Fault.Unknown = Refusal.Unknown at

-- the code is cut whole and its starts are marked, or cutting comes no further than somewhere
pub data Divided (code : List ℕ) : Verdict → List ℕ → Type 0 where
  whole : {pieces : List (List ℕ)} {marks : List ℕ} → Cut pieces code → Coded code (starts_from 0 pieces) marks
      → Divided code (Ok (length pieces)) marks
  cut_at : {rest marks : List ℕ} (reached : Reached code rest) → length marks ≡ length code → 0 < length rest → Prefix rest
      → Divided code (Err (Refusal.Cut (length reached.before))) marks
  unknown_at : {rest marks : List ℕ} (reached : Reached code rest) → length marks ≡ length code → (Begins rest → ⊥) → (Prefix rest → ⊥)
      → Divided code (Err (Refusal.Unknown (length reached.before))) marks

-- the code is cut whole, and the marks are those between the passes
pub record Whole (code marks : List ℕ) : Type 0 where
  pub pieces : List (List ℕ)
  pub cut : Cut pieces code
  pub coded : Coded code (starts_from 0 pieces) marks

-- the instruction at a place of the code has no displacement, or one that leads to one of the starts
unfoldable pub Fine : List ℕ → List ℕ → ℕ → Type 0
Fine code starts at = (d : Decoded) → decode_of code at ≡ Ok d → Arrives starts at d.length (relative_of d)

-- a flag says whether the look at a place goes on: it is no start, or its instruction is fine
pub data Looked (code starts : List ℕ) (at : ℕ) : Bool → Type 0 where
  onward : (Memᴰ at starts → Fine code starts at) → Looked code starts at true
  astray : Memᴰ at starts → (Fine code starts at → ⊥) → Looked code starts at false

-- the same by the marks between the passes
unfoldable pub Looks : List ℕ → List ℕ → ℕ → Bool → Type 0
Looks code marks at b = (w : Whole code marks) → Looked code (starts_from 0 w.pieces) at b

-- where the first displacement that leads to no start stands; none where all lead to starts
pub data Sought (code : List ℕ) : Option ℕ → Type 0 where
  all_good : {pieces : List (List ℕ)} (cut : Cut pieces code) → Good (starts_from 0 pieces) 0 cut → Sought code None
  astray_at : {pieces : List (List ℕ)} (cut : Cut pieces code) {i : ℕ} → Astray (starts_from 0 pieces) 0 cut i → Sought code (Some i)

-- the marks that are left of those after the passes: levelled in accepted code, none in refused code
abbrev pub finished : Verdict → List ℕ → List ℕ
finished (Ok n) marks = levelled marks
finished (Err r) marks = replicate (length marks) 0

-- the answer and the marks left, for marks as long as the code
unfoldable pub Concluded : List ℕ → Verdict → List ℕ → Type 0
Concluded code verdict after =
    (marks : List ℕ) → length marks ≡ length code → Judged code marks (number_of verdict) (value_of verdict) after
