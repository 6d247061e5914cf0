-- Bytes of the input, one after another. Assumes nothing.
use Rattle.std.proofs.Common.{◌≡◌, ℕ, ◌+◌, ◌<◌, ◌≤◌, false, List, [], ◌∷◌, ◌++◌, length, get_or, take, set, refl, add-one, arith, length-take-le, take-suc, take-suc-set, le-ltb, lt-ltb}
use Rattle.vector_run.specs.declared.tally.Tally.{Tally}
use Rattle.vector_run.specs.declared.taken.Taken.{Taken}
use Rattle.vector_run.specs.Findings.{Finding, Malformed, Finds}
use Rattle.vector_run.specs.Counts.{counted}
use Rattle.vector_run.specs.Lines.{newline, room, is_header, TakesLine, too_long, a_case, TakesRest, no_rest, a_rest, hold, Takes, no_more, a_byte, a_line, Took}

module _ {line : List ℕ} {t r : Tally} where
  -- a line that is too long is counted as malformed
  pub counts_long : room ≤ length line → r ≡ counted t Malformed → TakesLine line t r
  counts_long h is = rw is (too_long h)

  -- a case is counted by its finding
  pub counts_case : {finding : Finding} → length line < room → is_header t line ≡ false → Finds line finding → r ≡ counted t finding → TakesLine line t r
  counts_case h other found is = rw is (a_case h other found)

-- nothing is left behind the last newline
pub rest_none : {t : Tally} (line : List ℕ) → length line ≡ 0 → TakesRest t line t
rest_none [] h = no_rest
rest_none (b ∷ line) h = absurd (omega arith)

-- something is left
pub rest_some : {t r : Tally} (line : List ℕ) → (length line ≡ 0 → ⊥) → TakesLine line t r → TakesRest t line r
rest_some [] h taken = absurd (h refl)
rest_some (b ∷ line) h taken = a_rest taken

-- bytes and then further bytes
takes_both : {held mid after xs ys : List ℕ} {t m r : Tally} → Takes held t xs mid m → Takes mid m ys after r → Takes held t (xs ++ ys) after r
takes_both no_more later = later
takes_both (a_byte other first) later = a_byte other (takes_both first later)
takes_both (a_line ended first) later = a_line ended (takes_both first later)

-- a byte is held
takes_byte : {held after : List ℕ} {t : Tally} {b : ℕ} → (b ≡ newline → ⊥) → hold held b ≡ after → Takes held t (b ∷ []) after t
takes_byte other is = rw (← is) (a_byte other no_more)

-- a newline ends a line
takes_line : {held : List ℕ} {t r : Tally} {b : ℕ} → b ≡ newline → TakesLine held t r → Takes held t (b ∷ []) [] r
takes_line is ended = rw is (a_line ended no_more)

-- a byte with room for it
hold_more : (line : List ℕ) (n b : ℕ) → length line ≡ room → n < length line → hold (take n line) b ≡ take (n + 1) (set line n b)
unfolding hold
hold_more line n b long h =
    let short : length (take n line) < room = rw (length-take-le n line (omega arith)) (omega arith) in
    rw (lt-ltb _ _ short, add-one, take-suc-set line n b h)

-- a byte with none
hold_none : (line : List ℕ) (n b : ℕ) → length line ≡ room → length line ≤ n → n ≤ room → hold (take n line) b ≡ take n line
unfolding hold
hold_none line n b long h most =
    let full : room ≤ length (take n line) = rw (length-take-le n line (omega arith)) (omega arith) in
    rw (le-ltb _ _ full)

-- nothing is taken
pub took_none : (before : Taken) → Took before [] before
unfolding Took
took_none before = no_more

module _ (before after : Taken) {b : ℕ} where
  -- a newline
  pub took_line : b ≡ newline → TakesLine (take before.held before.line) before.tally after.tally → after.held ≡ 0 → Took before (b ∷ []) after
  unfolding Took
  took_line is ended none = rw none (takes_line is ended)

  -- a byte that is held
  pub took_byte : (b ≡ newline → ⊥) → length before.line ≡ room → before.held < length before.line
      → after.tally ≡ before.tally → after.line ≡ set before.line before.held b → after.held ≡ before.held + 1 → Took before (b ∷ []) after
  unfolding Took
  took_byte other long h tally line held = rw (tally, line, held) (takes_byte other (hold_more before.line before.held b long h))

-- a byte of a line that is too long
pub took_full : (taken : Taken) {b : ℕ} → (b ≡ newline → ⊥) → length taken.line ≡ room → length taken.line ≤ taken.held → taken.held ≤ room
    → Took taken (b ∷ []) taken
unfolding Took
took_full taken {b} other long h most = takes_byte other (hold_none taken.line taken.held b long h most)

-- so many bytes, and then the next of them: one more
pub took_next : (before between after : Taken) (bytes : List ℕ) (i : ℕ) → i < length bytes
    → Took before (take i bytes) between → Took between (get_or bytes i 0 ∷ []) after → Took before (take (i + 1) bytes) after
unfolding Took
took_next before between after bytes i h first second = rw (add-one, take-suc bytes i 0 h) (takes_both first second)
