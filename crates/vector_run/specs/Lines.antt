-- What is made of bytes of the input: they are parted into lines, and each line but the header is judged and counted. Assumes nothing.
use Rattle.std.specs.Prelude.{◌≡◌, ℕ, ◌<◌, ◌≤◌, Bool, true, false, ◌&&◌, List, [], ◌∷◌, ◌++◌, length, take, ◌==◌, ◌≢◌, nat_lt, if◌then◌else◌}
use Rattle.text.specs.Ascii.{ascii}
use Rattle.vector_text.specs.Hex.{equal}
use Rattle.vector_text.specs.Fields.{field_of}
use Rattle.vector_run.specs.declared.tally.Tally.{Tally}
use Rattle.vector_run.specs.declared.taken.Taken.{Taken}
use Rattle.vector_run.specs.Findings.{Finding, Malformed, Finds}
use Rattle.vector_run.specs.Counts.{counted}

-- what ends a line
abbrev pub newline : ℕ
newline = 10

-- the room for a line: one of so many bytes may be cut
abbrev pub room : ℕ
room = 1024

-- a header, before the first case
abbrev pub is_header : Tally → List ℕ → Bool
is_header t line = t.cases == 0 && equal (field_of line 1) (ascii "kind")

-- the tally after a line
pub data TakesLine (line : List ℕ) (t : Tally) : Tally → Type 0 where
  too_long : room ≤ length line → TakesLine line t (counted t Malformed)
  the_header : length line < room → is_header t line ≡ true → TakesLine line t t
  a_case : length line < room → is_header t line ≡ false → {finding : Finding} → Finds line finding → TakesLine line t (counted t finding)

-- the tally after a last line that no newline ends, if there is one
pub data TakesRest (t : Tally) : List ℕ → Tally → Type 0 where
  no_rest : TakesRest t [] t
  a_rest : {b : ℕ} {line : List ℕ} {r : Tally} → TakesLine (b ∷ line) t r → TakesRest t (b ∷ line) r

-- a byte behind those that are held, if there is room
unfoldable pub hold : List ℕ → ℕ → List ℕ
hold held b = if nat_lt (length held) room then held ++ (b ∷ []) else held

-- bytes are taken, some of a line being held: what is held then, and the tally
pub data Takes : List ℕ → Tally → List ℕ → List ℕ → Tally → Type 0 where
  no_more : {held : List ℕ} {t : Tally} → Takes held t [] held t
  a_byte : {held bytes after : List ℕ} {t r : Tally} {b : ℕ} → (b ≢ newline) → Takes (hold held b) t bytes after r → Takes held t (b ∷ bytes) after r
  a_line : {held bytes after : List ℕ} {t mid r : Tally} → TakesLine held t mid → Takes [] mid bytes after r → Takes held t (newline ∷ bytes) after r

-- the same of what is taken before and after, whose line begins with the bytes that are held
unfoldable pub Took : Taken → List ℕ → Taken → Type 0
Took before bytes after = Takes (take before.held before.line) before.tally bytes (take after.held after.line) after.tally
