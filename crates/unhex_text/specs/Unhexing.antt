-- What is answered to a hex file: its code, and the line that tells it. Assumes nothing.
use Rattle.std.specs.Prelude.{List, ◌++◌, ℕ, ◌<◌, ◌≤◌, length, Some, None}
use Rattle.std.specs.declared.option.Option.{Option}
use Rattle.intel_hex.specs.Files.{Outcome}
use Rattle.text.specs.Ascii.{ascii}
use Rattle.text.specs.Written.{Wrote, Adds}
use Rattle.text.specs.declared.Buffer.{Buffer}
use Rattle.text.specs.Fields.{newline, field, refusal}
use Rattle.unhex_text.specs.declared.Ends.{Ends}

-- the most bytes that a file may have
abbrev pub most : ℕ
most = 1048576

-- the line of a file that is longer, in words of its own
unfoldable pub too_long_line : List ℕ
too_long_line = ascii "refused\tlonger than 1048576 bytes\n"

-- the line of a file that is read: how long its code is
unfoldable pub code_line : ℕ → List ℕ
code_line size = ascii "code\t" ++ field size newline

-- as long as the words for a longer file: no line is longer
abbrev pub longest : ℕ
longest = 34

-- what a text and a code area give: how many bytes of code, or none where it is refused; the area left; and the line that tells it
pub data Told (text area : List ℕ) : Option ℕ → List ℕ → List ℕ → Type 0 where
  code : {size : ℕ} {after : List ℕ} → length text ≤ most → 0 < size → Outcome text area 0 size after → Told text area (Some size) after (code_line size)
  refused : {number line : ℕ} → length text ≤ most → 0 < number → Outcome text area number line area → Told text area None area (refusal number line)
  too_long : most < length text → Told text area None area too_long_line

-- a file is told: its code, and its line is added to a buffer
pub record Tells (text area : List ℕ) (before : Buffer) (size : Option ℕ) (area_after : List ℕ) (after : Buffer) : Type 0 where
  pub line : List ℕ
  pub told : Told text area size area_after line
  pub adds : Adds before line after

-- a file is answered: its code, and its line from the start of a buffer on
pub record Unhexed (text area out : List ℕ) (ends : Ends) (area_after out_after : List ℕ) : Type 0 where
  pub line : List ℕ
  pub told : Told text area ends.code area_after line
  pub wrote : Wrote out 0 line ends.line out_after
