-- Places in a line, and what is known between lines: for the private functions on the way; nothing here need be believed. Assumes nothing.
use Rattle.std.specs.Prelude.{◌≡◌, Bool, true, false, ◌&&◌, ◌⊎◌, ℕ, zero, suc, ◌+◌, ◌-◌, ◌*◌, ◌%◌, ◌<◌, ◌≤◌, length, if◌then◌else◌, nat_le, slice_index, slice_index_or, ◌==◌, Option, None, Some, is_some, unwrap_or, Result, Ok, Err, ⊤}
use mathlib.Core.List.{List, [], ◌∷◌, ◌++◌, Memᴰ}
use Rattle.intel_hex.specs.Lines.{LF, CR, lines_of}
use Rattle.intel_hex.specs.Records.{Record, in_order, Reads, total}
use Rattle.intel_hex.specs.Files.{upper_of, given, Ended, code_base, Clash, Fault, malformed, wrong_sum, other_type, outside, given_before, after_end, Has, order, First, Stand, Outcome, number_of, value_of}
use Rattle.intel_hex.specs.declared.fault.Fault.{Fault as Refusal}
use Rattle.intel_hex.specs.declared.fault.Refused.{Refused}
use Rattle.intel_hex.specs.declared.judging.File.{File}

-- what a hex digit stands for
unfoldable pub digit_of : ℕ → Option ℕ
digit_of c =
    if nat_le 48 c && nat_le c 57 then Some (c - 48)
    else (if nat_le 65 c && nat_le c 70 then Some (c - 55) else (if nat_le 97 c && nat_le c 102 then Some (c - 87) else None))

-- two digits
unfoldable pub is_pair : ℕ → ℕ → Bool
is_pair a b = is_some (digit_of a) && is_some (digit_of b)

-- how many pairs of digits a text begins with
unfoldable pub pairs_in : List ℕ → ℕ
pairs_in [] = 0
pairs_in (a ∷ []) = 0
pairs_in (a ∷ b ∷ text) = if is_pair a b then suc (pairs_in text) else 0

-- a line's end: LF or CR LF
unfoldable pub is_end : List ℕ → Bool
is_end [] = false
is_end (a ∷ []) = a == LF
is_end (a ∷ b ∷ []) = a == CR && b == LF
is_end (a ∷ b ∷ c ∷ text) = false

-- what a byte counts in a pair: a digit's value, and 0 for any other
unfoldable pub worth : ℕ → ℕ
worth c = unwrap_or (digit_of c) 0

-- the byte that the two digits at a place stand for
unfoldable pub byte_at : List ℕ → ℕ → ℕ
byte_at line i = 16 * worth (slice_index line i) + worth (slice_index line (suc i))

-- so many of them, from a place on
unfoldable pub bytes_at : List ℕ → ℕ → ℕ → List ℕ
bytes_at line i zero = []
bytes_at line i (suc n) = byte_at line i ∷ bytes_at line (suc (suc i)) n

-- the record with so many data bytes, by the places in its line
unfoldable pub record_in : List ℕ → ℕ → Record
record_in line count =
    record {
      high = byte_at line 3;
      low = byte_at line 5;
      kind = byte_at line 7;
      bytes = bytes_at line 9 count;
      sum = byte_at line (9 + 2 * count);
    }

-- a line is the record with so many data bytes
pub record IsRecord (line : List ℕ) (count : ℕ) : Type 0 where
  pub counted : count ≡ byte_at line 1
  pub reads : Reads line (record_in line count)

-- a line is no record
abbrev pub IsNoRecord : List ℕ → Type 0
IsNoRecord line = (r : Record) → Reads line r → ⊥

-- a line is the record with so many data bytes, and its bytes add up to 0
pub record Summed (line : List ℕ) (count : ℕ) : Type 0 where
  pub reads : Reads line (record_in line count)
  pub sums : total (in_order (record_in line count)) % 256 ≡ 0

-- the cell of an image for the address at an offset
abbrev pub cell_at : List (Option ℕ) → ℕ → Option ℕ
cell_at image i = slice_index_or image i None

-- an image of the code shows the bytes given, and no others
pub record Shows (bytes : List (ℕ × ℕ)) (image : List (Option ℕ)) : Type 0 where
  pub long : length image ≡ 65536
  pub from : (a b : ℕ) → Memᴰ (a, b) bytes → code_base ≤ a
  pub cell : (a b : ℕ) → Memᴰ (a, b) bytes → cell_at image (a - code_base) ≡ Some b
  pub blank : (i : ℕ) → ((b : ℕ) → Memᴰ (code_base + i, b) bytes → ⊥) → cell_at image i ≡ None

-- new bytes are laid into an image beside others, or an address was given before
pub data Lays (new bytes : List (ℕ × ℕ)) : Result ⊤ Refusal → List (Option ℕ) → Type 0 where
  laid : {image : List (Option ℕ)} → (Clash new bytes → ⊥) → Shows (new ++ bytes) image → Lays new bytes (Ok tt) image
  clash : {image : List (Option ℕ)} → Clash new bytes → Lays new bytes (Err Refusal.GivenBefore) image

-- what is known after lines with these records, the lent area having so many bytes
pub record Known (size : ℕ) (records : List Record) (file : File) (image : List (Option ℕ)) : Type 0 where
  pub ends : file.ended ≡ true → Ended records
  pub unended : file.ended ≡ false → Ended records → ⊥
  pub upper : file.upper ≡ upper_of records
  pub half : file.upper < 65536
  pub most : (a b : ℕ) → Memᴰ (a, b) (given records) → a < code_base + file.top
  pub highest : (file.top ≡ 0) ⊎ ((a : ℕ) × (b : ℕ) × Memᴰ (a, b) (given records) × (suc a ≡ code_base + file.top))
  pub fits : file.top ≤ size
  pub block : file.top ≤ 65536
  pub shows : Shows (given records) image

-- after an end record
unfoldable pub ending : File → File
ending file = record { ended = true; upper = file.upper; top = file.top }

-- after another upper half
unfoldable pub rising : File → ℕ → File
rising file upper = record { ended = file.ended; upper = upper; top = file.top }

-- after bytes that reach so far
unfoldable pub reaching : File → ℕ → File
reaching file top = if nat_le top file.top then file else (record { ended = file.ended; upper = file.upper; top = top })

-- a record of type 01 with so many data bytes
unfoldable pub end_judged : ℕ → File → Result File Refusal
end_judged count file = if count == 0 then Ok (ending file) else Err Refusal.OtherType

-- a record of type 04 with so many data bytes
unfoldable pub upper_judged : List ℕ → ℕ → File → Result File Refusal
upper_judged line count file = if count == 2 then Ok (rising file (256 * byte_at line 9 + byte_at line 11)) else Err Refusal.OtherType

-- a line's fault, as it is answered
abbrev pub refusal_of : Fault → Refusal
refusal_of malformed = Refusal.Malformed
refusal_of wrong_sum = Refusal.WrongSum
refusal_of other_type = Refusal.OtherType
refusal_of outside = Refusal.Outside
refusal_of given_before = Refusal.GivenBefore
refusal_of after_end = Refusal.AfterEnd

-- a line has no fault, and this is known after it; or its first fault is answered
pub data Judges (size : ℕ) (records : List Record) (line : List ℕ) : Result File Refusal → List (Option ℕ) → Type 0 where
  sound : {r : Record} {file : File} {image : List (Option ℕ)} → Reads line r → ((fault : Fault) → Has size records line fault → ⊥)
      → Known size (r ∷ records) file image → Judges size records line (Ok file) image
  faulty : {fault : Fault} {image : List (Option ℕ)} → First (Has size records line) order fault
      → Judges size records line (Err (refusal_of fault)) image

-- the same whatever the records before, if this much is known after them
unfoldable pub JudgesFrom : ℕ → File → List (Option ℕ) → List ℕ → Result File Refusal → List (Option ℕ) → Type 0
JudgesFrom size file image line judged after =
    (records : List Record) → Known size records file image → Judges size records line judged after

-- a refusal of the line with so many before it
abbrev pub refused_at : ℕ → Fault → Refused
refused_at before fault = record { fault = refusal_of fault; line = suc before }

-- no line of a text has a fault, or the first that has
pub data Found (text : List ℕ) (size : ℕ) : Result File Refused → List (Option ℕ) → Type 0 where
  whole : {records : List Record} {file : File} {image : List (Option ℕ)} → Stand size [] (lines_of text) records → Known size records file image
      → Found text size (Ok file) image
  at_line : (earlier : List (List ℕ)) (line : List ℕ) (later : List (List ℕ)) {records : List Record} {fault : Fault} {image : List (Option ℕ)}
      → lines_of text ≡ earlier ++ (line ∷ later) → Stand size [] earlier records → First (Has size records line) order fault
      → Found text size (Err (refused_at (length earlier) fault)) image

-- the code's byte for a cell: 90h in a gap
abbrev pub filled : Option ℕ → ℕ
filled cell = unwrap_or cell 0x90

-- so many cells of an image are the code's bytes, and what lies beyond stays
pub record Copied (image : List (Option ℕ)) (area : List ℕ) (size : ℕ) (after : List ℕ) : Type 0 where
  pub long : length after ≡ length area
  pub below : (i : ℕ) → i < size → slice_index after i ≡ filled (cell_at image i)
  pub beyond : (i : ℕ) → size ≤ i → slice_index after i ≡ slice_index area i

-- the outcome for any text without a fault after which this much is known
unfoldable pub Concluded : File → List (Option ℕ) → List ℕ → Result ℕ Refused → List ℕ → Type 0
Concluded file image area answer after =
    (text : List ℕ) (records : List Record) → Stand (length area) [] (lines_of text) records → Known (length area) records file image
    → Outcome text area (number_of answer) (value_of answer) after
