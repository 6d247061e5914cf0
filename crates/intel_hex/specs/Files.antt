-- Intel HEX files: the bytes that a file gives, the numbers that refuse one, and what is left in the code area. Assumes nothing.
use Rattle.std.specs.Prelude.{◌≡◌, ℕ, suc, ◌+◌, ◌-◌, ◌*◌, ◌%◌, ◌<◌, ◌≤◌, length, if◌then◌else◌, slice_index, ◌==◌, Result, Ok, Err, codes}
use mathlib.Core.List.{List, [], ◌∷◌, ◌++◌, Memᴰ}
use Rattle.intel_hex.specs.Lines.{lines_of}
use Rattle.intel_hex.specs.Records.{Record, in_order, Reads, total}
use Rattle.intel_hex.specs.declared.fault.Fault.{Fault as Refusal}
use Rattle.intel_hex.specs.declared.fault.Refused.{Refused}

-- bytes given one after another, from an address on
unfoldable pub given_from : ℕ → List ℕ → List (ℕ × ℕ)
given_from a [] = []
given_from a (b ∷ bytes) = (a, b) ∷ given_from (suc a) bytes

-- the addresses and bytes that a record gives: those of type 00 lie from upper half × 65,536 plus offset on
unfoldable pub given_by : ℕ → Record → List (ℕ × ℕ)
given_by upper r = if r.kind == 0 then given_from (upper * 65536 + (256 * r.high + r.low)) r.bytes else []

-- the upper half after a record: the two data bytes of type 04
unfoldable pub upper_after : ℕ → Record → ℕ
upper_after upper r = if r.kind == 4 then 256 * slice_index r.bytes 0 + slice_index r.bytes 1 else upper

-- the upper half after some records, the latest first; it starts at 0
unfoldable pub upper_of : List Record → ℕ
upper_of [] = 0
upper_of (r ∷ before) = upper_after (upper_of before) r

-- what some records mean, the latest first: the addresses and bytes that they give
unfoldable pub given : List Record → List (ℕ × ℕ)
given [] = []
given (r ∷ before) = given_by (upper_of before) r ++ given before

-- an end record is among some records
unfoldable pub Ended : List Record → Type 0
Ended records = (r : Record) × Memᴰ r records × (r.kind ≡ 1)

-- type 00, or 01 without data bytes, or 04 with two
pub data Proper (r : Record) : Type 0 where
  of_data : r.kind ≡ 0 → Proper r
  of_end : r.kind ≡ 1 → length r.bytes ≡ 0 → Proper r
  of_upper : r.kind ≡ 4 → length r.bytes ≡ 2 → Proper r

-- code offset 0
abbrev pub code_base : ℕ
code_base = 0x0001_0000

-- an address in a lent area of so many bytes, and not above 0001FFFFh
pub record Within (size a : ℕ) : Type 0 where
  pub from : code_base ≤ a
  pub inside : a < code_base + size
  pub below : a ≤ 0x0001_FFFF

-- an address is given by both
unfoldable pub Clash : List (ℕ × ℕ) → List (ℕ × ℕ) → Type 0
Clash new bytes = (a : ℕ) × (b : ℕ) × (c : ℕ) × Memᴰ (a, b) new × Memᴰ (a, c) bytes

-- why a line is refused
pub data Fault : Type 0 where
  malformed : Fault
  wrong_sum : Fault
  other_type : Fault
  outside : Fault
  given_before : Fault
  after_end : Fault

-- the paper's number of it
unfoldable pub fault_number : Fault → ℕ
fault_number malformed = 30
fault_number wrong_sum = 31
fault_number other_type = 32
fault_number outside = 33
fault_number given_before = 34
fault_number after_end = 36

-- what each fault is, of a line after lines with these records, the area having so many bytes
unfoldable pub Has : ℕ → List Record → List ℕ → Fault → Type 0
Has size records line malformed = (r : Record) → Reads line r → ⊥
Has size records line wrong_sum = (r : Record) × Reads line r × (total (in_order r) % 256 ≡ 0 → ⊥)
Has size records line other_type = (r : Record) × Reads line r × (Proper r → ⊥)
Has size records line outside =
    (r : Record) × Reads line r × ((a : ℕ) × (b : ℕ) × Memᴰ (a, b) (given_by (upper_of records) r) × (Within size a → ⊥))
Has size records line given_before = (r : Record) × Reads line r × Clash (given_by (upper_of records) r) (given records)
Has size records line after_end = Ended records

-- the order in which the faults of a line decide
unfoldable pub order : List Fault
order = after_end ∷ malformed ∷ wrong_sum ∷ other_type ∷ outside ∷ given_before ∷ []

-- the first of some faults that a line has
pub data First (has : Fault → Type 0) : List Fault → Fault → Type 0 where
  here : {fault : Fault} {later : List Fault} → has fault → First has (fault ∷ later) fault
  next : {other fault : Fault} {later : List Fault} → (has other → ⊥) → First has later fault → First has (other ∷ later) fault

-- lines that stand, for none has a fault: the records of those before them, they themselves, and the records with theirs
pub data Stand (size : ℕ) : List Record → List (List ℕ) → List Record → Type 0 where
  none : {records : List Record} → Stand size records [] records
  next : {records after : List Record} {line : List ℕ} {later : List (List ℕ)} {r : Record} → Reads line r
      → ((fault : Fault) → Has size records line fault → ⊥) → Stand size (r ∷ records) later after
      → Stand size records (line ∷ later) after

-- the code area holds what was given: the code reaches the highest byte, gaps hold 90, and what lies beyond stays
pub record Holds (bytes : List (ℕ × ℕ)) (area : List ℕ) (size : ℕ) (after : List ℕ) : Type 0 where
  pub long : length after ≡ length area
  pub highest : (a : ℕ) × (b : ℕ) × Memᴰ (a, b) bytes × (suc a ≡ code_base + size)
  pub most : (a b : ℕ) → Memᴰ (a, b) bytes → a < code_base + size
  pub byte : (a b : ℕ) → Memᴰ (a, b) bytes → slice_index after (a - code_base) ≡ b
  pub gap : (i : ℕ) → i < size → ((b : ℕ) → Memᴰ (code_base + i, b) bytes → ⊥) → slice_index after i ≡ 0x90
  pub beyond : (i : ℕ) → size ≤ i → slice_index after i ≡ slice_index area i

-- the paper's number and value for a text and a code area, and the area left
pub data Outcome (text area : List ℕ) : (number value : ℕ) → List ℕ → Type 0 where
  refused : (earlier : List (List ℕ)) (line : List ℕ) (later : List (List ℕ)) {records : List Record} {fault : Fault}
      → lines_of text ≡ earlier ++ (line ∷ later) → Stand (length area) [] earlier records → First (Has (length area) records line) order fault
      → Outcome text area (fault_number fault) (suc (length earlier)) area
  no_end : {records : List Record} → Stand (length area) [] (lines_of text) records → (Ended records → ⊥) → Outcome text area 35 0 area
  no_data : {records : List Record} → Stand (length area) [] (lines_of text) records → Ended records → given records ≡ []
      → Outcome text area 37 0 area
  read : {records : List Record} {size : ℕ} {after : List ℕ} → Stand (length area) [] (lines_of text) records → Ended records
      → Holds (given records) area size after → Outcome text area 0 size after

-- the number of a refusal
abbrev pub refusal_number : Refusal → ℕ
refusal_number Refusal.Malformed = 30
refusal_number Refusal.WrongSum = 31
refusal_number Refusal.OtherType = 32
refusal_number Refusal.Outside = 33
refusal_number Refusal.GivenBefore = 34
refusal_number Refusal.NoEnd = 35
refusal_number Refusal.AfterEnd = 36
refusal_number Refusal.NoData = 37

-- its words
abbrev pub refusal_text : Refusal → List ℕ
refusal_text Refusal.Malformed = codes "this line is malformed"
refusal_text Refusal.WrongSum = codes "this line's sum is wrong"
refusal_text Refusal.OtherType = codes "this line's type is another one, or 01 or 04 without just 0 or 2 data bytes"
refusal_text Refusal.Outside = codes "this line has a byte outside the code area or above 0001FFFFh"
refusal_text Refusal.GivenBefore = codes "this line has an address that was given before"
refusal_text Refusal.NoEnd = codes "there is no end record"
refusal_text Refusal.AfterEnd = codes "this line stands after the end record"
refusal_text Refusal.NoData = codes "there is no data byte"

-- the number of an answer; 0 for a file that is read
abbrev pub number_of : Result ℕ Refused → ℕ
number_of (Ok size) = 0
number_of (Err why) = refusal_number why.fault

-- the code's length, or the line
abbrev pub value_of : Result ℕ Refused → ℕ
value_of (Ok size) = size
value_of (Err why) = why.line
