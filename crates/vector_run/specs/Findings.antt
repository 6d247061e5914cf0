-- The finding of a case: the first field in which it comes out otherwise than its line says. Assumes nothing.
use Rattle.std.specs.Prelude.{◌≡◌, ℕ, suc, Bool, true, false, List, [], ◌∷◌, ◌++◌, map, ◌==◌, slice_index, if◌then◌else◌, Result, Ok, Err}
use denote.Ref.{Bor, MutBor}
use Rattle.run.specs.Steps.{fixed_to}
use Rattle.sangolid.specs.Interface.{Call, call_of, Checks, Unhexes}
use Rattle.vector_text.specs.Hex.{bytes_of, is_held}
use Rattle.vector_text.specs.Fields.{field_of}
use Rattle.vector_run.specs.declared.difference.Difference.{Difference}
use Rattle.vector_run.specs.declared.difference.Difference.TheVariants.{Field, Malformed as malformed}
use Rattle.vector_run.specs.declared.judging.Kind.{Kind}
use Rattle.vector_run.specs.Cases.{number_of, state_before, area_fits, code_of, area_of, constants_of, is_run, is_check, is_hex}

-- what is found of a case
abbrev pub Finding : Type 0
Finding = Result (Unit {0}) Difference

-- it comes out as its line says
abbrev pub Same : Finding
Same = Ok tt

-- it differs first in the field of a number
abbrev pub DiffersIn : ℕ → Finding
DiffersIn k = Err (Field k)

-- its line is malformed
abbrev pub Malformed : Finding
Malformed = Err malformed

-- what came out, for a field of the line: a number, or an area
pub data Told : Type 0 where
  the_number : ℕ → ℕ → Told
  the_area : ℕ → List ℕ → Told

-- the line says the same
unfoldable pub agrees : List ℕ → Told → Bool
agrees line (Told.the_number k n) = n == number_of line k
agrees line (Told.the_area k bytes) = is_held bytes (bytes_of (field_of line k))

-- every value that came out is the line's
abbrev pub Agree : List ℕ → List Told → Type 0
Agree line [] = Unit {0}
Agree line (told ∷ later) = (agrees line told ≡ true) × Agree line later

-- the field that it is for
unfoldable pub field_for : Told → ℕ
field_for (Told.the_number k n) = k
field_for (Told.the_area k bytes) = k

-- the first of the fields in which the line says otherwise; the same if there is none
unfoldable pub first_other : List ℕ → List Told → Finding
first_other line [] = Same
first_other line (told ∷ later) = if agrees line told then first_other line later else DiffersIn (field_for told)

-- numbers for the fields from k on
unfoldable pub numbers_from : ℕ → List ℕ → List Told
numbers_from k [] = []
numbers_from k (n ∷ later) = Told.the_number k n ∷ numbers_from (suc k) later

-- the words of a state in some places
abbrev pub words_at : List ℕ → List ℕ → List ℕ
words_at state places = map (λ (k : ℕ). slice_index state k) places

-- what a run gives back, in the order of fields 17 to 29: the number, steps and address, and the machine but for its singles
unfoldable pub results_of : ℕ → List ℕ → List ℕ
results_of number state = number ∷ words_at state (18 ∷ 19 ∷ 0 ∷ 1 ∷ 2 ∷ 3 ∷ 4 ∷ 5 ∷ 6 ∷ 7 ∷ 8 ∷ 9 ∷ [])

-- the singles that a run gives back, in the order of fields 42 to 49
unfoldable pub singles_of : List ℕ → List ℕ
singles_of state = words_at state (10 ∷ 11 ∷ 12 ∷ 13 ∷ 14 ∷ 15 ∷ 16 ∷ 17 ∷ [])

-- what a run tells: these numbers, then these singles, then the data after in field 31
unfoldable pub run_told : ℕ → List ℕ → List ℕ → List Told
run_told number state area =
    numbers_from 17 (results_of number state) ++ (numbers_from 42 (singles_of state) ++ (Told.the_area 31 area ∷ []))

-- the same of a call
abbrev pub ran_told : Call → List Told
ran_told call = run_told call.number call.state call.area

-- what a check or a hex file tells: its number in field 17, the answer in field 19, the marks or the code area after in field 31
unfoldable pub answer_told : ℕ → ℕ → List ℕ → List Told
answer_told number value area = Told.the_number 17 number ∷ Told.the_number 19 value ∷ Told.the_area 31 area ∷ []

-- the finding of a run over code, constants and data
unfoldable pub lent_finding : List ℕ → List ℕ → List ℕ → List ℕ → Finding
lent_finding line code constants d = first_other line (ran_told (call_of (state_before line) (fixed_to code constants) d (number_of line 12)))

-- the finding of a run over code, data and its line's constants; where these don't fit it is malformed
unfoldable pub run_finding : List ℕ → List ℕ → List ℕ → Finding
run_finding line code d = if area_fits line 32 then lent_finding line code (constants_of line) d else Malformed

-- the finding of a check over code and marks
pub data CheckFinds (line code marks : List ℕ) : Finding → Type 0 where
  checked : {number value : ℕ} {after : List ℕ} → Checks code marks (0 ∷ []) number after (value ∷ [])
      → CheckFinds line code marks (first_other line (answer_told number value after))

-- the finding of a hex file read into a code area
pub data HexFinds (line text code : List ℕ) : Finding → Type 0 where
  unhexed : {number value : ℕ} {after : List ℕ} → Unhexes text code (0 ∷ []) number after (value ∷ [])
      → HexFinds line text code (first_other line (answer_told number value after))

-- the finding of a call over code and an area, with room for an answer of one word; `gives` says what the call may give, for private functions on the way
abbrev pub CallFinds : (Bor (List ℕ) → MutBor (List ℕ) → MutBor (List ℕ) → ℕ → MutBor (List ℕ) → MutBor (List ℕ) → Type 0) → List ℕ → List ℕ → List ℕ → Finding → Type 0
CallFinds gives line code area r =
    (c : Bor (List ℕ))
    × (a : MutBor (List ℕ))
    × (room : MutBor (List ℕ))
    × (number : ℕ)
    × (after : MutBor (List ℕ))
    × (answer : MutBor (List ℕ))
    × gives c a room number after answer
    × (c.now ≡ code)
    × (a.now ≡ area)
    × (room.now ≡ 0 ∷ [])
    × (r ≡ first_other line (answer_told number (slice_index answer.now 0) after.now))

-- the finding of a case of a kind
unfoldable pub KindFinds : Kind → List ℕ → List ℕ → List ℕ → Finding → Type 0
KindFinds Kind.Run line code d r = r ≡ run_finding line code d
KindFinds Kind.Check line code d r = CheckFinds line code d r
KindFinds Kind.Hex line code d r = HexFinds line code d r

-- the finding of a case over the areas of its line; one that does not fit is malformed
pub data SizedFinds (kind : Kind) (line : List ℕ) : Finding → Type 0 where
  no_code : area_fits line 13 ≡ false → SizedFinds kind line Malformed
  no_area : area_fits line 15 ≡ false → SizedFinds kind line Malformed
  sized : area_fits line 13 ≡ true → area_fits line 15 ≡ true → {r : Finding} → KindFinds kind line (code_of line) (area_of line) r → SizedFinds kind line r

-- the finding of a line: of a run, a check or a hex file, by its form; any other line is malformed
pub data Finds (line : List ℕ) : Finding → Type 0 where
  of_run : is_run line ≡ true → {r : Finding} → SizedFinds Kind.Run line r → Finds line r
  of_check : is_run line ≡ false → is_check line ≡ true → {r : Finding} → SizedFinds Kind.Check line r → Finds line r
  of_hex : is_run line ≡ false → is_check line ≡ false → is_hex line ≡ true → {r : Finding} → SizedFinds Kind.Hex line r → Finds line r
  of_none : is_run line ≡ false → is_check line ≡ false → is_hex line ≡ false → Finds line Malformed
