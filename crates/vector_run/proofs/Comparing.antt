-- What came out against the line, a field at a time. Assumes nothing.
use Rattle.std.proofs.Common.{◌≡◌, ℕ, suc, ◌+◌, ◌%◌, ◌^◌, ◌<◌, ◌≤◌, Bool, true, false, cond, List, Err, [], ◌∷◌, ◌++◌, length, get_or, take, drop, length-drop, get_or-drop, append_assoc, refl, ◌∙◌, add-one, arith, drop_of_length-le, drop-cons, eq-eqb, ne_eqb}
use Rattle.std.proofs.lemmas.List.{take_more}
use Rattle.vector_text.specs.Hex.{value_of, bytes_of, is_held}
use Rattle.vector_text.specs.Fields.{field_of}
use Rattle.vector_run.specs.declared.difference.Difference.{Difference}
use Rattle.vector_run.specs.Cases.{number_of}
use Rattle.vector_run.specs.Findings.{Finding, Same, DiffersIn, Told, agrees, field_for, first_other, numbers_from, results_of, singles_of, run_told}

module _ (line : List ℕ) (k n : ℕ) (later : List Told) where
  -- a number that the line has too
  pub number_same : n ≡ value_of (field_of line k) % 2 ^ 64 → first_other line (Told.the_number k n ∷ later) ≡ first_other line later
  unfolding first_other agrees number_of
  number_same e = rw (eq-eqb _ _ e)

  -- a number that the line has not
  pub number_other : (n ≡ value_of (field_of line k) % 2 ^ 64 → ⊥) → first_other line (Told.the_number k n ∷ later) ≡ DiffersIn k
  unfolding first_other agrees field_for number_of
  number_other other = rw (ne_eqb _ _ other)

module _ (line : List ℕ) (k : ℕ) (bytes : List ℕ) {text : List ℕ} (is : text ≡ field_of line k) where
  -- a last area that the line has too
  pub area_same : is_held bytes (bytes_of text) ≡ true → first_other line (Told.the_area k bytes ∷ []) ≡ Same
  unfolding first_other agrees
  area_same e = rw (← is, e)

  -- a last area that the line has not
  pub area_other : is_held bytes (bytes_of text) ≡ false → first_other line (Told.the_area k bytes ∷ []) ≡ DiffersIn k
  unfolding first_other agrees field_for
  area_other e = rw (← is, e)

-- numbers are found as what is left of them, from a place on
pub record Comparing (line numbers : List ℕ) (first i : ℕ) : Type 0 where
  pub rest : first_other line (numbers_from first numbers) ≡ first_other line (numbers_from (first + i) (drop i numbers))

-- all are left
pub compare_begins : (line numbers : List ℕ) (first : ℕ) → Comparing line numbers first 0
compare_begins line numbers first =
    let at_first : first + 0 ≡ first = omega arith in
    record { rest = rw at_first }

module _ {line numbers : List ℕ} {first i : ℕ} (so : Comparing line numbers first i) (h : i < length numbers) where
  -- an equal number more
  pub compare_goes : get_or numbers i 0 ≡ value_of (field_of line (first + i)) % 2 ^ 64 → Comparing line numbers first (i + 1)
  unfolding numbers_from
  compare_goes e =
      let next : first + (i + 1) ≡ suc (first + i) = omega arith in
      record {
        rest =
            so.rest ∙ rw (drop-cons numbers i 0 h, next, add-one i)
            (number_same line (first + i) (get_or numbers i 0) (numbers_from (suc (first + i)) (drop (suc i) numbers)) e);
      }

  -- another number
  pub compare_stops : (get_or numbers i 0 ≡ value_of (field_of line (first + i)) % 2 ^ 64 → ⊥) → first_other line (numbers_from first numbers) ≡ DiffersIn (first + i)
  unfolding numbers_from
  compare_stops other =
      so.rest ∙ rw (drop-cons numbers i 0 h)
      (number_other line (first + i) (get_or numbers i 0) (numbers_from (suc (first + i)) (drop (suc i) numbers)) other)

-- no number is left
pub compare_ends : {line numbers : List ℕ} {first i : ℕ} → Comparing line numbers first i → length numbers ≤ i
    → first_other line (numbers_from first numbers) ≡ Same
unfolding first_other numbers_from
compare_ends {numbers} so over = so.rest ∙ rw (drop_of_length-le numbers over)

-- one value more that is told first
later_by : (t : Bool) {first both later : Finding} (k : ℕ) → cond t first (DiffersIn k) ≡ Same → (first ≡ Same → both ≡ later) → cond t both (DiffersIn k) ≡ later
later_by true k is goes = goes is
later_by false k is goes = absurd (let z : ◌≡◌ {A = ℕ} 0 1 = cc in omega arith)

first_by : (t : Bool) {first both : Finding} {difference : Difference} (k : ℕ) → cond t first (DiffersIn k) ≡ Err difference
    → (first ≡ Err difference → both ≡ Err difference) → cond t both (DiffersIn k) ≡ Err difference
first_by true k is goes = goes is
first_by false k is goes = is

-- what is told later decides, if all that is told first agrees
pub told_later : (line : List ℕ) (told later : List Told) → first_other line told ≡ Same → first_other line (told ++ later) ≡ first_other line later
unfolding first_other
told_later line [] later is = refl
told_later line (one ∷ told) later is = later_by (agrees line one) (field_for one) is (told_later line told later)

-- what is told first decides, if some of it does not agree
pub told_first : (line : List ℕ) (told later : List Told) {difference : Difference} → first_other line told ≡ Err difference → first_other line (told ++ later) ≡ Err difference
unfolding first_other
told_first line [] later is = absurd (let z : ◌≡◌ {A = ℕ} 0 1 = cc in omega arith)
told_first line (one ∷ told) later is = first_by (agrees line one) (field_for one) is (told_first line told later)

-- a run's numbers, in two parts: its own three, and the machine but for its singles
pub results_parts : (number : ℕ) (state : List ℕ) → length state ≡ 20
    → numbers_from 17 (results_of number state) ≡ numbers_from 17 (number ∷ get_or state 18 0 ∷ get_or state 19 0 ∷ []) ++ numbers_from 20 (take 10 state)
unfolding results_of numbers_from
results_parts number state long =
    let inside = λ (k : ℕ) (h : k < 10). take_more state k 0 (omega arith) in
    rw (inside 9 (omega arith), inside 8 (omega arith), inside 7 (omega arith), inside 6 (omega arith), inside 5 (omega arith), inside 4 (omega arith), inside 3 (omega arith), inside 2 (omega arith), inside 1 (omega arith), inside 0 (omega arith))

-- its singles
pub singles_part : (state : List ℕ) → length state ≡ 20 → singles_of state ≡ take 8 (drop 10 state)
unfolding singles_of
singles_part state long =
    let rest = drop 10 state in
    let left : length rest ≡ 10 = length-drop 10 state ∙ rw long in
    let inside = λ (k : ℕ) (h : k < 8). take_more rest k 0 (omega arith) in
    let at = λ (k : ℕ). get_or-drop 10 state k 0 in
    rw (inside 7 (omega arith), inside 6 (omega arith), inside 5 (omega arith), inside 4 (omega arith), inside 3 (omega arith), inside 2 (omega arith), inside 1 (omega arith), inside 0 (omega arith), at 0, at 1, at 2, at 3, at 4, at 5, at 6, at 7)

-- what a run tells, part by part as it is compared
pub run_parts : (number : ℕ) (state area : List ℕ) → length state ≡ 20
    → run_told number state area
    ≡ numbers_from 17 (number ∷ get_or state 18 0 ∷ get_or state 19 0 ∷ [])
    ++ (numbers_from 20 (take 10 state) ++ (numbers_from 42 (take 8 (drop 10 state)) ++ (Told.the_area 31 area ∷ [])))
unfolding run_told
run_parts number state area long =
    rw (results_parts number state long, singles_part state long)
    (append_assoc (numbers_from 17 (number ∷ get_or state 18 0 ∷ get_or state 19 0 ∷ [])) (numbers_from 20 (take 10 state)) _)
