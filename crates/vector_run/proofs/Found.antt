-- From what the calls give to the finding of a case. Assumes nothing.
use Rattle.std.proofs.Common.{◌≡◌, ℕ, ◌%◌, ◌^◌, ◌≤◌, true, false, List, [], ◌∷◌, length, get_or, take, refl, ◌∙◌, arith, length-take-le}
use Rattle.run.specs.Steps.{fixed_to}
use Rattle.sangolid.specs.Interface.{call_of, Calls, Checks, unfit, judged, Unhexes, unfit_answer}
use Rattle.sangolid.specs.Interface.{unhexed as was_unhexed}
use Rattle.vector_text.specs.Hex.{value_of, bytes_of, padded}
use Rattle.vector_text.specs.Fields.{field_of}
use Rattle.vector_run.specs.declared.judging.Kind.{Kind}
use Rattle.vector_run.specs.Cases.{number_of, state_before, area_fits, pad_to, code_of, area_of, constants_of}
use Rattle.vector_run.specs.Findings.{Finding, Malformed, first_other, run_told, answer_told, lent_finding, run_finding, CheckFinds, checked, HexFinds, unhexed, KindFinds, SizedFinds, no_code, no_area, sized}

-- an area filled from a field
pub filled : (line : List ℕ) (k n : ℕ) {text after : List ℕ} → text ≡ field_of line k → after ≡ padded n (bytes_of text) → after ≡ pad_to line k n
unfolding pad_to
filled line k n is fills = rw (← is) fills

-- what the run's call gives, compared, is its finding
pub lent_found : (line code d : List ℕ) (size : ℕ) {text constants state before after : List ℕ} {n budget : ℕ} {r : Finding}
    → text ≡ field_of line 33 → constants ≡ padded size (bytes_of text) → before ≡ state_before line → budget ≡ value_of (field_of line 12) % 2 ^ 64
    → Calls (call_of before (fixed_to code constants) d budget) n state after → r ≡ first_other line (run_told n state after)
    → r ≡ lent_finding line code (pad_to line 33 size) d
unfolding lent_finding number_of
lent_found line code d size is fills start steps calls found =
    found ∙ rw (calls.is, calls.state_left, calls.area_left, start, steps, filled line 33 size is fills)

-- what the check's call gives, compared, is its finding
pub check_found : {line code marks after answer : List ℕ} {n : ℕ} {r : Finding} → Checks code marks (0 ∷ []) n after answer
    → r ≡ first_other line (answer_told n (get_or answer 0 0) after) → CheckFinds line code marks r
check_found (unfit wrong) found = absurd (wrong refl)
check_found (judged long verdict) found = rw found (checked (judged long verdict))

-- what the call for a hex file gives, compared, is its finding
pub hex_found : {line text code after answer : List ℕ} {n : ℕ} {r : Finding} → Unhexes text code (0 ∷ []) n after answer
    → r ≡ first_other line (answer_told n (get_or answer 0 0) after) → HexFinds line text code r
hex_found (unfit_answer wrong) found = absurd (wrong refl)
hex_found (was_unhexed long outcome) found = rw found (unhexed (was_unhexed long outcome))

module _ {kind : Kind} (line : List ℕ) {code d code' d' : List ℕ} {r : Finding} (code_is : code ≡ code') (d_is : d ≡ d') where
  -- the finding of a run
  pub kind_run : kind ≡ Kind.Run → r ≡ run_finding line code d → KindFinds kind line code' d' r
  unfolding KindFinds
  kind_run is found = rw (is, ← code_is, ← d_is) found

  -- the finding of a check
  pub kind_check : kind ≡ Kind.Check → CheckFinds line code d r → KindFinds kind line code' d' r
  unfolding KindFinds
  kind_check is found = rw (is, ← code_is, ← d_is) found

  -- the finding of a hex file
  pub kind_hex : kind ≡ Kind.Hex → HexFinds line code d r → KindFinds kind line code' d' r
  unfolding KindFinds
  kind_hex is found = rw (is, ← code_is, ← d_is) found

-- so much of a room is a size that fits it
room_part : (line room : List ℕ) (k n : ℕ) → n ≡ number_of line k → n ≤ 65540 → 65540 ≡ length room → length (take n room) ≡ number_of line k
room_part line room k n is fits long = length-take-le n room (omega arith) ∙ is

module _ (line code d : List ℕ) {r : Finding} where
  -- a run whose constants don't fit
  pub run_unfit : area_fits line 32 ≡ false → r ≡ Malformed → r ≡ run_finding line code d
  unfolding run_finding
  run_unfit no_room is = is ∙ rw no_room

  -- a run over the constants of its line
  pub run_found : (room : List ℕ) {n : ℕ} → (area_fits line 32 ≡ true) × (n ≡ number_of line 32) × (n ≤ 65540) → 65540 ≡ length room
      → r ≡ lent_finding line code (pad_to line 33 (length (take n room))) d → r ≡ run_finding line code d
  unfolding run_finding constants_of
  run_found room {n} (fits, is, most) long found = found ∙ rw (fits, room_part line room 32 n is most long)

module _ {kind : Kind} (line : List ℕ) {r : Finding} where
  -- a case whose code does not fit
  pub sized_no_code : area_fits line 13 ≡ false → r ≡ Malformed → SizedFinds kind line r
  sized_no_code fails is = rw is (no_code fails)

  -- a case whose area does not fit
  pub sized_no_area : area_fits line 15 ≡ false → r ≡ Malformed → SizedFinds kind line r
  sized_no_area fails is = rw is (no_area fails)

  -- a case over the areas of its line
  pub sized_found : (code d : List ℕ) {m n : ℕ} → (area_fits line 13 ≡ true) × (m ≡ number_of line 13) × (m ≤ 65540)
      → (area_fits line 15 ≡ true) × (n ≡ number_of line 15) × (n ≤ 65540) → 65540 ≡ length code → 65540 ≡ length d
      → KindFinds kind line (pad_to line 14 (length (take m code))) (pad_to line 16 (length (take n d))) r → SizedFinds kind line r
  unfolding code_of area_of
  sized_found code d {m} {n} (code_fits, m_is, m_most) (d_fits, n_is, n_most) code_long d_long found =
      sized code_fits d_fits (rw (room_part line code 13 m m_is m_most code_long, room_part line d 15 n n_is n_most d_long) at found)
