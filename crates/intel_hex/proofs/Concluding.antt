-- What is answered for a text without a faulty line. Assumes nothing.
use mathlib.Core.Path.{◌≡◌, refl, ap, ◌∙◌}
use mathlib.Core.Bool.{true, false}
use mathlib.Core.Logic.{◌⊎◌, inl, inr}
use mathlib.Core.List.{List, [], ◌∷◌, ◌++◌, Memᴰ}
use Prim.Native.Nat.{ℕ, suc, ◌+◌, ◌-◌, ◌<◌, ◌≤◌}
use native.Mathlib.Omega.{arith}
use lib.ListN.{length, get_or, take, drop, length-append, length-drop, get_or-append}
use lib.Seq.{get_or-drop, get_or-append-add}
use Rattle.std.proofs.lemmas.List.{length-take-le}
use Rattle.intel_hex.specs.Records.{Record}
use Rattle.intel_hex.specs.Files.{given, code_base, Holds, Outcome, refused, no_end, no_data, read, number_of, value_of, refusal_number, Fault, malformed, wrong_sum, other_type, outside, given_before, after_end, fault_number}
use Rattle.intel_hex.specs.Reading.{Known, Copied, filled, Concluded, Found, whole, at_line, refusal_of}
use Rattle.std.specs.Prelude.{Option, Result, Ok, Err}
use Rattle.intel_hex.specs.declared.fault.Fault.{Fault as Refusal}
use Rattle.intel_hex.specs.declared.fault.Refused.{Refused}
use Rattle.intel_hex.specs.declared.judging.File.{File}

-- bytes of which none is given
none_given : (bytes : List (ℕ × ℕ)) → ((a b : ℕ) → Memᴰ (a, b) bytes → ⊥) → bytes ≡ []
none_given [] none = refl
none_given ((a, b) ∷ bytes) none = absurd (none a b (Memᴰ.head refl))

-- the code area holds what is known to be given
known_holds : {size : ℕ} {records : List Record} {file : File} {image : List (Option ℕ)} {area after : List ℕ} → Known size records file image → (file.top ≡ 0 → ⊥)
    → Copied image area file.top after → Holds (given records) area file.top after
known_holds {size} {records} {file} {image} {area} {after} known some copied =
    record { long = copied.long; highest = highest known.highest; most = known.most; byte = byte; gap = gap; beyond = copied.beyond }
  where
    highest : (file.top ≡ 0) ⊎ ((a : ℕ) × (b : ℕ) × Memᴰ (a, b) (given records) × (suc a ≡ code_base + file.top))
        → (a : ℕ) × (b : ℕ) × Memᴰ (a, b) (given records) × (suc a ≡ code_base + file.top)
    highest (inl e) = absurd (some e)
    highest (inr last) = last

    byte : (a b : ℕ) → Memᴰ (a, b) (given records) → get_or after (a - code_base) 0 ≡ b
    byte a b m =
        let below = known.most a b m in
        let from = known.shows.from a b m in
        copied.below (a - code_base) (omega arith) ∙ ap filled (known.shows.cell a b m)

    gap : (i : ℕ) → i < file.top → ((b : ℕ) → Memᴰ (code_base + i, b) (given records) → ⊥) → get_or after i 0 ≡ 0x90
    gap i h none = copied.below i h ∙ ap filled (known.shows.blank i none)

-- what is copied into an area's beginning is copied into the area
pub copied_into : {image : List (Option ℕ)} {area after : List ℕ} (size : ℕ) → size ≤ length area → Copied image (take size area) (length (take size area)) after
    → Copied image area size (after ++ drop size area)
copied_into {image} {area} {after} size fits copied =
    let taken : length (take size area) ≡ size = length-take-le size area fits in
    let long : length after ≡ size = copied.long ∙ taken in
    record {
      long = rw (length-append after (drop size area), long, length-drop size area) (omega (arith, fits));
      below = λ i h. get_or-append after (drop size area) 0 i (omega (arith, long, h)) ∙ copied.below i (omega (arith, taken, h));
      beyond = λ i h.
          let there : length after + (i - length after) ≡ i = omega (arith, long, h) in
          let same : size + (i - length after) ≡ i = omega (arith, long, h) in
          rw (there, same) at (get_or-append-add after (drop size area) (i - length after) 0 ∙ get_or-drop size area (i - length after) 0);
    }

module _ (file : File) (image : List (Option ℕ)) (area : List ℕ) where
  -- no end record
  pub concluded_open : file.ended ≡ false → Concluded file image area (Err (record { fault = Refusal.NoEnd; line = 0 })) area
  unfolding Concluded
  concluded_open open_yet = λ text records stand known. no_end stand (known.unended open_yet)

  -- no data byte
  pub concluded_empty : file.ended ≡ true → file.top ≡ 0 → Concluded file image area (Err (record { fault = Refusal.NoData; line = 0 })) area
  unfolding Concluded
  concluded_empty ended none = λ text records stand known.
      no_data stand (known.ends ended)
      (none_given (given records) (λ a b m. let below = known.most a b m in let from = known.shows.from a b m in omega arith))

  -- the code is copied
  pub concluded_code : {after : List ℕ} → file.ended ≡ true → (file.top ≡ 0 → ⊥) → Copied image area file.top after
      → Concluded file image area (Ok file.top) after
  unfolding Concluded
  concluded_code ended some copied = λ text records stand known. read stand (known.ends ended) (known_holds known some copied)

-- after lines without a fault, what is concluded is the outcome
pub found_concluded : {text area after : List ℕ} {image : List (Option ℕ)} {file : File} (answer : Result ℕ Refused) → Found text (length area) (Ok file) image
    → Concluded file image area answer after → Outcome text area (number_of answer) (value_of answer) after
unfolding Concluded
found_concluded {text} answer (whole {records} stand known) concluded = concluded text records stand known

-- the number of a line's fault
refusal_numbered : (fault : Fault) → refusal_number (refusal_of fault) ≡ fault_number fault
unfolding fault_number
refusal_numbered malformed = refl
refusal_numbered wrong_sum = refl
refusal_numbered other_type = refl
refusal_numbered outside = refl
refusal_numbered given_before = refl
refusal_numbered after_end = refl

-- a faulty line refuses the text
pub found_refused : {text area : List ℕ} {image : List (Option ℕ)} {why : Refused} → Found text (length area) (Err why) image
    → Outcome text area (refusal_number why.fault) why.line area
found_refused (at_line earlier line later {fault} parts stand first) = rw (refusal_numbered fault) (refused earlier line later parts stand first)
