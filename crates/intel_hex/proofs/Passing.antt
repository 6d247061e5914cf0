-- The lines of a text judged one after another. Assumes nothing.
use mathlib.Core.Path.{◌≡◌, refl, ap, sym, ◌∙◌}
use mathlib.Core.Bool.{false}
use mathlib.Core.List.{List, [], ◌∷◌, ◌++◌, append_assoc, append-nil}
use Prim.Native.Nat.{ℕ, suc, ◌+◌}
use native.Mathlib.Omega.{arith}
use lib.ListN.{length, replicate, length-append}
use Rattle.std.specs.Prelude.{Option, None, Ok, Err}
use Rattle.intel_hex.specs.Lines.{lines_of}
use Rattle.intel_hex.specs.Records.{Record, Reads}
use Rattle.intel_hex.specs.Files.{Fault, Has, Stand, none, next}
use Rattle.intel_hex.specs.Reading.{Known, Judges, sound, faulty, JudgesFrom, Found, whole, at_line}
use Rattle.intel_hex.specs.declared.fault.Fault.{Fault as Refusal}
use Rattle.intel_hex.specs.declared.fault.Refused.{Refused}
use Rattle.intel_hex.specs.declared.judging.File.{File}
use Rattle.intel_hex.proofs.Knowing.{known_none}
use Rattle.intel_hex.proofs.Picture.{blank_shows}

-- no byte
no_bytes : (text : List ℕ) → length text ≡ 0 → text ≡ []
no_bytes [] e = refl
no_bytes (b ∷ text) e = absurd (omega arith)

-- a line more stands
stand_more : {size : ℕ} {before records : List Record} {earlier : List (List ℕ)} {line : List ℕ} {r : Record} → Stand size before earlier records
    → Reads line r → ((fault : Fault) → Has size records line fault → ⊥) → Stand size before (earlier ++ (line ∷ [])) (r ∷ records)
stand_more none is fine = next is fine none
stand_more (next first well later) is fine = next first well (stand_more later is fine)

-- so many lines before the rest of a text stand, and this is known after them
pub record Passing (text : List ℕ) (size : ℕ) (file : File) (image : List (Option ℕ)) (rest : List ℕ) (line : ℕ) : Type 0 where
  pub earlier : List (List ℕ)
  pub records : List Record
  pub parts : lines_of text ≡ earlier ++ lines_of rest
  pub count : line ≡ length earlier
  pub stand : Stand size [] earlier records
  pub known : Known size records file image

pub passes_begin : (text : List ℕ) (size : ℕ) (image : List (Option ℕ)) → image ≡ replicate 65536 None
    → Passing text size (record { ended = false; upper = 0; top = 0 }) image text 0
passes_begin text size image blank =
    record {
      earlier = [];
      records = [];
      parts = refl;
      count = refl;
      stand = none;
      known = known_none size (blank_shows image blank);
    }

module _ {text : List ℕ} {size : ℕ} {file : File} {image : List (Option ℕ)} {rest : List ℕ} {count : ℕ} (so : Passing text size file image rest count)
    {line : List ℕ} (after : List ℕ) (first : lines_of rest ≡ line ∷ lines_of after) where
  -- the lines, the next one among them
  lines_here : lines_of text ≡ so.earlier ++ (line ∷ lines_of after)
  lines_here = so.parts ∙ ap (λ (l : List (List ℕ)). so.earlier ++ l) first

  -- it has no fault
  pub passes_go : {next_file : File} {next_image : List (Option ℕ)} → JudgesFrom size file image line (Ok next_file) next_image
      → Passing text size next_file next_image after (count + 1)
  unfolding JudgesFrom
  passes_go {next_file} {next_image} judges = go (judges so.records so.known)
    where
      go : Judges size so.records line (Ok next_file) next_image → Passing text size next_file next_image after (count + 1)
      go (sound {r} is fine known) =
          let so_many = so.count in
          record {
            earlier = so.earlier ++ (line ∷ []);
            records = r ∷ so.records;
            parts = lines_here ∙ sym (append_assoc so.earlier (line ∷ []) (lines_of after));
            count = rw length-append (omega arith);
            stand = stand_more so.stand is fine;
            known = known;
          }

  -- it has one
  pub passes_stop : (why : Refused) {next_image : List (Option ℕ)} → why.line ≡ count + 1 → JudgesFrom size file image line (Err why.fault) next_image
      → Found text size (Err why) next_image
  unfolding JudgesFrom
  passes_stop why {next_image} place judges = go (judges so.records so.known)
    where
      here : why.line ≡ suc (length so.earlier)
      here = let so_many = so.count in omega arith

      go : {fault : Refusal} → Judges size so.records line (Err fault) next_image → Found text size (Err (record { fault = fault; line = why.line })) next_image
      go (faulty bad) = rw here (at_line so.earlier line (lines_of after) lines_here so.stand bad)

-- all lines stand
pub passes_end : {text : List ℕ} {size : ℕ} {file : File} {image : List (Option ℕ)} {rest : List ℕ} {count : ℕ} → Passing text size file image rest count
    → length rest ≡ 0 → Found text size (Ok file) image
unfolding lines_of
passes_end {text} {size} {rest} so h =
    let all : lines_of text ≡ so.earlier = so.parts ∙ rw (no_bytes rest h) (append-nil so.earlier) in
    whole {records = so.records} (rw all so.stand) so.known
