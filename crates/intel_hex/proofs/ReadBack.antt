-- A file written for some code is read back as that code. Assumes nothing.
use mathlib.Core.Path.{◌≡◌, refl, ap, sym, ◌∙◌}
use mathlib.Core.List.Memᴰ
use mathlib.Core.List.{List, [], ◌∷◌, ◌++◌, append_assoc, append-nil}
use Prim.Native.Nat.{ℕ, zero, suc, ◌+◌, ◌-◌, ◌<◌, ◌≤◌}
use native.Mathlib.Omega.{arith}
use lib.ListN.{length, get_or, take, drop, length-append, length-drop, get_or-append}
use lib.Seq.{get_or-drop, get_or-append-add, drop-drop}
use Rattle.intel_hex.specs.Lines.{lines_of}
use Rattle.intel_hex.specs.Records.{Record}
use Rattle.intel_hex.specs.Files.{given_by, upper_after, upper_of, given, Ended, of_end, of_upper, code_base, Stand, none, Holds, Outcome, read}
use Rattle.intel_hex.specs.Writing.{record_of, line_of, data_lines, written}
use Rattle.intel_hex.proofs.Giving.{given_other, still_open}
use Rattle.intel_hex.proofs.Spelt.{Small, small_by, record_small, record_sums}
use Rattle.intel_hex.proofs.Standing.{Sound, bare_sound, line_stands}
use Rattle.intel_hex.proofs.Chunks.{Filled, data_sound, data_filled}

-- the record of the upper half
abbrev first : Record
first = record_of 4 0 (0 ∷ 1 ∷ [])

-- the end record
abbrev final : Record
final = record_of 1 0 []

-- among no records there is no end record
nothing_ended : Ended [] → ⊥
unfolding Ended
nothing_ended (r, m, kind) = Memᴰ.not-nil m

-- the first may stand first
first_sound : (size : ℕ) → Sound size [] first
unfolding Small record_of
first_sound size =
    bare_sound size [] first (record_small 4 0 (0 ∷ 1 ∷ []) (omega arith) (omega arith) (omega arith) (omega arith, (omega arith, tt)))
    (record_sums 4 0 (0 ∷ 1 ∷ [])) (of_upper refl refl) (λ e. omega arith) nothing_ended

-- behind it no byte is given yet
first_filled : (code : List ℕ) → Filled code 0 (first ∷ [])
unfolding record_of given given_by upper_of upper_after
first_filled code =
    record {
      upper = refl;
      unended = still_open first [] (λ e. omega arith) nothing_ended;
      back = λ a b m. absurd (Memᴰ.not-nil m);
      forth = λ i h inside. absurd (omega arith);
    }

-- the end record may stand where there is none
final_stands : (size : ℕ) (records : List Record) → (Ended records → ⊥) → Stand size records (lines_of (line_of final)) (final ∷ records)
unfolding lines_of record_of Small
final_stands size records h =
    let sound : Sound size records final =
    bare_sound size records final (record_small 1 0 [] (omega arith) (omega arith) (omega arith) tt) (record_sums 1 0 []) (of_end refl refl) (λ e. omega arith) h in
    rw (append-nil (line_of final)) at (line_stands size records final [] sound none)

-- bytes up to any offset past the code are all of it
filled_all : {code : List ℕ} {k : ℕ} {records : List Record} → length code ≤ k → Filled code k records → Filled code (length code) records
filled_all h f =
    record {
      upper = f.upper;
      unended = f.unended;
      back = λ a b m. let (i, before, inside, place, is) = f.back a b m in (i, inside, inside, place, is);
      forth = λ i before inside. f.forth i (omega arith) inside;
    }

module _ (size : ℕ) (code : List ℕ) (fits : length code ≤ size) (block : length code ≤ 65536) (bytes : Small code) where
  -- the data lines and the end record's stand, and give the code
  data_stand : (n k : ℕ) (left : List ℕ) (records : List Record) → left ≡ drop k code → length left ≤ n → Filled code k records
      → (last : List Record) × Filled code (length code) last × Stand size records (lines_of (data_lines n k left ++ line_of final)) (final ∷ last)
  unfolding data_lines
  data_stand zero k [] records here h f =
      (records, filled_all (omega (arith, ap length here, length-drop k code)) f, final_stands size records f.unended)
  data_stand zero k (b ∷ left) records here h f = absurd (omega arith)
  data_stand (suc n) k [] records here h f =
      (records, filled_all (omega (arith, ap length here, length-drop k code)) f, final_stands size records f.unended)
  data_stand (suc n) k (b ∷ left) records here h f =
      let some : k < length code = omega (arith, ap length here, length-drop k code) in
      let r : Record = record_of 0 k (b ∷ take 15 left) in
      let (last, filled, stand) =
      data_stand n (k + 16) (drop 15 left) (r ∷ records) (ap (drop 16) here ∙ drop-drop 16 k code) (omega (arith, length-drop 15 left))
      (data_filled code k (b ∷ left) here some records f) in (
        last,
        filled,
        rw (append_assoc (line_of r) (data_lines n (k + 16) (drop 15 left)) (line_of final))
            (line_stands size records r (data_lines n (k + 16) (drop 15 left) ++ line_of final) (data_sound code k (b ∷ left) here some records f size fits block bytes) stand),
      )

-- records that give the code leave it in the area
filled_holds : (code area : List ℕ) (records : List Record) → 0 < length code → length code ≤ length area → Filled code (length code) records
    → Holds (given records) area (length code) (code ++ drop (length code) area)
filled_holds code area records some fits f =
    record {
      long = length-append code (drop (length code) area) ∙ omega (arith, length-drop (length code) area);
      highest = (code_base + (length code - 1), get_or code (length code - 1) 0, f.forth (length code - 1) (omega arith) (omega arith), omega arith);
      most = λ a b m. let (i, before, inside, place, is) = f.back a b m in omega arith;
      byte =
          λ a b m.
          let (i, before, inside, place, is) = f.back a b m in
          let there : a - code_base ≡ i = omega arith in
          rw there (get_or-append code (drop (length code) area) 0 i inside ∙ sym is);
      gap = λ i h free. absurd (free (get_or code i 0) (f.forth i h h));
      beyond =
          λ i past.
          let there : length code + (i - length code) ≡ i = omega arith in
          rw there at (get_or-append-add code (drop (length code) area) (i - length code) 0 ∙ get_or-drop (length code) area (i - length code) 0);
    }

-- a file written for some code is read back as that code; beyond it the area stays
pub written_read : (code area : List ℕ) → 0 < length code → length code ≤ 65536 → length code ≤ length area → ((i : ℕ) → get_or code i 0 < 256)
    → Outcome (written code) area 0 (length code) (code ++ drop (length code) area)
unfolding written given Ended record_of
written_read code area some block fits small =
    let (last, filled, stand) =
    data_stand (length area) code fits block (small_by code small) (length code) 0 code (first ∷ []) refl (omega arith) (first_filled code) in
    let holds : Holds (given (final ∷ last)) area (length code) (code ++ drop (length code) area) =
    rw (given_other (upper_of last) final (λ e. omega arith)) (filled_holds code area last some fits filled) in
    read (line_stands (length area) [] first (data_lines (length code) 0 code ++ line_of final) (first_sound (length area)) stand)
    (final, Memᴰ.head refl, refl) holds
