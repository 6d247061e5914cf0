-- What is judged of a line, after any lines of which so much is known. Assumes nothing.
use mathlib.Core.Path.{◌≡◌, refl, ap, sym, ◌∙◌}
use mathlib.Core.Bool.{Bool, true, false, cond}
use mathlib.Core.List.Memᴰ
use mathlib.Core.List.{List, [], ◌∷◌, ◌++◌, Memᴰ}
use Prim.Native.Nat.{ℕ, ◌+◌, ◌*◌, ◌%◌, ◌<◌, ◌≤◌}
use native.Mathlib.Omega.{arith}
use lib.Dec.{eqb}
use lib.ListN.{length, get_or}
use borrow.Author.Tests.{eqb-true, eqb-false}
use Rattle.std.specs.Prelude.{Option, Result, Ok, Err, ⊤}
use Rattle.intel_hex.specs.Records.{Record, in_order, Reads, total}
use Rattle.intel_hex.specs.Files.{given_from, given_by, upper_of, given, Proper, of_data, of_end, of_upper, code_base, Within, Clash}
use Rattle.intel_hex.specs.Reading.{byte_at, bytes_at, record_in, Summed, Shows, Lays, laid, clash, Known, ending, rising, reaching, end_judged, upper_judged, Judges, sound, faulty, JudgesFrom}
use Rattle.intel_hex.specs.declared.judging.File.{File}
use Rattle.intel_hex.specs.declared.fault.Fault.{Fault as Refusal}
use Rattle.intel_hex.proofs.Spelling.{byte_small, bytes_length}
use Rattle.intel_hex.proofs.Giving.{given_back, given_forth, given_data, given_other, upper_set, upper_kept}
use Rattle.intel_hex.proofs.Faults.{first_end, first_malformed, first_sum, first_type, first_outside, first_given, no_fault}
use Rattle.intel_hex.proofs.Knowing.{known_quiet, known_end, known_data}

-- what a result holds, and else another
abbrev pub value_or : {A E : Type 0} → A → Result A E → A
value_or other (Ok x) = x
value_or other (Err e) = other

-- the error of a result, and else another
abbrev pub error_or : {A E : Type 0} → E → Result A E → E
error_or other (Ok x) = other
error_or other (Err e) = e

-- a line after an end record
pub judged_after_end : (size : ℕ) (file : File) (image : List (Option ℕ)) (line : List ℕ) → file.ended ≡ true → JudgesFrom size file image line (Err Refusal.AfterEnd) image
unfolding JudgesFrom
judged_after_end size file image line ended = λ records known. faulty (first_end size records line (known.ends ended))

module _ (size : ℕ) (file : File) (image : List (Option ℕ)) (line : List ℕ) (unended : file.ended ≡ false) where
  -- a line that is no record
  pub judged_malformed : ((r : Record) → Reads line r → ⊥) → JudgesFrom size file image line (Err Refusal.Malformed) image
  unfolding JudgesFrom
  judged_malformed none = λ records known. faulty (first_malformed size records line (known.unended unended) none)

  -- a record that adds up to something else
  pub judged_sum : (r : Record) → Reads line r → (total (in_order r) % 256 ≡ 0 → ⊥) → JudgesFrom size file image line (Err Refusal.WrongSum) image
  unfolding JudgesFrom
  judged_sum r is bad = λ records known. faulty (first_sum size records line (known.unended unended) is bad)

  module _ (count : ℕ) (so : Summed line count) where
    -- the record of the line
    abbrev own : Record
    own = record_in line count

    -- one that isn't proper
    improper : (Proper own → ⊥) → JudgesFrom size file image line (Err Refusal.OtherType) image
    unfolding JudgesFrom
    improper bad = λ records known. faulty (first_type size records line (known.unended unended) so.reads so.sums bad)

    -- one of another type
    pub judged_type : (byte_at line 7 ≡ 0 → ⊥) → (byte_at line 7 ≡ 1 → ⊥) → (byte_at line 7 ≡ 4 → ⊥)
        → JudgesFrom size file image line (Err Refusal.OtherType) image
    unfolding record_in
    judged_type zero one four = improper (λ p. none p)
      where
        none : Proper own → ⊥
        none (of_data e) = zero e
        none (of_end e n) = one e
        none (of_upper e n) = four e

    -- a proper record that gives no byte has no fault, and this is known after it
    quiet : {after : File} → Proper own → ((upper : ℕ) → given_by upper own ≡ [])
        → ((records : List Record) → Known size records file image → Known size (own ∷ records) after image)
        → JudgesFrom size file image line (Ok after) image
    unfolding JudgesFrom
    quiet proper silent more = λ records known.
        let none : (a b : ℕ) → Memᴰ (a, b) (given_by (upper_of records) own) → ⊥ = λ a b m. Memᴰ.not-nil (rw (silent (upper_of records)) at m) in
        sound so.reads
        (no_fault size records line (known.unended unended) so.reads so.sums proper (λ a b m. absurd (none a b m)) (λ a b c m old. none a b m))
        (more records known)

    -- one of type 01
    pub judged_end : byte_at line 7 ≡ 1 → JudgesFrom size file image line (end_judged count file) image
    unfolding record_in end_judged
    judged_end is = go (eqb count 0) refl
      where
        long : length (bytes_at line 9 count) ≡ count
        long = bytes_length line 9 count

        none : Proper own → count ≡ 0
        none (of_data e) = absurd (omega arith)
        none (of_end e n) = sym long ∙ n
        none (of_upper e n) = absurd (omega arith)

        go : (t : Bool) → eqb count 0 ≡ t → JudgesFrom size file image line (cond t (Ok (ending file)) (Err Refusal.OtherType)) image
        go true e =
            quiet (of_end is (long ∙ eqb-true count 0 e)) (λ upper. given_other upper own (λ k. omega arith)) (λ records known. known_end known own is)
        go false e = improper (λ p. eqb-false count 0 e (none p))

    -- one of type 04
    pub judged_upper : byte_at line 7 ≡ 4 → JudgesFrom size file image line (upper_judged line count file) image
    unfolding record_in upper_judged
    judged_upper is = go (eqb count 2) refl
      where
        long : length (bytes_at line 9 count) ≡ count
        long = bytes_length line 9 count

        two : Proper own → count ≡ 2
        two (of_data e) = absurd (omega arith)
        two (of_end e n) = absurd (omega arith)
        two (of_upper e n) = sym long ∙ n

        half : count ≡ 2 → 256 * byte_at line 9 + byte_at line 11 ≡ 256 * get_or (bytes_at line 9 count) 0 0 + get_or (bytes_at line 9 count) 1 0
        half e = rw e (unfold bytes_at in refl)

        go : (t : Bool) → eqb count 2 ≡ t
            → JudgesFrom size file image line (cond t (Ok (rising file (256 * byte_at line 9 + byte_at line 11))) (Err Refusal.OtherType)) image
        go true e =
            let two_bytes = eqb-true count 2 e in
            quiet (of_upper is (long ∙ two_bytes)) (λ upper. given_other upper own (λ k. omega arith))
            (λ records known.
            known_quiet known own (256 * byte_at line 9 + byte_at line 11) (λ k. omega arith) (given_other (upper_of records) own (λ k. omega arith))
            (half two_bytes ∙ sym (upper_set (upper_of records) own is)) (omega (arith, byte_small line 9, byte_small line 11)))
        go false e = improper (λ p. eqb-false count 2 e (two p))

    module _ (is : byte_at line 7 ≡ 0) where
      -- one of type 00 without data bytes
      pub judged_empty : count ≡ 0 → JudgesFrom size file image line (Ok file) image
      unfolding record_in rising
      judged_empty none =
          quiet (of_data is) silent
          (λ records known.
          known_quiet known own file.upper (λ k. omega arith) (silent (upper_of records))
          (known.upper ∙ sym (upper_kept (upper_of records) own (λ k. omega arith))) known.half)
        where
          silent : (upper : ℕ) → given_by upper own ≡ []
          silent upper = given_data upper own is ∙ rw none (unfold bytes_at given_from in refl)

      -- its bytes lie from upper half × 65,536 plus offset on
      abbrev start : ℕ
      start = file.upper * 65536 + (256 * byte_at line 3 + byte_at line 5)

      -- they are these
      own_given : (records : List Record) → Known size records file image → given_by (upper_of records) own ≡ given_from start (bytes_at line 9 count)
      unfolding record_in
      own_given records known =
          given_data (upper_of records) own is
          ∙ ap (λ (u : ℕ). given_from (u * 65536 + (256 * byte_at line 3 + byte_at line 5)) (bytes_at line 9 count)) (sym known.upper)

      -- one with a byte outside
      pub judged_outside : (j : ℕ) → j < count → (Within size (start + j) → ⊥) → JudgesFrom size file image line (Err Refusal.Outside) image
      unfolding JudgesFrom record_in
      judged_outside j inside bad = λ records known.
          faulty
          (first_outside size records line (known.unended unended) so.reads so.sums (of_data is) (start + j) (get_or (bytes_at line 9 count) j 0)
          (rw (own_given records known) (given_forth start (bytes_at line 9 count) j (omega (arith, bytes_length line 9 count)))) bad)

      module _ (from : ℕ) (place : start ≡ code_base + from) (block : from + count ≤ 65536) (fits : from + count ≤ size) where
        -- where its bytes lie
        abbrev new : List (ℕ × ℕ)
        new = given_from (code_base + from) (bytes_at line 9 count)

        -- they are its own
        own_new : (records : List Record) → Known size records file image → given_by (upper_of records) own ≡ new
        own_new records known = own_given records known ∙ ap (λ (a : ℕ). given_from a (bytes_at line 9 count)) place

        -- and lie inside
        new_within : (a b : ℕ) → Memᴰ (a, b) new → Within size a
        new_within a b m =
            let (j, inside, here, value) = given_back (code_base + from) (bytes_at line 9 count) a b m in
            let long = bytes_length line 9 count in
            record { from = omega arith; inside = omega arith; below = omega arith }

        -- an address that was given before is its first fault
        clashes : {after : List (Option ℕ)} (records : List Record) → Known size records file image → Clash new (given records)
            → Judges size records line (Err Refusal.GivenBefore) after
        unfolding Clash record_in
        clashes records known (a, b, c, m, old) =
            faulty
            (first_given size records line (known.unended unended) so.reads so.sums (of_data is)
            (λ x y n. new_within x y (rw (own_new records known) at n)) a b c (rw (own_new records known) m) old)

        -- without one it has no fault
        lies : {after : List (Option ℕ)} (records : List Record) → Known size records file image → 0 < count → (Clash new (given records) → ⊥)
            → Shows (new ++ given records) after → Judges size records line (Ok (reaching file (from + count))) after
        unfolding Clash record_in
        lies {after} records known some fresh shows =
            sound so.reads
            (no_fault size records line (known.unended unended) so.reads so.sums (of_data is)
            (λ x y n. new_within x y (rw (own_new records known) at n))
            (λ a b c m old. fresh (a, b, c, rw (own_new records known) at m, old)))
            (rw long at (known_data own from known is (rw (← known.upper) place) (omega (arith, long)) (omega (arith, long)) (omega (arith, long)) shows))
          where
            long : length (bytes_at line 9 count) ≡ count
            long = bytes_length line 9 count

        -- one with an address given before
        pub judged_clash : {after : List (Option ℕ)} (why : Refusal) → ((bytes : List (ℕ × ℕ)) → Shows bytes image → Lays new bytes (Err why) after)
            → JudgesFrom size file image line (Err why) after
        unfolding JudgesFrom record_in
        judged_clash {after} why lays = λ records known. go records known (lays (given records) known.shows)
          where
            go : {why : Refusal} (records : List Record) → Known size records file image → Lays new (given records) (Err why) after
                → Judges size records line (Err why) after
            go records known (clash c) = clashes records known c

        -- one whose bytes are laid
        pub judged_laid : {after : List (Option ℕ)} (told : Result ⊤ Refusal) → told ≡ Ok tt → 0 < count → ((bytes : List (ℕ × ℕ)) → Shows bytes image → Lays new bytes told after)
            → JudgesFrom size file image line (Ok (reaching file (from + count))) after
        unfolding JudgesFrom
        judged_laid {after} told all some lays = λ records known. go records known (rw all at (lays (given records) known.shows))
          where
            go : (records : List Record) → Known size records file image → Lays new (given records) (Ok tt) after
                → Judges size records line (Ok (reaching file (from + count))) after
            go records known (laid fresh shows) = lies records known some fresh shows
