-- The faults of a line that is a record: which is the first, and when there is none. Assumes nothing.
use mathlib.Core.Path.{◌≡◌}
use mathlib.Core.List.{List, Memᴰ}
use Prim.Native.Nat.{ℕ, ◌%◌}
use Rattle.intel_hex.specs.Records.{Record, in_order, Reads, total}
use Rattle.intel_hex.specs.Files.{given_by, upper_of, given, Ended, Proper, Within, Fault, malformed, wrong_sum, other_type, outside, given_before, after_end, Clash, Has, order, First, here, next}
use Rattle.intel_hex.proofs.Forms.{reads_unique}

module _ (size : ℕ) (records : List Record) (line : List ℕ) where
  -- after an end record any line is refused
  pub first_end : Ended records → First (Has size records line) order after_end
  unfolding Has order
  first_end ended = here ended

  -- before it, a line that is no record
  pub first_malformed : (Ended records → ⊥) → ((r : Record) → Reads line r → ⊥) → First (Has size records line) order malformed
  unfolding Has order
  first_malformed unended none = next unended (here none)

  module _ {r : Record} (unended : Ended records → ⊥) (is : Reads line r) where
    -- the line is a record
    sound_form : Has size records line malformed → ⊥
    unfolding Has
    sound_form none = none r is

    -- a record that adds up to something else
    pub first_sum : (total (in_order r) % 256 ≡ 0 → ⊥) → First (Has size records line) order wrong_sum
    unfolding Has order
    first_sum bad = next unended (next sound_form (here {fault = wrong_sum} (r, is, bad)))

    module _ (sums : total (in_order r) % 256 ≡ 0) where
      -- no record that is read here adds up to something else
      sound_sum : Has size records line wrong_sum → ⊥
      unfolding Has
      sound_sum (q, other, bad) = bad (rw (reads_unique other is) sums)

      -- one of another type
      pub first_type : (Proper r → ⊥) → First (Has size records line) order other_type
      unfolding Has order
      first_type bad = next unended (next sound_form (next sound_sum (here {fault = other_type} (r, is, bad))))

      module _ (proper : Proper r) where
        -- none that is read here is of another type
        sound_type : Has size records line other_type → ⊥
        unfolding Has
        sound_type (q, other, bad) = bad (rw (reads_unique other is) proper)

        -- one with a byte outside
        pub first_outside : (a b : ℕ) → Memᴰ (a, b) (given_by (upper_of records) r) → (Within size a → ⊥)
            → First (Has size records line) order outside
        unfolding Has order
        first_outside a b m bad =
            next unended (next sound_form (next sound_sum (next sound_type (here {fault = outside} (r, is, (a, b, m, bad))))))

        module _ (inside : (a b : ℕ) → Memᴰ (a, b) (given_by (upper_of records) r) → Within size a) where
          -- none that is read here has a byte outside
          sound_place : Has size records line outside → ⊥
          unfolding Has
          sound_place (q, other, (a, b, m, bad)) = bad (inside a b (rw (reads_unique other is) at m))

          -- one with an address given before
          pub first_given : (a b c : ℕ) → Memᴰ (a, b) (given_by (upper_of records) r) → Memᴰ (a, c) (given records)
              → First (Has size records line) order given_before
          unfolding Has Clash order
          first_given a b c m old =
              next unended
              (next sound_form (next sound_sum (next sound_type (next sound_place (here {fault = given_before} (r, is, (a, b, c, m, old)))))))

          -- with none of these it has no fault
          pub no_fault : ((a b c : ℕ) → Memᴰ (a, b) (given_by (upper_of records) r) → Memᴰ (a, c) (given records) → ⊥)
              → (fault : Fault) → Has size records line fault → ⊥
          unfolding Has Clash
          no_fault new malformed h = sound_form h
          no_fault new wrong_sum h = sound_sum h
          no_fault new other_type h = sound_type h
          no_fault new outside h = sound_place h
          no_fault new given_before (q, other, (a, b, c, m, old)) = new a b c (rw (reads_unique other is) at m) old
          no_fault new after_end ended = unended ended
