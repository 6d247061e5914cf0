-- Records whose written lines have no fault, and what they add. Assumes nothing.
use mathlib.Core.Path.{◌≡◌}
use mathlib.Core.List.Memᴰ
use mathlib.Core.List.{List, ◌∷◌, ◌++◌, Memᴰ}
use Prim.Native.Nat.{ℕ, ◌%◌}
use Rattle.intel_hex.specs.Lines.{lines_of}
use Rattle.intel_hex.specs.Records.{Record, in_order, total}
use Rattle.intel_hex.specs.Files.{given_by, upper_of, given, Ended, Proper, Within, Stand, next}
use Rattle.intel_hex.specs.Writing.{line_of}
use Rattle.intel_hex.proofs.Faults.{no_fault}
use Rattle.intel_hex.proofs.Giving.{given_other}
use Rattle.intel_hex.proofs.Spelt.{Small, lines_line, line_reads}

module _ (size : ℕ) (records : List Record) where
  -- a record that may follow these
  pub record Sound (r : Record) : Type 0 where
    pub small : Small (in_order r)
    pub sums : total (in_order r) % 256 ≡ 0
    pub proper : Proper r
    pub inside : (a b : ℕ) → Memᴰ (a, b) (given_by (upper_of records) r) → Within size a
    pub new : (a b c : ℕ) → Memᴰ (a, b) (given_by (upper_of records) r) → Memᴰ (a, c) (given records) → ⊥
    pub unended : Ended records → ⊥

  -- of another type than 00 it gives nothing that could lie outside
  pub bare_sound : (r : Record) → Small (in_order r) → total (in_order r) % 256 ≡ 0 → Proper r → (r.kind ≡ 0 → ⊥) → (Ended records → ⊥) → Sound r
  bare_sound r small sums proper other unended =
      record {
        small = small;
        sums = sums;
        proper = proper;
        inside = λ a b m. absurd (Memᴰ.not-nil (rw (given_other (upper_of records) r other) at m));
        new = λ a b c m old. Memᴰ.not-nil (rw (given_other (upper_of records) r other) at m);
        unended = unended;
      }

  -- it stands, if the lines behind it do
  pub line_stands : {after : List Record} (r : Record) (rest : List ℕ) → Sound r → Stand size (r ∷ records) (lines_of rest) after
      → Stand size records (lines_of (line_of r ++ rest)) after
  line_stands r rest s later =
      let own = line_reads r s.small in
      rw (lines_line r rest) (next own (no_fault size records (line_of r) s.unended own s.sums s.proper s.inside s.new) later)
