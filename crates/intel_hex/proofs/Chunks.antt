-- The data records of some code, 16 bytes each: what they give, and that they stand. Assumes nothing.
use mathlib.Core.Path.{◌≡◌, refl, ap, ◌∙◌}
use mathlib.Core.Logic.{⊎_elim}
use mathlib.Core.List.Memᴰ
use mathlib.Core.List.{List, ◌∷◌, Memᴰ}
use Prim.Native.Nat.{ℕ, ◌+◌, ◌-◌, ◌*◌, ◌/◌, ◌%◌, ◌<◌, ◌≤◌, min}
use native.Mathlib.Omega.{arith}
use lib.ListN.{length, get_or, take, drop, length-take, length-drop}
use lib.Seq.{get_or-take, get_or-drop}
use Rattle.text.proofs.Writing.{within}
use Rattle.intel_hex.specs.Records.{Record}
use Rattle.intel_hex.specs.Files.{given_from, given_by, upper_after, upper_of, given, Ended, of_data, code_base}
use Rattle.intel_hex.specs.Writing.{record_of}
use Rattle.intel_hex.proofs.Giving.{given_back, given_forth, still_open}
use Rattle.intel_hex.proofs.Spelt.{Small, small_take, small_drop, record_small, record_sums}
use Rattle.intel_hex.proofs.Standing.{Sound}

-- some records give the first bytes of the code, up to an offset, and nothing else
pub record Filled (code : List ℕ) (k : ℕ) (records : List Record) : Type 0 where
  pub upper : upper_of records ≡ 1
  pub unended : Ended records → ⊥
  pub back : (a b : ℕ) → Memᴰ (a, b) (given records) → (i : ℕ) × (i < k) × (i < length code) × (a ≡ code_base + i) × (b ≡ get_or code i 0)
  pub forth : (i : ℕ) → i < k → i < length code → Memᴰ (code_base + i, get_or code i 0) (given records)

-- the record of the 16 bytes, or fewer, from an offset on; all before it is given
module _ (code : List ℕ) (k : ℕ) (left : List ℕ) (here : left ≡ drop k code) (some : k < length code) (records : List Record) (f : Filled code k records) where
  -- what it gives lies from its offset on
  data_given : given_by (upper_of records) (record_of 0 k (take 16 left)) ≡ given_from (code_base + k) (take 16 left)
  unfolding given_by record_of
  data_given =
      let place : upper_of records * 65536 + (256 * (k / 256) + k % 256) ≡ code_base + k = omega (arith, f.upper) in
      ap (λ (n : ℕ). given_from n (take 16 left)) place

  -- it has at most 16 bytes, and no more than are left
  data_length : length (take 16 left) ≡ min 16 (length code - k)
  data_length = length-take 16 left ∙ ap (λ (l : List ℕ). min 16 (length l)) here ∙ ap (min 16) (length-drop k code)

  -- they are the code's
  data_byte : (j : ℕ) → j < 16 → get_or (take 16 left) j 0 ≡ get_or code (k + j) 0
  data_byte j h = get_or-take 16 left j 0 h ∙ ap (λ (l : List ℕ). get_or l j 0) here ∙ get_or-drop k code j 0

  -- each byte that it gives is the code's, and lies behind those given before
  data_back : (a b : ℕ) → Memᴰ (a, b) (given_by (upper_of records) (record_of 0 k (take 16 left)))
      → (i : ℕ) × (k ≤ i) × (i < k + 16) × (i < length code) × (a ≡ code_base + i) × (b ≡ get_or code i 0)
  data_back a b m =
      let (j, inside, place, is) = given_back (code_base + k) (take 16 left) a b (rw data_given at m) in
      let few : j < 16 = omega (arith, data_length) in
      (k + j, omega arith, omega arith, omega (arith, data_length), omega arith, is ∙ data_byte j few)

  -- it gives each of the next 16 that the code has
  data_forth : (i : ℕ) → i < k + 16 → i < length code → k ≤ i
      → Memᴰ (code_base + i, get_or code i 0) (given_by (upper_of records) (record_of 0 k (take 16 left)))
  data_forth i near inside past =
      let there : k + (i - k) ≡ i = omega arith in
      let address : code_base + k + (i - k) ≡ code_base + i = omega arith in
      let m = given_forth (code_base + k) (take 16 left) (i - k) (omega (arith, data_length)) in
      rw data_given (rw (address, data_byte (i - k) (omega arith), there) at m)

  -- it may follow
  pub data_sound : (size : ℕ) → length code ≤ size → length code ≤ 65536 → Small code → Sound size records (record_of 0 k (take 16 left))
  unfolding record_of
  data_sound size fits block bytes =
      let small : Small left = rw here (small_drop k code bytes) in
      record {
        small = record_small 0 k (take 16 left) (omega arith) (omega arith) (omega (arith, data_length)) (small_take 16 left small);
        sums = record_sums 0 k (take 16 left);
        proper = of_data refl;
        inside =
            λ a b m.
            let (i, past, near, inside, place, is) = data_back a b m in
            record { from = omega arith; inside = omega arith; below = omega arith };
        new =
            λ a b c m old.
            let (i, past, near, inside, place, is) = data_back a b m in
            let (j, before, inner, there, was) = f.back a c old in
            omega arith;
        unended = f.unended;
      }

  -- with it the bytes up to 16 further are given
  pub data_filled : Filled code (k + 16) (record_of 0 k (take 16 left) ∷ records)
  unfolding given upper_of upper_after record_of
  data_filled =
      let r : Record = record_of 0 k (take 16 left) in
      record {
        upper = f.upper;
        unended = still_open r records (λ e. omega arith) f.unended;
        back =
            λ a b m.
            ⊎_elim (λ new. let (i, past, near, inside, place, is) = data_back a b new in (i, near, inside, place, is))
            (λ old. let (i, before, inside, place, is) = f.back a b old in (i, omega arith, inside, place, is))
            (Memᴰ.append_cases (given_by (upper_of records) r) m);
        forth =
            λ i near inside.
            ⊎_elim (λ past. Memᴰ.append_left (given records) (data_forth i near inside past))
            (λ before. Memᴰ.append_right (given_by (upper_of records) r) (f.forth i before inside)) (within k i);
      }
