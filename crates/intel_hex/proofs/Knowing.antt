-- What is known after a line, from what was known before it. Assumes nothing.
use mathlib.Core.Path.{◌≡◌, refl, ap, sym, ◌∙◌}
use mathlib.Core.Bool.{Bool, true, false, cond, false≢true}
use mathlib.Core.Logic.{◌⊎◌, inl, inr, ⊎_elim}
use mathlib.Core.List.Memᴰ
use mathlib.Core.List.{List, [], ◌∷◌, ◌++◌, Memᴰ}
use Prim.Native.Nat.{ℕ, suc, ◌+◌, ◌-◌, ◌*◌, ◌<◌, ◌≤◌}
use native.Mathlib.Omega.{arith}
use lib.Dec.{leb}
use lib.ListN.{length, get_or}
use borrow.Author.Tests.{leb-true, leb-false}
use Rattle.std.specs.Prelude.{Option}
use Rattle.intel_hex.specs.Records.{Record}
use Rattle.intel_hex.specs.Files.{given_from, given_by, upper_after, upper_of, given, Ended, code_base}
use Rattle.intel_hex.specs.Reading.{Shows, Known, ending, rising, reaching}
use Rattle.intel_hex.specs.declared.judging.File.{File}
use Rattle.intel_hex.proofs.Giving.{given_back, given_forth, given_data, given_other, upper_kept, ended_more, still_open}

-- nothing was read yet
pub known_none : (size : ℕ) {image : List (Option ℕ)} → Shows [] image → Known size [] (record { ended = false; upper = 0; top = 0 }) image
unfolding Ended upper_of given
known_none size shows =
    record {
      ends = λ e. absurd (false≢true e);
      unended = λ e (r, m, kind). Memᴰ.not-nil m;
      upper = refl;
      half = omega arith;
      most = λ a b m. absurd (Memᴰ.not-nil m);
      highest = inl refl;
      fits = omega arith;
      block = omega arith;
      shows = shows;
    }

module _ {size : ℕ} {records : List Record} {file : File} {image : List (Option ℕ)} (known : Known size records file image) (r : Record) where
  -- a record that gives no byte: whether an end record came and the upper half are all that may change
  known_silent : (ended : Bool) (upper : ℕ) → given_by (upper_of records) r ≡ [] → (ended ≡ true → Ended (r ∷ records))
      → (ended ≡ false → Ended (r ∷ records) → ⊥) → upper ≡ upper_after (upper_of records) r → upper < 65536
      → Known size (r ∷ records) (record { ended = ended; upper = upper; top = file.top }) image
  unfolding upper_of given
  known_silent ended upper silent ends unended is small =
      let same : given_by (upper_of records) r ++ given records ≡ given records = ap (λ (l : List (ℕ × ℕ)). l ++ given records) silent in
      record {
        ends = ends;
        unended = unended;
        upper = is;
        half = small;
        most = rw same known.most;
        highest = rw same known.highest;
        fits = known.fits;
        block = known.block;
        shows = rw same known.shows;
      }

  -- one that is no end
  pub known_quiet : (upper : ℕ) → (r.kind ≡ 1 → ⊥) → given_by (upper_of records) r ≡ [] → upper ≡ upper_after (upper_of records) r → upper < 65536
      → Known size (r ∷ records) (rising file upper) image
  unfolding rising
  known_quiet upper other silent is small =
      known_silent file.ended upper silent (λ e. ended_more records r (known.ends e)) (λ e. still_open r records other (known.unended e)) is small

  -- a record of type 01
  pub known_end : r.kind ≡ 1 → Known size (r ∷ records) (ending file) image
  unfolding Ended ending
  known_end is =
      known_silent true file.upper (given_other (upper_of records) r (λ e. omega arith)) (λ e. (r, Memᴰ.head refl, is))
      (λ e. absurd (false≢true (sym e))) (known.upper ∙ sym (upper_kept (upper_of records) r (λ e. omega arith))) known.half

-- a record of type 00 whose bytes are laid
pub known_data : {size : ℕ} {records : List Record} {file : File} {image after : List (Option ℕ)} (r : Record) (from : ℕ) → Known size records file image
    → r.kind ≡ 0 → upper_of records * 65536 + (256 * r.high + r.low) ≡ code_base + from → 0 < length r.bytes
    → from + length r.bytes ≤ 65536 → from + length r.bytes ≤ size
    → Shows (given_from (code_base + from) r.bytes ++ given records) after
    → Known size (r ∷ records) (reaching file (from + length r.bytes)) after
unfolding upper_of given reaching
known_data {size} {records} {file} {image} {after} r from known is place some block fits shows =
    go (leb (from + length r.bytes) file.top) refl
  where
    new : List (ℕ × ℕ)
    new = given_from (code_base + from) r.bytes

    all : given_by (upper_of records) r ++ given records ≡ new ++ given records
    all =
        ap (λ (l : List (ℕ × ℕ)). l ++ given records)
        (given_data (upper_of records) r is ∙ ap (λ (a : ℕ). given_from a r.bytes) place)

    below : (a b : ℕ) → Memᴰ (a, b) new → a < code_base + (from + length r.bytes)
    below a b m =
        let (j, inside, here, value) = given_back (code_base + from) r.bytes a b m in
        omega arith

    most : (top : ℕ) → from + length r.bytes ≤ top → file.top ≤ top → (a b : ℕ) → Memᴰ (a, b) (new ++ given records) → a < code_base + top
    most top h g a b m =
        ⊎_elim (λ n. let low = below a b n in omega arith) (λ n. let low = known.most a b n in omega arith) (Memᴰ.append_cases new m)

    kept : (file.top ≡ 0) ⊎ ((a : ℕ) × (b : ℕ) × Memᴰ (a, b) (given records) × (suc a ≡ code_base + file.top)) → from + length r.bytes ≤ file.top
        → (file.top ≡ 0) ⊎ ((a : ℕ) × (b : ℕ) × Memᴰ (a, b) (new ++ given records) × (suc a ≡ code_base + file.top))
    kept (inl e) h = absurd (omega arith)
    kept (inr (a, b, m, e)) h = inr (a, b, Memᴰ.append_right new m, e)

    last : (a : ℕ) × (b : ℕ) × Memᴰ (a, b) (new ++ given records) × (suc a ≡ code_base + (from + length r.bytes))
    last =
        let j : ℕ = length r.bytes - 1 in
        (code_base + from + j, get_or r.bytes j 0, Memᴰ.append_left (given records) (given_forth (code_base + from) r.bytes j (omega arith)), omega arith)

    with_top : (top : ℕ) → (top ≡ 0) ⊎ ((a : ℕ) × (b : ℕ) × Memᴰ (a, b) (new ++ given records) × (suc a ≡ code_base + top))
        → from + length r.bytes ≤ top → file.top ≤ top → top ≤ size → top ≤ 65536
        → Known size (r ∷ records) (record { ended = file.ended; upper = file.upper; top = top }) after
    with_top top highest h g s t =
        record {
          ends = λ e. ended_more records r (known.ends e);
          unended = λ e. still_open r records (λ k. omega arith) (known.unended e);
          upper = known.upper ∙ sym (upper_kept (upper_of records) r (λ k. omega arith));
          half = known.half;
          most = rw all (most top h g);
          highest = rw all highest;
          fits = s;
          block = t;
          shows = rw all shows;
        }

    go : (t : Bool) → leb (from + length r.bytes) file.top ≡ t
        → Known size (r ∷ records) (cond t file (record { ended = file.ended; upper = file.upper; top = from + length r.bytes })) after
    go true e =
        let h = leb-true (from + length r.bytes) file.top e in
        with_top file.top (kept known.highest h) h (omega arith) known.fits known.block
    go false e =
        let h = leb-false (from + length r.bytes) file.top e in
        with_top (from + length r.bytes) (inr last) (omega arith) (omega arith) fits block
