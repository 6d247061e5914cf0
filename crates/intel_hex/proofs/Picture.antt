-- The image of the code while a file is read, and the code area that it is copied to. Assumes nothing.
use mathlib.Core.Path.{◌≡◌, refl, ap, sym, ◌∙◌}
use mathlib.Core.Logic.{◌⊎◌, inl, inr, ⊎_elim}
use mathlib.Core.List.Memᴰ
use mathlib.Core.List.{List, [], ◌∷◌, ◌++◌, Memᴰ}
use mathlib.Core.Bool.{false, false≢true}
use Prim.Native.Nat.{ℕ, zero, suc, ◌+◌, ◌-◌, ◌*◌, ◌<◌}
use native.Mathlib.Decide.{ℕ_discrete}
use native.Mathlib.Numerals.{add-one}
use native.Mathlib.Omega.{arith}
use lib.ListN.{length, get_or, set, replicate, length-set, length-replicate}
use lib.Seq.{get_or-set_same, get_or-set_other}
use Rattle.std.specs.Prelude.{Option, None, Some, is_some, Ok, Err}
use Rattle.intel_hex.specs.Files.{given_from, code_base, Clash}
use Rattle.intel_hex.specs.Reading.{byte_at, bytes_at, Shows, Lays, laid, clash}
use Rattle.intel_hex.specs.declared.fault.Fault.{Fault as Refusal}
use Rattle.intel_hex.proofs.Giving.{given_or_not, given_back, given_forth}
use Rattle.intel_hex.proofs.Spelling.{bytes_more, bytes_length}

-- a cell of a blank image, or beyond
blank_cell : (n i : ℕ) → get_or (replicate {A = Option ℕ} n None) i None ≡ None
blank_cell zero i = refl
blank_cell (suc n) zero = refl
blank_cell (suc n) (suc i) = blank_cell n i

-- a blank image shows no byte
pub blank_shows : (image : List (Option ℕ)) → image ≡ replicate 65536 None → Shows [] image
blank_shows image e =
    record {
      long = rw e (length-replicate {A = Option ℕ} 65536 None);
      from = λ a b m. absurd (Memᴰ.not-nil m);
      cell = λ a b m. absurd (Memᴰ.not-nil m);
      blank = λ i none. rw e (blank_cell 65536 i);
    }

-- a cell is not both empty and full
none_some : {b : ℕ} → None ≡ Some b → ⊥
none_some e = false≢true (ap is_some e)

-- a cell that is not full is empty
pub none_is : (cell : Option ℕ) → is_some cell ≡ false → cell ≡ None
none_is None h = refl
none_is (Some b) h = absurd (false≢true (sym h))

-- so many data bytes of a line are laid beside others
pub record Laying (line : List ℕ) (from : ℕ) (bytes : List (ℕ × ℕ)) (k : ℕ) (image : List (Option ℕ)) : Type 0 where
  pub fresh : Clash (given_from (code_base + from) (bytes_at line 9 k)) bytes → ⊥
  pub shows : Shows (given_from (code_base + from) (bytes_at line 9 k) ++ bytes) image

-- no data byte is laid yet
pub laying_none : (line : List ℕ) (from : ℕ) {bytes : List (ℕ × ℕ)} {image : List (Option ℕ)} → Shows bytes image → Laying line from bytes 0 image
unfolding Clash bytes_at given_from
laying_none line from shows = record { fresh = λ (a, b, c, m, old). absurd (Memᴰ.not-nil m); shows = shows }

-- a byte more, given last
given_more : (start : ℕ) (bytes : List ℕ) (b : ℕ) → given_from start (bytes ++ (b ∷ [])) ≡ given_from start bytes ++ ((start + length bytes, b) ∷ [])
unfolding given_from
given_more start [] b =
    let here : start ≡ start + 0 = omega arith in
    ap (λ (a : ℕ). (a, b) ∷ []) here
given_more start (x ∷ bytes) b =
    let there : suc start + length bytes ≡ start + suc (length bytes) = omega arith in
    ap (λ (l : List (ℕ × ℕ)). (start, x) ∷ l)
    (given_more (suc start) bytes b ∙ ap (λ (a : ℕ). given_from (suc start) bytes ++ ((a, b) ∷ [])) there)

-- an image with one byte more: the same bytes are given, and that one
module _ {old all : List (ℕ × ℕ)} {image : List (Option ℕ)} (shows : Shows old image) (i b : ℕ) (inside : i < 65536)
    (free : (c : ℕ) → Memᴰ (code_base + i, c) old → ⊥)
    (split : (a c : ℕ) → Memᴰ (a, c) all → ((a ≡ code_base + i) × (c ≡ b)) ⊎ Memᴰ (a, c) old)
    (last : Memᴰ (code_base + i, b) all) (kept : (a c : ℕ) → Memᴰ (a, c) old → Memᴰ (a, c) all) where
  -- a byte that was given before stands elsewhere
  elsewhere : (a c : ℕ) → Memᴰ (a, c) old → (a - code_base ≡ i → ⊥)
  elsewhere a c m e =
      let from = shows.from a c m in
      let here : a ≡ code_base + i = omega arith in
      free c (rw here at m)

  shows_more : Shows all (set image i (Some b))
  shows_more =
      let long = shows.long in
      record {
        long = length-set image i (Some b) ∙ long;
        from = λ a c m. ⊎_elim (λ (e, f). omega arith) (λ o. shows.from a c o) (split a c m);
        cell = λ a c m. ⊎_elim (λ (e, f). new a c e f) (λ o. get_or-set_other image i (a - code_base) (Some b) None (elsewhere a c o) ∙ shows.cell a c o) (split a c m);
        blank = λ j none. blank j none (ℕ_discrete j i);
      }
    where
      new : (a c : ℕ) → a ≡ code_base + i → c ≡ b → get_or (set image i (Some b)) (a - code_base) None ≡ Some c
      new a c e f =
          let here : a - code_base ≡ i = omega arith in
          let long = shows.long in
          rw (here, f) (get_or-set_same image i (Some b) None (omega arith))

      blank : (j : ℕ) → ((c : ℕ) → Memᴰ (code_base + j, c) all → ⊥) → Dec (j ≡ i) → get_or (set image i (Some b)) j None ≡ None
      blank j none (yes e) = absurd (none b (rw e last))
      blank j none (no other) = get_or-set_other image i j (Some b) None other ∙ shows.blank j (λ c m. none c (kept (code_base + j) c m))

module _ {line : List ℕ} {from k : ℕ} {bytes : List (ℕ × ℕ)} {image : List (Option ℕ)} (so : Laying line from bytes k image) where
  -- the data bytes laid so far
  abbrev laid_yet : List (ℕ × ℕ)
  laid_yet = given_from (code_base + from) (bytes_at line 9 k)

  -- they lie before the next one
  yet_before : (a b : ℕ) → Memᴰ (a, b) laid_yet → a < code_base + (from + k)
  yet_before a b m =
      let (j, inside, place, is) = given_back (code_base + from) (bytes_at line 9 k) a b m in
      omega (arith, bytes_length line 9 k)

  -- a cell that is not given
  cell_free : get_or image (from + k) None ≡ None → (c : ℕ) → Memᴰ (code_base + (from + k), c) (laid_yet ++ bytes) → ⊥
  cell_free free c m =
      let place : code_base + (from + k) - code_base ≡ from + k = omega arith in
      none_some (sym free ∙ rw place at (so.shows.cell (code_base + (from + k)) c m))

  -- one with the byte of an address given before
  cell_given : (get_or image (from + k) None ≡ None → ⊥) → (c : ℕ) × Memᴰ (code_base + (from + k), c) bytes
  cell_given taken =
      ⊎_elim (λ (c, m). ⊎_elim (λ n. let h = yet_before (code_base + (from + k)) c n in absurd (omega arith)) (λ n. (c, n)) (Memᴰ.append_cases laid_yet m))
      (λ none. absurd (taken (so.shows.blank (from + k) none)))
      (given_or_not (code_base + (from + k)) (laid_yet ++ bytes))

  -- the data bytes with the next one
  next_last : given_from (code_base + from) (bytes_at line 9 (suc k)) ≡ laid_yet ++ ((code_base + (from + k), byte_at line (9 + 2 * k)) ∷ [])
  next_last =
      let place : code_base + from + length (bytes_at line 9 k) ≡ code_base + (from + k) = omega (arith, bytes_length line 9 k) in
      ap (given_from (code_base + from)) (bytes_more line 9 k) ∙ given_more (code_base + from) (bytes_at line 9 k) (byte_at line (9 + 2 * k))
      ∙ ap (λ (a : ℕ). laid_yet ++ ((a, byte_at line (9 + 2 * k)) ∷ [])) place

  -- a byte more is laid
  pub laying_more : from + k < 65536 → get_or image (from + k) None ≡ None → Laying line from bytes (k + 1) (set image (from + k) (Some (byte_at line (9 + 2 * k))))
  unfolding Clash
  laying_more inside free =
      rw (add-one k)
      record {
        fresh = λ (a, b, c, m, old). fresh a b c m old;
        shows =
            shows_more so.shows (from + k) (byte_at line (9 + 2 * k)) inside (cell_free free) split
            (Memᴰ.append_left bytes last)
            (λ a c m. ⊎_elim (λ n. Memᴰ.append_left bytes (kept a c n)) (λ n. Memᴰ.append_right (given_from (code_base + from) (bytes_at line 9 (suc k))) n) (Memᴰ.append_cases laid_yet m));
      }
    where
      next : ℕ × ℕ
      next = (code_base + (from + k), byte_at line (9 + 2 * k))

      last : Memᴰ next (given_from (code_base + from) (bytes_at line 9 (suc k)))
      last = rw next_last (Memᴰ.append_right laid_yet (Memᴰ.head refl))

      kept : (a c : ℕ) → Memᴰ (a, c) laid_yet → Memᴰ (a, c) (given_from (code_base + from) (bytes_at line 9 (suc k)))
      kept a c m = rw next_last (Memᴰ.append_left (next ∷ []) m)

      -- the next one, or one laid before
      either : (a b : ℕ) → Memᴰ (a, b) (given_from (code_base + from) (bytes_at line 9 (suc k)))
          → ((a ≡ code_base + (from + k)) × (b ≡ byte_at line (9 + 2 * k))) ⊎ Memᴰ (a, b) laid_yet
      either a b m =
          ⊎_elim (λ n. inr n) (λ n. let e = Memᴰ.eq_of_singleton n in inl (ap (λ (p : ℕ × ℕ). p.0) e, ap (λ (p : ℕ × ℕ). p.1) e))
          (Memᴰ.append_cases laid_yet (rw next_last at m))

      fresh : (a b c : ℕ) → Memᴰ (a, b) (given_from (code_base + from) (bytes_at line 9 (suc k))) → Memᴰ (a, c) bytes → ⊥
      fresh a b c m old =
          ⊎_elim (λ (e, f). cell_free free c (Memᴰ.append_right laid_yet (rw e at old))) (λ n. so.fresh (a, b, c, n, old)) (either a b m)

      split : (a c : ℕ) → Memᴰ (a, c) (given_from (code_base + from) (bytes_at line 9 (suc k)) ++ bytes)
          → ((a ≡ code_base + (from + k)) × (c ≡ byte_at line (9 + 2 * k))) ⊎ Memᴰ (a, c) (laid_yet ++ bytes)
      split a c m =
          ⊎_elim (λ n. ⊎_elim (λ e. inl e) (λ o. inr (Memᴰ.append_left bytes o)) (either a c n)) (λ n. inr (Memᴰ.append_right laid_yet n))
          (Memᴰ.append_cases (given_from (code_base + from) (bytes_at line 9 (suc k))) m)

  -- an address was given before
  pub laying_clash : (count : ℕ) → k < count → (get_or image (from + k) None ≡ None → ⊥)
      → Lays (given_from (code_base + from) (bytes_at line 9 count)) bytes (Err Refusal.GivenBefore) image
  unfolding Clash
  laying_clash count more taken =
      let (c, old) = cell_given taken in
      let place : code_base + from + k ≡ code_base + (from + k) = omega arith in
      clash (code_base + (from + k), get_or (bytes_at line 9 count) k 0, c, rw place at (given_forth (code_base + from) (bytes_at line 9 count) k (omega (arith, bytes_length line 9 count))), old)

  -- all are laid
  pub laying_all : (count : ℕ) → k ≡ count → Lays (given_from (code_base + from) (bytes_at line 9 count)) bytes (Ok tt) image
  laying_all count e = rw (← e) (laid so.fresh so.shows)
