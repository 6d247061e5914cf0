-- The record of a line, by the places in it: a line is at most one. Assumes nothing.
use mathlib.Core.Path.{◌≡◌, refl, ap, sym, ◌∙◌, subst}
use mathlib.Core.Bool.{true}
use mathlib.Core.List.{List, [], ◌∷◌, ◌++◌}
use Prim.Native.Nat.{ℕ, suc, ◌+◌, ◌*◌, ◌<◌}
use native.Mathlib.Omega.{arith}
use lib.ListN.{length, get_or, take, drop, length-append}
use lib.Seq.{take_at, get_or_at}
use Rattle.intel_hex.specs.Records.{Spells, Record, in_order, Reads, reads, colon}
use Rattle.intel_hex.specs.Reading.{pairs_in, is_end, byte_at, bytes_at, record_in}
use Rattle.intel_hex.proofs.Spelling.{end_told, end_is, bytes_shift, bytes_length, bytes_more, spells_pairs, spells_end, spells_bytes, pairs_spell}

-- the same parts make the same record
same_record : {h h' l l' k k' s s' : ℕ} {b b' : List ℕ} → h ≡ h' → l ≡ l' → k ≡ k' → b ≡ b' → s ≡ s'
    → ◌≡◌ {A = Record} (record { high = h; low = l; kind = k; bytes = b; sum = s }) (record { high = h'; low = l'; kind = k'; bytes = b'; sum = s' })
same_record eh el ek eb es = rw (eh, el, ek, eb, es)

-- a record's bytes are five more than its data
in_order_length : (r : Record) → length (in_order r) ≡ length r.bytes + 5
unfolding in_order
in_order_length r = simp length-append (omega arith)

-- the bytes at the places of a record are its own
pub in_order_lem : (line : List ℕ) (count : ℕ) → count ≡ byte_at line 1 → in_order (record_in line count) ≡ bytes_at line 1 (count + 5)
unfolding in_order record_in
in_order_lem line count e =
    let many : count + 5 ≡ suc (suc (suc (suc (suc count)))) = omega arith in
    rw (bytes_length line 9 count, many)
    (unfold bytes_at in
    ap (λ (n : ℕ). n ∷ byte_at line 3 ∷ byte_at line 5 ∷ byte_at line 7 ∷ (bytes_at line 9 count ++ (byte_at line (9 + 2 * count) ∷ []))) e
    ∙ ap (λ (l : List ℕ). byte_at line 1 ∷ byte_at line 3 ∷ byte_at line 5 ∷ byte_at line 7 ∷ l) (sym (bytes_more line 9 count)))

-- what a line that is a record shows
pub record Shown (line : List ℕ) (r : Record) : Type 0 where
  pub some : 0 < length line
  pub first : get_or line 0 0 ≡ colon
  pub pairs : pairs_in (drop 1 line) ≡ length r.bytes + 5
  pub count : length r.bytes ≡ byte_at line 1
  pub ends : is_end (drop (1 + 2 * (length r.bytes + 5)) line) ≡ true
  pub is : r ≡ record_in line (byte_at line 1)

-- a record from its bytes
from_bytes : (text : List ℕ) (r : Record) → in_order r ≡ bytes_at text 0 (length r.bytes + 5)
    → (length r.bytes ≡ byte_at (colon ∷ text) 1) × (r ≡ record_in (colon ∷ text) (length r.bytes))
unfolding in_order record_in bytes_at
from_bytes text r e =
    let line : List ℕ = colon ∷ text in
    let n : ℕ = length r.bytes in
    let many : n + 5 ≡ suc (suc (suc (suc (suc n)))) = omega arith in
    let whole : n ∷ r.high ∷ r.low ∷ r.kind ∷ (r.bytes ++ (r.sum ∷ [])) ≡ bytes_at line 1 (suc (suc (suc (suc (suc n))))) =
    e ∙ ap (bytes_at text 0) many ∙ sym (bytes_shift colon text 0 (suc (suc (suc (suc (suc n)))))) in
    let last : ℕ = byte_at line (9 + 2 * n) in
    let rest : r.bytes ++ (r.sum ∷ []) ≡ bytes_at line 9 n ++ (last ∷ []) = ap (drop 4) whole ∙ bytes_more line 9 n in
    let own : r.bytes ≡ bytes_at line 9 n =
    sym (take_at r.bytes (r.sum ∷ []) n refl) ∙ ap (take n) rest ∙ take_at (bytes_at line 9 n) (last ∷ []) n (bytes_length line 9 n) in
    let sum : r.sum ≡ last =
    sym (get_or_at r.bytes r.sum [] 0 n refl) ∙ ap (λ (l : List ℕ). get_or l n 0) rest ∙ get_or_at (bytes_at line 9 n) last [] 0 n (bytes_length line 9 n) in (
      ap (λ (l : List ℕ). get_or l 0 0) whole,
      same_record (ap (λ (l : List ℕ). get_or l 1 0) whole) (ap (λ (l : List ℕ). get_or l 2 0) whole) (ap (λ (l : List ℕ). get_or l 3 0) whole) own sum,
    )

-- a line that is a record shows it
pub reads_shown : {line : List ℕ} {r : Record} → Reads line r → Shown line r
reads_shown (reads {text} {r} spells) =
    let long : length (in_order r) ≡ length r.bytes + 5 = in_order_length r in
    let (count, is) = from_bytes text r (spells_bytes spells ∙ ap (bytes_at text 0) long) in
    record {
      some = omega arith;
      first = refl;
      pairs = spells_pairs spells ∙ long;
      count = count;
      ends = ends long;
      is = is ∙ ap (record_in (colon ∷ text)) count;
    }
  where
    ends : length (in_order r) ≡ length r.bytes + 5 → is_end (drop (1 + 2 * (length r.bytes + 5)) (colon ∷ text)) ≡ true
    ends long =
        let place : 1 + 2 * (length r.bytes + 5) ≡ suc (2 * length (in_order r)) = omega arith in
        rw place (end_told (spells_end spells))

-- a line is at most one record
pub reads_unique : {line : List ℕ} {r s : Record} → Reads line r → Reads line s → r ≡ s
reads_unique p q = (reads_shown p).is ∙ sym (reads_shown q).is

-- a line that shows a record is it
pub shows_reads : (line : List ℕ) (n count : ℕ) → 0 < length line → get_or line 0 0 ≡ colon → n ≡ pairs_in (drop 1 line) → count ≡ byte_at line 1
    → n ≡ count + 5 → is_end (drop (1 + 2 * n) line) ≡ true → Reads line (record_in line count)
shows_reads [] n count some first pairs is five ends = absurd (omega arith)
shows_reads (c ∷ text) n count some first pairs is five ends =
    let place : 1 + 2 * n ≡ suc (2 * n) = omega arith in
    let spells : Spells text (bytes_at text 0 n) = pairs_spell text n (omega arith) (end_is (drop (2 * n) text) (rw place at ends)) in
    let order : in_order (record_in (c ∷ text) count) ≡ bytes_at text 0 n =
    in_order_lem (c ∷ text) count is ∙ ap (bytes_at (c ∷ text) 1) (sym five) ∙ bytes_shift c text 0 n in
    subst (λ (x : ℕ). Reads (x ∷ text) (record_in (c ∷ text) count)) (sym first) (reads (subst (Spells text) (sym order) spells))

-- it ends behind its pairs of digits
pub reads_end : {line : List ℕ} {r : Record} (n : ℕ) → Reads line r → n ≡ pairs_in (drop 1 line) → is_end (drop (1 + 2 * n) line) ≡ true
reads_end {line} n is pairs =
    let s = reads_shown is in
    rw (pairs ∙ s.pairs) s.ends
