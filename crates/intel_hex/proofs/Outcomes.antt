-- Any two permitted outcomes of a file coincide; accepted code lies in the area, and a refusal leaves the area as it was. Assumes nothing.
use mathlib.Core.Path.{◌≡◌, refl, ap, sym, ◌∙◌}
use mathlib.Core.Logic.{⊎_elim}
use mathlib.Core.List.Memᴰ
use mathlib.Core.List.{List, [], ◌∷◌, ◌++◌, head-eq_of_cons-eq, tail-eq_of_cons-eq, Memᴰ}
use Prim.Native.Nat.{ℕ, suc, ◌+◌, ◌-◌, ◌<◌, ◌≤◌}
use native.Mathlib.Omega.{arith}
use lib.ListN.{length, get_or}
use lib.Seq.{ext_get_or}
use Rattle.text.proofs.Writing.{within}
use Rattle.intel_hex.specs.Lines.{lines_of}
use Rattle.intel_hex.specs.Records.{Record}
use Rattle.intel_hex.specs.Files.{given_by, upper_of, given, Ended, code_base, Within, Fault, malformed, wrong_sum, other_type, outside, given_before, after_end, fault_number, Has, order, First, here, next, Stand, none, Holds, Outcome, refused, no_end, no_data, read, refusal_number}
use Rattle.intel_hex.specs.declared.fault.Fault.{Fault as Refusal}
use Rattle.intel_hex.proofs.Forms.{reads_unique}
use Rattle.intel_hex.proofs.Giving.{given_or_not}

-- the first fault is one
first_unique : {has : Fault → Type 0} {list : List Fault} {f g : Fault} → First has list f → First has list g → f ≡ g
first_unique (here p) (here q) = refl
first_unique (here p) (next q later) = absurd (q p)
first_unique (next p later) (here q) = absurd (p q)
first_unique (next p first) (next q second) = first_unique first second

-- where there is no fault, there is no first one
faultless : {has : Fault → Type 0} {list : List Fault} {f : Fault} → ((fault : Fault) → has fault → ⊥) → First has list f → ⊥
faultless fine (here {fault} p) = fine fault p
faultless fine (next p later) = faultless fine later

-- the records of some lines are the same
stand_unique : {size : ℕ} {records a b : List Record} {lines : List (List ℕ)} → Stand size records lines a → Stand size records lines b → a ≡ b
stand_unique none none = refl
stand_unique (next p fine later) (next q well more) = stand_unique later (rw (reads_unique q p) at more)

-- lines that all stand have none that is refused
none_refused : {size : ℕ} {records a b : List Record} {earlier lines : List (List ℕ)} {f : Fault} (line : List ℕ) (later : List (List ℕ))
    → Stand size records earlier a → First (Has size a line) order f → lines ≡ earlier ++ (line ∷ later) → Stand size records lines b → ⊥
none_refused line later none first e none = absurd (omega (arith, ap length e))
none_refused line later (next p fine more) first e none = absurd (omega (arith, ap length e))
none_refused line later none first e (next q well rest) = faultless well (rw (← head-eq_of_cons-eq e) at first)
none_refused line later (next p fine more) first e (next q well rest) =
    none_refused line later more first (tail-eq_of_cons-eq e) (rw (reads_unique (rw (head-eq_of_cons-eq e) at q) p) at rest)

-- the first line refused is one, with one fault
refused_once : {size : ℕ} {records a b : List Record} {earlier before : List (List ℕ)} {f g : Fault} (line other : List ℕ) (later after : List (List ℕ))
    → Stand size records earlier a → Stand size records before b → earlier ++ (line ∷ later) ≡ before ++ (other ∷ after)
    → First (Has size a line) order f → First (Has size b other) order g → (f ≡ g) × (length earlier ≡ length before)
refused_once line other later after none none e p q = (first_unique p (rw (← head-eq_of_cons-eq e) at q), refl)
refused_once line other later after none (next s well rest) e p q = absurd (faultless well (rw (head-eq_of_cons-eq e) at p))
refused_once line other later after (next r fine more) none e p q = absurd (faultless fine (rw (← head-eq_of_cons-eq e) at q))
refused_once line other later after (next r fine more) (next s well rest) e p q =
    let same = reads_unique (rw (← head-eq_of_cons-eq e) at s) r in
    let (fault, place) = refused_once line other later after more (rw same at rest) (tail-eq_of_cons-eq e) p q in
    (fault, ap suc place)

-- bytes given leave one code in an area
holds_unique : {bytes : List (ℕ × ℕ)} {area x y : List ℕ} {m n : ℕ} → Holds bytes area m x → Holds bytes area n y → (m ≡ n) × (x ≡ y)
holds_unique {bytes} {area} {x} {y} {m} {n} p q = (size, ext_get_or 0 x y (p.long ∙ sym q.long) (λ i h. at_each i))
  where
    size : m ≡ n
    size =
        let (a, b, first, last) = p.highest in
        let (c, d, second, end) = q.highest in
        omega (arith, last, end, q.most a b first, p.most c d second)

    in_code : (i : ℕ) → i < m → get_or x i 0 ≡ get_or y i 0
    in_code i h =
        let place : code_base + i - code_base ≡ i = omega arith in
        ⊎_elim (λ (b, given). rw place at (p.byte (code_base + i) b given ∙ sym (q.byte (code_base + i) b given)))
        (λ free. p.gap i h free ∙ sym (q.gap i (omega (arith, size)) free)) (given_or_not (code_base + i) bytes)

    at_each : (i : ℕ) → get_or x i 0 ≡ get_or y i 0
    at_each i = ⊎_elim (λ past. p.beyond i past ∙ sym (q.beyond i (omega (arith, size)))) (in_code i) (within m i)

module _ {text area : List ℕ} where
  -- with a line refused, no other outcome
  by_refused : {number value : ℕ} {y : List ℕ} (earlier : List (List ℕ)) (line : List ℕ) (later : List (List ℕ)) {records : List Record} {fault : Fault}
      → lines_of text ≡ earlier ++ (line ∷ later) → Stand (length area) [] earlier records → First (Has (length area) records line) order fault
      → Outcome text area number value y → (fault_number fault ≡ number) × (suc (length earlier) ≡ value) × (area ≡ y)
  by_refused earlier line later e stand first (refused before other after e' stand' first') =
      let (fault, place) = refused_once line other later after stand stand' (sym e ∙ e') first first' in
      (ap fault_number fault, ap suc place, refl)
  by_refused earlier line later e stand first (no_end stands ended) = absurd (none_refused line later stand first e stands)
  by_refused earlier line later e stand first (no_data stands ended blank) = absurd (none_refused line later stand first e stands)
  by_refused earlier line later e stand first (read stands ended holds) = absurd (none_refused line later stand first e stands)

  module _ {records : List Record} (s : Stand (length area) [] (lines_of text) records) where
    -- without an end record, 35 alone
    by_no_end : {number value : ℕ} {y : List ℕ} → (Ended records → ⊥) → Outcome text area number value y → (35 ≡ number) × (0 ≡ value) × (area ≡ y)
    by_no_end h (refused before line later e stand first) = absurd (none_refused line later stand first e s)
    by_no_end h (no_end stands ended) = (refl, refl, refl)
    by_no_end h (no_data stands ended blank) = absurd (h (rw (stand_unique stands s) at ended))
    by_no_end h (read stands ended holds) = absurd (h (rw (stand_unique stands s) at ended))

    -- without a byte, 37 alone
    by_no_data : {number value : ℕ} {y : List ℕ} → Ended records → given records ≡ [] → Outcome text area number value y → (37 ≡ number) × (0 ≡ value) × (area ≡ y)
    by_no_data h g (refused before line later e stand first) = absurd (none_refused line later stand first e s)
    by_no_data h g (no_end stands ended) = absurd (ended (rw (stand_unique s stands) at h))
    by_no_data h g (no_data stands ended blank) = (refl, refl, refl)
    by_no_data h g (read stands ended holds) =
        let (a, b, m, last) = holds.highest in
        absurd (Memᴰ.not-nil (rw (stand_unique stands s, g) at m))

    -- with an end record and bytes, the code that they make
    by_read : {number value size : ℕ} {x y : List ℕ} → Ended records → Holds (given records) area size x → Outcome text area number value y
        → (0 ≡ number) × (size ≡ value) × (x ≡ y)
    by_read h p (refused before line later e stand first) = absurd (none_refused line later stand first e s)
    by_read h p (no_end stands ended) = absurd (ended (rw (stand_unique s stands) at h))
    by_read h p (no_data stands ended blank) =
        let (a, b, m, last) = p.highest in
        absurd (Memᴰ.not-nil (rw (stand_unique s stands, blank) at m))
    by_read h p (read stands ended holds) =
        let (size, same) = holds_unique p (rw (stand_unique stands s) at holds) in
        (refl, size, same)

  -- any two permitted outcomes coincide
  pub outcome_unique : {m n v w : ℕ} {x y : List ℕ} → Outcome text area m v x → Outcome text area n w y → (m ≡ n) × (v ≡ w) × (x ≡ y)
  outcome_unique (refused earlier line later e stand first) o = by_refused earlier line later e stand first o
  outcome_unique (no_end stands ended) o = by_no_end stands ended o
  outcome_unique (no_data stands ended blank) o = by_no_data stands ended blank o
  outcome_unique (read stands ended holds) o = by_read stands ended holds o

-- an address that is not outside lies within
not_outside : (size a : ℕ) → ((Within size a → ⊥) → ⊥) → Within size a
not_outside size a h =
    record {
      from = ⊎_elim (λ k. k) (λ k. absurd (h (λ w. omega (arith, w.from)))) (within code_base a);
      inside = ⊎_elim (λ k. absurd (h (λ w. omega (arith, w.inside)))) (λ k. k) (within (code_base + size) a);
      below = ⊎_elim (λ k. k) (λ k. absurd (h (λ w. omega (arith, w.below)))) (within a 0x0001_FFFF);
    }

-- lines without a fault give bytes within the area alone
stand_within : {size : ℕ} {records after : List Record} {lines : List (List ℕ)} → Stand size records lines after
    → ((a b : ℕ) → Memᴰ (a, b) (given records) → Within size a) → (a b : ℕ) → Memᴰ (a, b) (given after) → Within size a
unfolding given Has
stand_within none h a b m = h a b m
stand_within {size} {records} (next {r} line fine later) h a b m =
    stand_within later
    (λ a b m.
    ⊎_elim (λ new. not_outside size a (λ out. fine outside (r, line, (a, b, new, out)))) (h a b)
    (Memᴰ.append_cases (given_by (upper_of records) r) m)) a b m

-- a fault's number is one of 30 to 36
pub fault_numbers : (fault : Fault) → (30 ≤ fault_number fault) × (fault_number fault ≤ 36)
unfolding fault_number
fault_numbers malformed = (omega arith, omega arith)
fault_numbers wrong_sum = (omega arith, omega arith)
fault_numbers other_type = (omega arith, omega arith)
fault_numbers outside = (omega arith, omega arith)
fault_numbers given_before = (omega arith, omega arith)
fault_numbers after_end = (omega arith, omega arith)

-- a refusal's number is one of 30 to 37
pub refusal_numbers : (fault : Refusal) → (30 ≤ refusal_number fault) × (refusal_number fault ≤ 37)
refusal_numbers Refusal.Malformed = (omega arith, omega arith)
refusal_numbers Refusal.WrongSum = (omega arith, omega arith)
refusal_numbers Refusal.OtherType = (omega arith, omega arith)
refusal_numbers Refusal.Outside = (omega arith, omega arith)
refusal_numbers Refusal.GivenBefore = (omega arith, omega arith)
refusal_numbers Refusal.NoEnd = (omega arith, omega arith)
refusal_numbers Refusal.AfterEnd = (omega arith, omega arith)
refusal_numbers Refusal.NoData = (omega arith, omega arith)

-- an outcome with the number 0 has some bytes of code, within the area and not above 0001FFFFh
sized : {text area : List ℕ} {number n : ℕ} {after : List ℕ} → Outcome text area number n after → number ≡ 0
    → (0 < n) × (n ≤ 65536) × (n ≤ length area)
unfolding given
sized (refused earlier line later {fault} e stand first) z = absurd (omega (arith, (fault_numbers fault).0))
sized (no_end stands ended) z = absurd (omega arith)
sized (no_data stands ended blank) z = absurd (omega arith)
sized (read stands ended holds) z =
    let (a, b, m, last) = holds.highest in
    let w = stand_within stands (λ a b m. absurd (Memᴰ.not-nil m)) a b m in
    (omega (arith, last, w.from), omega (arith, last, w.below), omega (arith, last, w.inside))

-- code of a file that is read
pub accepted_sized : {text area : List ℕ} {n : ℕ} {after : List ℕ} → Outcome text area 0 n after → (0 < n) × (n ≤ 65536) × (n ≤ length area)
accepted_sized o = sized o refl

-- a refusal leaves the area as it was
pub refused_untouched : {text area : List ℕ} {n v : ℕ} {after : List ℕ} → Outcome text area n v after → (n ≡ 0 → ⊥) → after ≡ area
refused_untouched (refused earlier line later e stand first) h = refl
refused_untouched (no_end stands ended) h = refl
refused_untouched (no_data stands ended blank) h = refl
refused_untouched (read stands ended holds) h = absurd (h refl)
