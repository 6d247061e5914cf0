-- A finding and a tally are determined, and no field differs exactly where all agree. Assumes nothing.
use Rattle.std.proofs.Common.{◌≡◌, ℕ, Bool, true, false, cond, List, [], ◌∷◌, sym, refl, ap, ◌∙◌, true≢false, arith}
use Rattle.sangolid.proofs.Outcomes.{checks_unique, unhexes_unique}
use Rattle.vector_run.specs.declared.judging.Kind.{Kind}
use Rattle.vector_run.specs.declared.tally.Tally.{Tally}
use Rattle.vector_run.specs.Findings.{Finding, Same, DiffersIn, Told, agrees, Agree, field_for, first_other, CheckFinds, checked, HexFinds, unhexed, KindFinds, SizedFinds, no_code, no_area, sized, Finds, of_run, of_check, of_hex, of_none}
use Rattle.vector_run.specs.Counts.{counted}
use Rattle.vector_run.specs.Lines.{TakesLine, too_long, the_header, a_case, Takes, no_more, a_byte, a_line}

-- a test does not both hold and fail
clash : {b : Bool} → b ≡ true → b ≡ false → ⊥
clash holds fails = true≢false (sym holds ∙ fails)

-- any two findings of a check coincide
check_unique : {line code marks : List ℕ} {a b : Finding} → CheckFinds line code marks a → CheckFinds line code marks b → a ≡ b
check_unique (checked p) (checked q) =
    let (number, marks, answer) = checks_unique p q in
    cc

-- any two findings of a hex file coincide
hex_unique : {line text code : List ℕ} {a b : Finding} → HexFinds line text code a → HexFinds line text code b → a ≡ b
hex_unique (unhexed p) (unhexed q) =
    let (number, code, answer) = unhexes_unique p q in
    cc

-- any two findings of a kind over some areas coincide
kind_unique : (kind : Kind) (line code d : List ℕ) {a b : Finding} → KindFinds kind line code d a → KindFinds kind line code d b → a ≡ b
unfolding KindFinds
kind_unique Kind.Run line code d p q = p ∙ sym q
kind_unique Kind.Check line code d p q = check_unique p q
kind_unique Kind.Hex line code d p q = hex_unique p q

-- so do two over the areas of its line
sized_unique : {kind : Kind} {line : List ℕ} {a b : Finding} → SizedFinds kind line a → SizedFinds kind line b → a ≡ b
sized_unique (no_code p) (no_code q) = refl
sized_unique (no_code p) (no_area q) = refl
sized_unique (no_code p) (sized q s l) = absurd (clash q p)
sized_unique (no_area p) (no_code q) = refl
sized_unique (no_area p) (no_area q) = refl
sized_unique (no_area p) (sized q s l) = absurd (clash s p)
sized_unique (sized p r k) (no_code q) = absurd (clash p q)
sized_unique (sized p r k) (no_area q) = absurd (clash r q)
sized_unique (sized p r k) (sized q s l) = kind_unique _ _ _ _ k l

-- any two findings of a line coincide
pub finds_unique : {line : List ℕ} {a b : Finding} → Finds line a → Finds line b → a ≡ b
finds_unique (of_run p k) (of_run q l) = sized_unique k l
finds_unique (of_run p k) (of_check q s l) = absurd (clash p q)
finds_unique (of_run p k) (of_hex q s t l) = absurd (clash p q)
finds_unique (of_run p k) (of_none q s t) = absurd (clash p q)
finds_unique (of_check p r k) (of_run q l) = absurd (clash q p)
finds_unique (of_check p r k) (of_check q s l) = sized_unique k l
finds_unique (of_check p r k) (of_hex q s t l) = absurd (clash r s)
finds_unique (of_check p r k) (of_none q s t) = absurd (clash r s)
finds_unique (of_hex p r h k) (of_run q l) = absurd (clash q p)
finds_unique (of_hex p r h k) (of_check q s l) = absurd (clash s r)
finds_unique (of_hex p r h k) (of_hex q s t l) = sized_unique k l
finds_unique (of_hex p r h k) (of_none q s t) = absurd (clash h t)
finds_unique (of_none p r h) (of_run q l) = absurd (clash q p)
finds_unique (of_none p r h) (of_check q s l) = absurd (clash s r)
finds_unique (of_none p r h) (of_hex q s t l) = absurd (clash t h)
finds_unique (of_none p r h) (of_none q s t) = refl

-- any two tallies after a line coincide
pub line_unique : {line : List ℕ} {t a b : Tally} → TakesLine line t a → TakesLine line t b → a ≡ b
line_unique (too_long h) (too_long g) = refl
line_unique (too_long h) (the_header g p) = absurd (omega arith)
line_unique (too_long h) (a_case g p k) = absurd (omega arith)
line_unique (the_header h p) (too_long g) = absurd (omega arith)
line_unique (the_header h p) (the_header g q) = refl
line_unique (the_header h p) (a_case g q k) = absurd (clash p q)
line_unique (a_case h p k) (too_long g) = absurd (omega arith)
line_unique (a_case h p k) (the_header g q) = absurd (clash q p)
line_unique {t} (a_case h p k) (a_case g q l) = ap (counted t) (finds_unique k l)

-- any two outcomes of bytes that are taken coincide
pub takes_unique : {held bytes one other : List ℕ} {t a b : Tally} → Takes held t bytes one a → Takes held t bytes other b → (one ≡ other) × (a ≡ b)
takes_unique no_more no_more = (refl, refl)
takes_unique (a_byte p k) (a_byte q l) = takes_unique k l
takes_unique (a_byte p k) (a_line e l) = absurd (p refl)
takes_unique (a_line d k) (a_byte q l) = absurd (q refl)
takes_unique (a_line d k) (a_line e l) = takes_unique k (rw (← line_unique d e) at l)

-- the same, if all agree
pub same_if_all : (line : List ℕ) (values : List Told) → Agree line values → first_other line values ≡ Same
unfolding first_other
same_if_all line [] all = refl
same_if_all line (told ∷ later) (here, all) = rw here (same_if_all line later all)

-- a value that does not agree is named
one_if_same : (t : Bool) (found : Finding) (k : ℕ) → cond t found (DiffersIn k) ≡ Same → (t ≡ true) × (found ≡ Same)
one_if_same true found k same = (refl, same)
one_if_same false found k same = absurd (let z : ◌≡◌ {A = ℕ} 0 1 = cc in omega arith)

-- all agree, if the same
pub all_if_same : (line : List ℕ) (values : List Told) → first_other line values ≡ Same → Agree line values
unfolding first_other
all_if_same line [] same = tt
all_if_same line (told ∷ later) same =
    let (here, rest) = one_if_same (agrees line told) (first_other line later) (field_for told) same in
    (here, all_if_same line later rest)
