-- The fields of a line are its parts between tabs, and its form is that of each of them. Assumes nothing.
use Rattle.std.proofs.Common.{◌≡◌, refl, ap, ℕ, zero, suc, ◌+◌, ◌-◌, ◌<◌, ◌≤◌, Bool, true, false, eqb, ◌&&◌, List, [], ◌∷◌, length, get_or, drop, length-drop, add-one, arith, drop-cons, Bor, Option, Some, None, unwrap_or, option_map}
use Rattle.std.specs.Prelude.{if◌then◌else◌, ◌==◌, MatchOption, is_some, not, ◌⊎◌, slice_range}
use Rattle.std.specs.List.{slice_split, onto_first}
use Rattle.std.proofs.lemmas.List.{take_all}
use Rattle.std.proofs.lemmas.List.Splits.{length-slice_split}
use Rattle.vector_text.specs.Fields.{tab, before, fields, field_of, sort_of, is_of, formed}

-- a byte before the first of some parts
before_first_part : (b : ℕ) (parts : List (List ℕ)) (n : ℕ) → length parts ≡ n + 1 → before (b ∷ []) parts ≡ onto_first b parts
unfolding before
before_first_part b [] n h = absurd (omega arith)
before_first_part b (part ∷ parts) n h = refl

-- the fields of a line are the parts that tabs leave
pub fields_split : (line : List ℕ) → fields line ≡ slice_split (λ b. eqb b tab) line
unfolding fields
fields_split [] = refl
fields_split (b ∷ line) =
    let step = before_first_part b (slice_split (λ b. eqb b tab) line) _ (length-slice_split (λ b. eqb b tab) line) in
    rw (fields_split line, step)

-- a part that may be there, or another in its place
pub part_now : (part : Option (Bor (List ℕ))) (other : Bor (List ℕ)) → (unwrap_or part other).now ≡ unwrap_or (option_map (λ x. x.now) part) other.now
part_now None other = refl
part_now (Some x) other = refl

-- the fields of what is left of a line, none if nothing is
abbrev pub fields_left : Option (Bor (List ℕ)) → List (List ℕ)
fields_left None = []
fields_left (Some line) = fields line.now

-- the fields of a line from a place on, none past its end
abbrev pub behind : ℕ → List ℕ → List (List ℕ)
behind zero line = fields line
behind (suc n) [] = []
behind (suc n) (b ∷ line) = behind n line

-- a line's first field, and those behind its tab
first_field : (line : List ℕ) → fields line ≡ field_of line 1 ∷ behind (suc (length (field_of line 1))) line
unfolding before fields field_of
first_field [] = refl
first_field (b ∷ line) = go (b == tab) (fields line) refl (first_field line)
  where
    go : (ends : Bool) (later : List (List ℕ)) → later ≡ fields line → later ≡ get_or later 0 [] ∷ behind (suc (length (get_or later 0 []))) line
        → (let all : List (List ℕ) = if ends then [] ∷ later else before (b ∷ []) later in
        all ≡ get_or all 0 [] ∷ behind (suc (length (get_or all 0 []))) (b ∷ line))
    go true later e first = ap (λ (l : List (List ℕ)). [] ∷ l) e
    go false [] e first = absurd cc
    go false (field ∷ later) e first = cc

-- past its end there are none
behind_none : (n : ℕ) (line : List ℕ) → length line < n → behind n line ≡ []
behind_none zero line h = absurd (omega arith)
behind_none (suc n) [] h = refl
behind_none (suc n) (b ∷ line) h = behind_none n line (omega arith)

-- within it, those of the rest of the line
behind_some : (n : ℕ) (line : List ℕ) → n ≤ length line → behind n line ≡ fields (drop n line)
behind_some zero line h = refl
behind_some (suc n) [] h = absurd (omega arith)
behind_some (suc n) (b ∷ line) h = behind_some n line (omega arith)

-- what a slice's `get` gives of a line from a place on
pub left_behind : (line : List ℕ) (n : ℕ) (left : Option (Bor (List ℕ)))
    → MatchOption left ((length line < n) ⊎ (length line < length line)) (λ x. (n ≤ length line) × (length line ≤ length line) × (x.now ≡ slice_range line n (length line)) × (length x.now + n ≡ length line))
    → fields_left left ≡ behind n line
left_behind line n None past = let h : length line < n = omega arith in rw (behind_none n line h)
left_behind line n (Some x) part = rw (part.2, take_all (length line - n) (drop n line) (omega (arith, length-drop n line)), behind_some n line part.0)

-- a line has the form of letters if its first field fits the first of them, and those behind it have the form of the others
pub formed_more : (line letters : List ℕ) (i : ℕ) (text : List ℕ) (fits : Bool) → i < length letters → text ≡ field_of line 1 → fits ≡ is_of (sort_of (get_or letters i 0)) text
    → formed (fields line) (drop i letters) ≡ fits && formed (behind (length text + 1) line) (drop (i + 1) letters)
unfolding formed
formed_more line letters i text fits h e is = rw (is, e, first_field line, drop-cons letters i 0 h, add-one i, add-one (length (field_of line 1)))

-- where nothing is left of a line, a letter left has no field
pub no_field : (letters : List ℕ) (i : ℕ) → i < length letters → false ≡ formed (fields_left None) (drop i letters)
unfolding formed
no_field letters i h = rw (drop-cons letters i 0 h)

-- where no letter is left, nothing may be left of the line
pub no_letter : (left : Option (Bor (List ℕ))) (none : Bool) → is_some left ≡ not none → none ≡ formed (fields_left left) []
unfolding formed
no_letter None true e = refl
no_letter None false e = absurd cc
no_letter (Some line) true e = absurd cc
no_letter (Some line) false e = rw (first_field line.now)
