-- Cutting the code from its front, and marking each start: what is cut so far. Assumes nothing.
use mathlib.Core.Path.{◌≡◌, refl}
use mathlib.Core.List.{List, [], ◌∷◌, ◌++◌, append_assoc, append-nil}
use Prim.Native.Nat.{ℕ, ◌+◌, ◌<◌, ◌≤◌}
use native.Mathlib.Omega.{arith}
use lib.ListN.{length, take, drop, set, replicate, length-append, length-drop, take-append-drop}
use lib.Seq.{length-take-le, take-add, take_all}
use Rattle.grammar.specs.Grammar.{Instruction, Cut, done, next}
use Rattle.grammar.specs.Answers.{Found, Begins, Prefix, Answers, cut, unknown}
use Rattle.grammar.specs.Decoding.{decode_of}
use Rattle.grammar.specs.Relative.{relative_of}
use Rattle.grammar.specs.declared.instruction.Decoded.{Decoded}
use Rattle.std.specs.Prelude.{Result, Ok, Err, MatchResult}
use Rattle.grammar.specs.declared.instruction.Fault.{Fault}
use Rattle.grammar.proofs.Answered.{decode_answers, found_standing, found_inside}
use Rattle.blockcheck.specs.Blocks.{starts_from, Reached}
use Rattle.blockcheck.specs.Passes.{mark_of, refusal_at, Coded, Divided, whole, cut_at, unknown_at}
use Rattle.blockcheck.specs.declared.Refusal.{Refusal}
use Rattle.blockcheck.proofs.Marking.{starts_append}
use Rattle.blockcheck.proofs.Levels.{coded_none, coded_long, coded_more}

-- the code before a place is cut into so many instructions, and their starts are marked
pub record Dividing (code marks : List ℕ) (at count : ℕ) : Type 0 where
  pub pieces : List (List ℕ)
  pub before : Cut pieces (take at code)
  pub inside : at ≤ length code
  pub few : count ≤ at
  pub counted : length pieces ≡ count
  pub coded : Coded code (starts_from 0 pieces) marks

-- nothing is cut yet
pub begins : (code : List ℕ) → Dividing code (replicate (length code) 0) 0 0
unfolding starts_from
begins code =
    record { pieces = []; before = done; inside = omega arith; few = omega arith; counted = refl; coded = coded_none code }

-- one piece more
cut_more : {pieces : List (List ℕ)} {before bytes : List ℕ} → Cut pieces before → Instruction bytes → Cut (pieces ++ (bytes ∷ [])) (before ++ bytes)
cut_more done i = rw append-nil at (next i done)
cut_more (next j later) i = rw append_assoc (next j (cut_more later i))

-- an Ok, its fault being mapped, was one
pub was_ok : (P : Fault → Type 0) (d : Decoded) (f : Found) → MatchResult f (λ x. ◌≡◌ {A = Result Decoded Refusal} (Ok d) (Ok x)) P
    → ((fault : Fault) → P fault → ⊥) → f ≡ Ok d
was_ok P d (Ok x) e none = cc
was_ok P d (Err fault) p none = absurd (none fault p)

-- an Err was the fault that gives this refusal
pub was_fault : (P : Fault → Type 0) (r : Refusal) (f : Found) → MatchResult f (λ x. ◌≡◌ {A = Result Decoded Refusal} (Err r) (Ok x)) P
    → (at : ℕ) → ((fault : Fault) → P fault → r ≡ refusal_at at fault) → (fault : Fault) × (f ≡ Err fault) × (r ≡ refusal_at at fault)
was_fault P r (Ok x) e at gives = absurd (let z : ◌≡◌ {A = ℕ} 0 1 = cc in omega arith)
was_fault P r (Err fault) p at gives = (fault, refl, gives fault p)

-- the instruction found at the place is cut, and its start marked
pub goes : {code marks : List ℕ} {at count : ℕ} (d : Decoded) → Dividing code marks at count → decode_of code at ≡ Ok d
    → Dividing code (set marks at (mark_of (relative_of d))) (at + d.length) (count + 1)
unfolding starts_from
goes {code} {at} d so e =
    let stands = found_standing code at d e in
    let here = length-take-le at code so.inside in
    record {
      pieces = so.pieces ++ (take d.length (drop at code) ∷ []);
      before = rw take-add (cut_more so.before stands.own);
      inside = found_inside code at d e;
      few = omega (arith, so.few, stands.some);
      counted = simp length-append (omega (arith, so.counted));
      coded =
          let place : 0 + length (take at code) ≡ at = omega arith in
          let h : at < length code = omega (arith, stands.some, found_inside code at d e) in
          rw (starts_append (take d.length (drop at code) ∷ []) 0 so.before, place) (coded_more so.coded at d h e);
    }

-- cutting comes as far as the place
abbrev reached : {code marks : List ℕ} {at count : ℕ} → Dividing code marks at count → Reached code (drop at code)
reached {code} {at} so = record { before = take at code; pieces = so.pieces; cut = so.before; joined = take-append-drop at code }

-- at the code's end it is cut whole
pub ends : {code marks : List ℕ} {at count : ℕ} → Dividing code marks at count → length code ≤ at → Divided code (Ok count) marks
ends {code} {at} so h =
    let all : take at code ≡ code = take_all at code h in
    let c : Cut so.pieces code = rw all at so.before in
    rw (← so.counted) (whole c so.coded)

-- where a cut instruction is found, the bytes are its prefix
pub prefix_of : {bytes : List ℕ} → Answers bytes (Err Fault.Cut) → Prefix bytes
prefix_of (cut p) = p

-- the code ends inside the instruction at the place
cuts : {code marks : List ℕ} {at count : ℕ} → Dividing code marks at count → at < length code → decode_of code at ≡ Err Fault.Cut
    → Divided code (Err (Refusal.Cut at)) marks
cuts {code} {marks} {at} so h e =
    let here : length (take at code) ≡ at = length-take-le at code so.inside in
    let p = prefix_of (rw e at (decode_answers code at)) in
    let is : Divided code (Err (Refusal.Cut (length (take at code)))) marks = cut_at (reached so) (coded_long so.coded) (simp length-drop (omega arith)) p in
    rw here at is

-- where nothing is found, the bytes neither begin with an instruction nor are a prefix of one
unknown_of : {bytes : List ℕ} → Answers bytes (Err Fault.Unknown) → (Begins bytes → ⊥) × (Prefix bytes → ⊥)
unknown_of (unknown b p) = (b, p)

-- no instruction begins at the place
stops : {code marks : List ℕ} {at count : ℕ} → Dividing code marks at count → decode_of code at ≡ Err Fault.Unknown
    → Divided code (Err (Refusal.Unknown at)) marks
stops {code} {marks} {at} so e =
    let here : length (take at code) ≡ at = length-take-le at code so.inside in
    let (b, p) = unknown_of (rw e at (decode_answers code at)) in
    let is : Divided code (Err (Refusal.Unknown (length (take at code)))) marks = unknown_at (reached so) (coded_long so.coded) b p in
    rw here at is

-- no instruction stands at the place
pub fails : {code marks : List ℕ} {at count : ℕ} (fault : Fault) → Dividing code marks at count → at < length code → decode_of code at ≡ Err fault
    → Divided code (Err (refusal_at at fault)) marks
fails Fault.Cut so h e = cuts so h e
fails Fault.Unknown so h e = stops so e
