-- The answer is determined, and says of the code what it should. Assumes nothing.
use mathlib.Core.Path.{◌≡◌, refl, ap, ap₂, sym, ◌∙◌}
use mathlib.Core.Bool.{cond}
use mathlib.Core.Logic.{◌↔◌}
use mathlib.Core.List.{List, [], ◌∷◌, ◌++◌, append-nil, append_cancel_left}
use Prim.Native.Nat.{ℕ, ◌<◌}
use native.Mathlib.Omega.{arith}
use lib.Dec.{eqb}
use lib.ListN.{length, replicate, length-append}
use Rattle.grammar.specs.Grammar.{Cut}
use Rattle.grammar.specs.Answers.{Begins, Prefix, instruction, cut}
use Rattle.grammar.specs.Reading.{run}
use Rattle.grammar.specs.Decoding.{tree, answer, found, decode_of}
use Rattle.grammar.proofs.Answered.{decode_answers, answers_unique}
use Rattle.blockcheck.specs.Blocks.{Verdict, number_of, value_of, Sized, starts_from, Good, Astray, marked, Reached, Judged, bad_length, bad_marks, cut_at, unknown_at, astray_at, accepted}
use Rattle.blockcheck.specs.Starts.{Acceptable}
use Rattle.std.specs.Prelude.{Ok, Err}
use Rattle.blockcheck.specs.declared.Refusal.{Refusal}
use Rattle.blockcheck.proofs.Cuts.{nothing_begins, same_reach, cut_unique, good_of, astray_of, good_not_astray, astray_unique}
use Rattle.blockcheck.proofs.Extents.{prefix_of}

-- the answer with this number and value
verdict_of : ℕ → ℕ → Verdict
verdict_of number value =
    cond (eqb number 0) (Ok value)
    (cond (eqb number 10) (Err Refusal.Length)
    (cond (eqb number 14) (Err Refusal.Marks)
    (cond (eqb number 21) (Err (Refusal.Cut value)) (cond (eqb number 22) (Err (Refusal.Unknown value)) (Err (Refusal.Astray value))))))

-- it is the answer whose number and value they are
verdict_again : (v : Verdict) → verdict_of (number_of v) (value_of v) ≡ v
unfolding verdict_of
verdict_again (Ok n) = refl
verdict_again (Err Refusal.Length) = refl
verdict_again (Err Refusal.Marks) = refl
verdict_again (Err (Refusal.Cut i)) = refl
verdict_again (Err (Refusal.Unknown i)) = refl
verdict_again (Err (Refusal.Astray i)) = refl

-- answers with the same number and value are the same
pub verdict_unique : (v w : Verdict) → number_of v ≡ number_of w → value_of v ≡ value_of w → v ≡ w
verdict_unique v w number value = sym (verdict_again v) ∙ ap₂ verdict_of number value ∙ verdict_again w

-- a proper prefix of an instruction begins with none
prefix_stuck : {rest : List ℕ} → Prefix rest → Begins rest → ⊥
prefix_stuck p b = let e = answers_unique (cut p) (instruction b) in let z : ◌≡◌ {A = ℕ} 0 1 = cc in omega arith

-- no byte at all is a proper prefix of an instruction
empty_prefix : Prefix []
unfolding decode_of found tree run answer
empty_prefix = prefix_of (decode_answers [] 0)

-- bytes that are no proper prefix are some
unknown_some : (rest : List ℕ) → (Prefix rest → ⊥) → 0 < length rest
unknown_some [] p = absurd (p empty_prefix)
unknown_some (b ∷ rest) p = omega arith

-- cutting ends at one place
same_before : {code r s : List ℕ} (p : Reached code r) (q : Reached code s) → (Begins r → ⊥) → (Begins s → ⊥) → p.before ≡ q.before
same_before {r} {s} p q a b = (same_reach p.cut q.cut r s (p.joined ∙ sym q.joined) a b).1

-- and leaves the same bytes
same_rest : {code r s : List ℕ} (p : Reached code r) (q : Reached code s) → (Begins r → ⊥) → (Begins s → ⊥) → r ≡ s
same_rest {r} {s} p q a b =
    append_cancel_left q.before r s (ap (λ (l : List ℕ). l ++ r) (sym (same_before p q a b)) ∙ p.joined ∙ sym q.joined)

-- where cutting ends before the code does, the code has no cut
stuck_uncut : {code rest : List ℕ} {pieces : List (List ℕ)} → Reached code rest → 0 < length rest → (Begins rest → ⊥) → Cut pieces code → ⊥
stuck_uncut {code} {rest} p some stuck c =
    let e = (same_reach c p.cut [] rest (append-nil code ∙ sym p.joined) nothing_begins stuck).1 in
    omega (arith, ap length e, simp length-append at (ap length p.joined))

module _ {code marks : List ℕ} where
  -- with a length that is not allowed, 10 alone is judged
  by_length : {number value : ℕ} {n : List ℕ} → (Sized code → ⊥) → Judged code marks number value n → (10 ≡ number) × (0 ≡ value) × (marks ≡ n)
  by_length r (bad_length q) = (refl, refl, refl)
  by_length r (bad_marks s q) = absurd (r s)
  by_length r (cut_at s l reached some prefix) = absurd (r s)
  by_length r (unknown_at s l reached begins prefix) = absurd (r s)
  by_length r (astray_at s l whole astray) = absurd (r s)
  by_length r (accepted s l whole good) = absurd (r s)

  -- with marks of another length, 14 alone
  by_marks : {number value : ℕ} {n : List ℕ} → Sized code → (length marks ≡ length code → ⊥) → Judged code marks number value n
      → (14 ≡ number) × (0 ≡ value) × (marks ≡ n)
  by_marks t r (bad_length q) = absurd (q t)
  by_marks t r (bad_marks s q) = (refl, refl, refl)
  by_marks t r (cut_at s l reached some prefix) = absurd (r l)
  by_marks t r (unknown_at s l reached begins prefix) = absurd (r l)
  by_marks t r (astray_at s l whole astray) = absurd (r l)
  by_marks t r (accepted s l whole good) = absurd (r l)

  module _ (t : Sized code) (h : length marks ≡ length code) where
    -- where cutting ends at a proper prefix, 21 alone
    by_cut : {rest : List ℕ} {number value : ℕ} {n : List ℕ} (p : Reached code rest) → 0 < length rest → Prefix rest → Judged code marks number value n
        → (21 ≡ number) × (length p.before ≡ value) × (replicate (length code) 0 ≡ n)
    by_cut p some x (bad_length q) = absurd (q t)
    by_cut p some x (bad_marks s q) = absurd (q h)
    by_cut p some x (cut_at s l reached more prefix) =
        (refl, ap length (same_before p reached (prefix_stuck x) (prefix_stuck prefix)), refl)
    by_cut p some x (unknown_at s l reached begins prefix) = absurd (prefix (rw (same_rest p reached (prefix_stuck x) begins) at x))
    by_cut p some x (astray_at s l whole astray) = absurd (stuck_uncut p some (prefix_stuck x) whole)
    by_cut p some x (accepted s l whole good) = absurd (stuck_uncut p some (prefix_stuck x) whole)

    -- where it ends at no instruction and no prefix of one, 22 alone
    by_unknown : {rest : List ℕ} {number value : ℕ} {n : List ℕ} (p : Reached code rest) → (Begins rest → ⊥) → (Prefix rest → ⊥) → Judged code marks number value n
        → (22 ≡ number) × (length p.before ≡ value) × (replicate (length code) 0 ≡ n)
    by_unknown p b x (bad_length q) = absurd (q t)
    by_unknown p b x (bad_marks s q) = absurd (q h)
    by_unknown p b x (cut_at s l reached more prefix) = absurd (x (rw (same_rest reached p (prefix_stuck prefix) b) at prefix))
    by_unknown p b x (unknown_at s l reached begins prefix) =
        (refl, ap length (same_before p reached b begins), refl)
    by_unknown {rest} p b x (astray_at s l whole astray) = absurd (stuck_uncut p (unknown_some rest x) b whole)
    by_unknown {rest} p b x (accepted s l whole good) = absurd (stuck_uncut p (unknown_some rest x) b whole)

    -- where a displacement goes astray, 23 alone
    by_astray : {pieces : List (List ℕ)} {number value : ℕ} {n : List ℕ} (i : ℕ) (c : Cut pieces code) → Astray (starts_from 0 pieces) 0 c i
        → Judged code marks number value n → (23 ≡ number) × (i ≡ value) × (replicate (length code) 0 ≡ n)
    by_astray i c a (bad_length q) = absurd (q t)
    by_astray i c a (bad_marks s q) = absurd (q h)
    by_astray i c a (cut_at s l reached more prefix) = absurd (stuck_uncut reached more (prefix_stuck prefix) c)
    by_astray i c a (unknown_at s l {rest} reached begins prefix) = absurd (stuck_uncut reached (unknown_some rest prefix) begins c)
    by_astray {pieces} i c a (astray_at s l whole {i = j} astray) =
        (refl, astray_unique (starts_from 0 pieces) 0 i j c a (astray_of j whole c astray), refl)
    by_astray {pieces} i c a (accepted s l whole good) = absurd (good_not_astray (starts_from 0 pieces) 0 i c (good_of whole c good) a)

    -- where all are good, acceptance alone
    by_accepted : {pieces : List (List ℕ)} {number value : ℕ} {n : List ℕ} (c : Cut pieces code) → Good (starts_from 0 pieces) 0 c → Judged code marks number value n
        → (0 ≡ number) × (length pieces ≡ value) × (marked (length code) (starts_from 0 pieces) ≡ n)
    by_accepted c g (bad_length q) = absurd (q t)
    by_accepted c g (bad_marks s q) = absurd (q h)
    by_accepted c g (cut_at s l reached more prefix) = absurd (stuck_uncut reached more (prefix_stuck prefix) c)
    by_accepted c g (unknown_at s l {rest} reached begins prefix) = absurd (stuck_uncut reached (unknown_some rest prefix) begins c)
    by_accepted {pieces} c g (astray_at s l whole {i} astray) =
        absurd (good_not_astray (starts_from 0 pieces) 0 i c g (astray_of i whole c astray))
    by_accepted c g (accepted s l whole good) =
        let e = cut_unique c whole in
        (refl, ap length e, ap (λ (p : List (List ℕ)). marked (length code) (starts_from 0 p)) e)

  -- any two permitted outcomes coincide
  pub judged_unique : {m n v w : ℕ} {a b : List ℕ} → Judged code marks m v a → Judged code marks n w b → (m ≡ n) × (v ≡ w) × (a ≡ b)
  judged_unique (bad_length r) k = by_length r k
  judged_unique (bad_marks s r) k = by_marks s r k
  judged_unique (cut_at s l reached some prefix) k = by_cut s l reached some prefix k
  judged_unique (unknown_at s l reached begins prefix) k = by_unknown s l reached begins prefix k
  judged_unique (astray_at s l whole {i} astray) k = by_astray s l i whole astray k
  judged_unique (accepted s l whole good) k = by_accepted s l whole good k

  -- so any two permitted outcomes of the check coincide
  pub check_unique : {v w : Verdict} {a b : List ℕ} → Judged code marks (number_of v) (value_of v) a → Judged code marks (number_of w) (value_of w) b
      → (v ≡ w) × (a ≡ b)
  check_unique {v} {w} j k =
      let (number, value, same) = judged_unique j k in
      (verdict_unique v w number value, same)

  -- 21 names an offset that no cut passes: the code has none
  pub cut_at_uncut : {i : ℕ} {m : List ℕ} {pieces : List (List ℕ)} → Judged code marks 21 i m → Cut pieces code → ⊥
  cut_at_uncut (cut_at s l reached some prefix) = stuck_uncut reached some (prefix_stuck prefix)

  -- so does 22
  pub unknown_at_uncut : {i : ℕ} {m : List ℕ} {pieces : List (List ℕ)} → Judged code marks 22 i m → Cut pieces code → ⊥
  unknown_at_uncut (unknown_at s l {rest} reached begins prefix) = stuck_uncut reached (unknown_some rest prefix) begins

  -- 23: the code has a cut, and this is its first displacement that leads to no start
  pub astray_in_cut : {i : ℕ} {m : List ℕ} → Judged code marks 23 i m
      → (pieces : List (List ℕ)) × (c : Cut pieces code) × Astray (starts_from 0 pieces) 0 c i
  astray_in_cut (astray_at s l {pieces} whole astray) = (pieces, whole, astray)

  -- accepted code is acceptable
  pub accepted_acceptable : {count : ℕ} {m : List ℕ} → Judged code marks 0 count m → Acceptable code
  accepted_acceptable (accepted s l {pieces} whole good) = record { sized = s; pieces = pieces; cut = whole; good = good }

  -- with marks as long as the code, acceptance is judged exactly if the code is acceptable
  pub accepted_exactly : length marks ≡ length code → ((count : ℕ) × (m : List ℕ) × Judged code marks 0 count m) ↔ Acceptable code
  accepted_exactly h = (
    λ (count, m, j). accepted_acceptable j,
    λ a. (length a.pieces, marked (length code) (starts_from 0 a.pieces), accepted a.sized h a.cut a.good),
  )
