-- Accepted code from start to start: each decodes, and what follows it or is jumped to is a start. Assumes nothing.
use mathlib.Core.Path.{◌≡◌, refl, ap, sym, ◌∙◌, subst}
use mathlib.Core.Logic.{◌⊎◌, inl, inr, ⊎_elim, ◌↔◌}
use mathlib.Core.List.Memᴰ
use mathlib.Core.List.{List, [], ◌++◌, append_assoc, Memᴰ}
use Prim.Native.Nat.{ℕ, ◌+◌, ◌≤◌}
use native.Mathlib.Omega.{arith}
use lib.ListN.{length, get_or, drop, length-append}
use lib.Seq.{drop_at}
use Rattle.grammar.specs.Grammar.{Instruction, Cut, done, next}
use Rattle.grammar.specs.Answers.{numbers}
use Rattle.grammar.specs.Decoding.{decode_of}
use Rattle.grammar.specs.Relative.{relative_of}
use Rattle.grammar.specs.declared.instruction.Decoded.{Decoded}
use Rattle.std.specs.Prelude.{Ok}
use Rattle.std.specs.Prelude.{Some}
use Rattle.grammar.proofs.Answered.{found_inside, instruction_found}
use Rattle.blockcheck.specs.Blocks.{starts_from, code_base, target_of, Lands, Arrives, Lawful, Good, Judged, accepted}
use Rattle.blockcheck.specs.Starts.{Start, Acceptable}
use Rattle.blockcheck.proofs.Cuts.{same_length, cut_unique, good_of}
use Rattle.blockcheck.proofs.Marking.{marked_start, start_marked}
use Rattle.blockcheck.proofs.Seeking.{landed}

-- a cut's first instruction begins where the code does
first_start : (i : ℕ) {pieces : List (List ℕ)} {code : List ℕ} → Cut pieces code → Memᴰ i (starts_from i pieces) ⊎ (code ≡ [])
unfolding starts_from
first_start i done = inr refl
first_start i (next own later) = inl (Memᴰ.head refl)

-- the instruction at a start s of a cut whose first is at i, and what follows it
record Placed (i s : ℕ) {pieces : List (List ℕ)} {code : List ℕ} (cut : Cut pieces code) : Type 0 where
  pub before : List ℕ
  pub bytes : List ℕ
  pub after : List ℕ
  pub own : Instruction bytes
  pub place : i + length before ≡ s
  pub joined : before ++ (bytes ++ after) ≡ code
  pub follows : Memᴰ (s + length bytes) (starts_from i pieces) ⊎ (after ≡ [])
  pub lawful : (starts : List ℕ) → Good starts i cut → Lawful starts s bytes own

-- every start of a cut has its instruction
placed : (i s : ℕ) {pieces : List (List ℕ)} {code : List ℕ} (cut : Cut pieces code) → Memᴰ s (starts_from i pieces) → Placed i s cut
unfolding starts_from Good
placed i s done m = absurd (Memᴰ.not-nil m)
placed i s (next {bytes} {code} own later) (Memᴰ.head e) =
    record {
      before = [];
      bytes = bytes;
      after = code;
      own = own;
      place = omega arith;
      joined = refl;
      follows = rw e (⊎_elim (λ m. inl (Memᴰ.tail m)) inr (first_start (i + length bytes) later));
      lawful = λ starts good. rw e good.0;
    }
placed i s (next {bytes} {code} own later) (Memᴰ.tail m) =
    let p = placed (i + length bytes) s later m in
    record {
      before = bytes ++ p.before;
      bytes = p.bytes;
      after = p.after;
      own = p.own;
      place = simp length-append (omega (arith, p.place));
      joined = append_assoc bytes p.before (p.bytes ++ p.after) ∙ ap (λ (l : List ℕ). bytes ++ l) p.joined;
      follows = ⊎_elim (λ n. inl (Memᴰ.tail n)) inr p.follows;
      lawful = λ starts good. p.lawful starts good.1;
    }

module _ {code : List ℕ} {i : ℕ} (start : Start code i) where
  -- the instruction at the start
  here : Placed 0 i start.cut
  here = placed 0 i start.cut start.among

  -- it is what decode gives
  stands : decode_of code i ≡ Ok (numbers here.own.parts)
  stands =
      instruction_found here.own code i here.after
      (ap (drop i) (sym here.joined) ∙ drop_at here.before (here.bytes ++ here.after) i (omega (arith, here.place)))

  -- at each start decode gives an instruction, which ends inside the code
  pub start_decodes : (d : Decoded) × (decode_of code i ≡ Ok d) × (i + d.length ≤ length code)
  start_decodes = (numbers here.own.parts, stands, found_inside code i (numbers here.own.parts) stands)

  module _ (d : Decoded) (found : decode_of code i ≡ Ok d) where
    -- it is the one found
    same : numbers here.own.parts ≡ d
    same = let e = stands in cc

    -- it has as many bytes as decode says
    long : length here.bytes ≡ d.length
    long = sym (same_length here.own) ∙ ap (λ (x : Decoded). x.length) same

    -- past the instruction at a start is a start or the code's end
    pub falls_through : Start code (i + d.length) ⊎ (i + d.length ≡ length code)
    falls_through =
        ⊎_elim (λ m. inl (record { pieces = start.pieces; cut = start.cut; among = rw long at m }))
        (λ e. inr (omega (arith, long, here.place, ap length e, simp length-append at (ap length here.joined)))) here.follows

    -- in acceptable code the displacement of the instruction at a start leads to a start
    pub displacement_lands : Acceptable code → (x : ℕ) → relative_of d ≡ Some x
        → (s : ℕ) × Start code s × (target_of i d.length x ≡ code_base + s)
    unfolding Lawful Lands
    displacement_lands a x e =
        let lawful = here.lawful (starts_from 0 start.pieces) (good_of a.cut start.cut a.good) in
        let by = subst (Arrives (starts_from 0 start.pieces) i (length here.bytes)) (ap relative_of same ∙ e) lawful in
        let (s, among, lands) = landed by in
        (s, record { pieces = start.pieces; cut = start.cut; among = among }, ap (λ (n : ℕ). target_of i n x) (sym long) ∙ lands)

-- the code's first offset is a start
pub zero_is_start : {code : List ℕ} → Acceptable code → Start code 0
zero_is_start a =
    ⊎_elim (λ m. record { pieces = a.pieces; cut = a.cut; among = m }) (λ e. absurd (omega (arith, a.sized.some, ap length e)))
    (first_start 0 a.cut)

-- of accepted code the marks are 1 exactly at the starts
pub marks_at_starts : {code marks after : List ℕ} {count : ℕ} → Judged code marks 0 count after → (i : ℕ)
    → (get_or after i 0 ≡ 1) ↔ Start code i
marks_at_starts {code} (accepted s l {pieces} cut good) i = (
  λ e. record { pieces = pieces; cut = cut; among = marked_start (length code) (starts_from 0 pieces) i e },
  λ start. start_marked cut i (rw (cut_unique start.cut cut) at start.among),
)
