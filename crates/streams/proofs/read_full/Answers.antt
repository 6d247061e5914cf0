-- A read puts the input's next bytes behind those so far, and one that fails puts none.
use Rattle.std.proofs.Common.{◌≡◌, ℕ, ◌+◌, ◌≤◌, List, [], ◌++◌, length, take, Result, Ok, Err, rules, arith, sym, ap, ◌∙◌, subst, length-take-le}
use Rattle.std.proofs.KnownBytes.{Consumes-nil, Consumes-kept, Consumes-trans}
use Rattle.std.proofs.Math.Seq.{take-append-add}
use Rattle.std.proofs.lemmas.List.{take-append-le}
use Rattle.std.specs.declared.option.Option.{Option}
use Rattle.std.specs.Io.{ReadsAtMost}
use Rattle.std.specs.Io.KnownBytes.{Consumes, ReadConsumes}
use Rattle.std.specs.Result.{result_unwrap_or}
use borrow.Rule.Slice.PartMut.{put_mid, post_of}
use Rattle.streams.proofs.read_full.Goals as goal

-- the bytes before a place, and so many of a part put there
take_part : (a k n : ℕ) (xs ys : List ℕ) → a ≤ length xs → n ≤ length ys → take a xs ++ take n ys ≡ take (a + n) (put_mid a k xs ys)
take_part a k n xs ys within fits =
    let after = post_of a k xs in
    ap (λ l. take a xs ++ l) (sym (take-append-le n ys after fits))
    ∙ sym (take-append-add (take a xs) (ys ++ after) n)
    ∙ ap (λ m. take (m + n) (put_mid a k xs ys)) (length-take-le a xs within)

-- how many bytes a read gives, and which; a failed one gives none
read_part : {E : Type 0} (a b : Option (List ℕ)) (r : Result ℕ E) (buf : List ℕ) → ReadsAtMost r buf → ReadConsumes a b r buf
    → (result_unwrap_or r 0 ≤ length buf) × Consumes a b (take (result_unwrap_or r 0) buf)
read_part a b (Ok n) buf fits took = (fits.0, took.0)
read_part a b (Err e) buf fits kept = (omega arith, Consumes-kept a a b [] (Consumes-nil a) kept)

-- the same behind the bytes so far
read_more : {E : Type 0} (first a b : Option (List ℕ)) (r : Result ℕ E) (done next k : ℕ) (buffer buf : List ℕ)
    → done ≤ length buffer → Consumes first a (take done buffer) → ReadsAtMost r buf → ReadConsumes a b r buf → next ≡ done + result_unwrap_or r 0
    → Consumes first b (take next (put_mid done k buffer buf))
read_more first a b r done next k buffer buf inside taken fits bytes is =
    let part = read_part a b r buf fits bytes in
    rw is (subst (Consumes first b) (take_part done k _ buffer buf inside part.0) (Consumes-trans first a b _ _ taken part.1))

pub loop-done-preserved : goal.loop-done-preserved
loop-done-preserved g c =
    let so_far = c.loop-done.invariant in
    record {
      inside = search rules;
      taken = read_more _ _ _ c.read.result _ _ _ _ _ so_far.inside so_far.taken c.read.ensures.bound c.read.ensures.bytes (omega (arith, c.unwrap_or-n.ensures));
    }

pub returns-then-n-eq0 : goal.returns-then-n-eq0
returns-then-n-eq0 g c =
    let so_far = c.loop-done.invariant in
    record {
      inside = search rules;
      taken =
          read_more _ _ _ c.read.result _ _ _ _ _ so_far.inside so_far.taken c.read.ensures.bound c.read.ensures.bytes (omega (arith, c.if-n-eq0.true, c.unwrap_or-n.ensures));
    }
