-- The decoder's answer is the grammar's, and the only one: an instruction is found, cut or unknown exactly as the grammar says.
-- Assumes nothing.
use mathlib.Core.Path.{◌≡◌, refl, ap, sym, ◌∙◌}
use mathlib.Core.List.{List, ◌++◌}
use Prim.Native.Nat.{ℕ, ◌+◌, ◌<◌, ◌≤◌}
use native.Mathlib.Omega.{arith}
use lib.ListN.{length, take, drop, length-append, length-drop}
use lib.Seq.{take_at, length-take-le}
use Rattle.grammar.specs.Grammar.{prefix_bytes, Opcode, alone, after_0f, opcode_bytes, operand_bytes, Parts, Instruction, bytes_of}
use Rattle.grammar.specs.Answers.{numbers, own_bytes, Begins, Prefix, Answers, instruction, cut, unknown}
use Rattle.grammar.specs.Reading.{Read, whole, short, wrong, run}
use Rattle.grammar.specs.Decoding.{tree, answer, found, decode_of, Decodes}
use Rattle.grammar.specs.declared.instruction.Decoded.{Decoded}
use Rattle.grammar.specs.Answers.{Found}
use Rattle.std.specs.Prelude.{Ok, Err}
use Rattle.grammar.specs.declared.instruction.Fault.{Fault}
use Rattle.grammar.proofs.Trees.{spelled_run, run_spelled, spelled_short, short_spelled}
use Rattle.grammar.proofs.Exact.{spells_tree, tree_spells}
use Rattle.grammar.proofs.Endings.{live_tree}

-- the tree, run over an instruction, gives its numbers
instruction_run : {bytes : List ℕ} (i : Instruction bytes) (rest : List ℕ) → run tree (bytes ++ rest) ≡ whole (numbers i.parts) rest
instruction_run i rest = ap (λ (l : List ℕ). run tree (l ++ rest)) (sym i.joined) ∙ spelled_run (tree_spells i.parts i.built) rest

-- and so over bytes that begin with one
begins_run : {bytes : List ℕ} (i : Begins bytes) → run tree bytes ≡ whole (numbers i.instruction.parts) i.rest
begins_run i = ap (run tree) (sym i.joined) ∙ instruction_run i.instruction i.rest

-- where the tree gives numbers, the bytes begin with an instruction of these numbers
run_begins : (bytes : List ℕ) (x : Decoded) (rest : List ℕ) → run tree bytes ≡ whole x rest
    → (i : Begins bytes) × (numbers i.instruction.parts ≡ x)
run_begins bytes x rest e =
    let (own, s, join) = run_spelled tree bytes x rest e in
    let i = spells_tree s in
    (record { own = own; instruction = i.instruction; rest = rest; joined = join }, i.numbered)

-- over a proper prefix of an instruction the bytes end too early
prefix_run : {bytes : List ℕ} → Prefix bytes → run tree bytes ≡ short
prefix_run {bytes} p =
    let i = p.whole in
    spelled_short bytes p.next p.more (rw i.joined at (tree_spells i.parts i.built))

-- where they end too early, they are such a prefix
run_prefix : (bytes : List ℕ) → run tree bytes ≡ short → Prefix bytes
run_prefix bytes e =
    let (x, next, more, s) = short_spelled live_tree bytes e in
    record { next = next; more = more; whole = (spells_tree s).instruction }

-- each outcome of a run is the grammar's answer
answered : (bytes : List ℕ) (o : Read Decoded) → run tree bytes ≡ o → Answers bytes (answer o)
unfolding answer
answered bytes (whole x rest) e =
    let (i, same) = run_begins bytes x rest e in
    rw same at (instruction i)
answered bytes short e = cut (run_prefix bytes e)
answered bytes wrong e =
    unknown (λ i. let b = begins_run i in let z : ◌≡◌ {A = ℕ} 0 1 = cc in omega arith)
    (λ p. let b = prefix_run p in let z : ◌≡◌ {A = ℕ} 0 1 = cc in omega arith)

-- what decode gives is what the grammar says
pub decode_answers : (code : List ℕ) (at : ℕ) → Answers (drop at code) (decode_of code at)
unfolding decode_of found
decode_answers code at = answered (drop at code) (run tree (drop at code)) refl

-- what equals it meets decode's contract
pub decodes : (code : List ℕ) (at : ℕ) {r : Found} → r ≡ decode_of code at → Decodes code at r
decodes code at e = record { is = e; answers = rw e (decode_answers code at) }

-- the grammar has no other answer
only : (bytes : List ℕ) {r : Found} → Answers bytes r → r ≡ answer (run tree bytes)
unfolding answer
only bytes (instruction i) = sym (ap answer (begins_run i))
only bytes (cut p) = sym (ap answer (prefix_run p))
only bytes (unknown begins prefix) = go (run tree bytes) refl
  where
    go : (o : Read Decoded) → run tree bytes ≡ o → (Err Fault.Unknown) ≡ answer o
    go (whole x rest) e = absurd (begins (run_begins bytes x rest e).0)
    go short e = absurd (prefix (run_prefix bytes e))
    go wrong e = refl

-- no bytes have two answers
pub answers_unique : {bytes : List ℕ} {r s : Found} → Answers bytes r → Answers bytes s → r ≡ s
answers_unique {bytes} a b = only bytes a ∙ sym (only bytes b)

-- an answer of the grammar is what decode gives
pub answers_decode : (code : List ℕ) (at : ℕ) {r : Found} → Answers (drop at code) r → decode_of code at ≡ r
answers_decode code at a = answers_unique (decode_answers code at) a

-- an instruction in the code is found there
pub instruction_found : {bytes : List ℕ} (i : Instruction bytes) (code : List ℕ) (at : ℕ) (rest : List ℕ) → drop at code ≡ bytes ++ rest
    → decode_of code at ≡ Ok (numbers i.parts)
instruction_found {bytes} i code at rest e =
    answers_decode code at (instruction (record { own = bytes; instruction = i; rest = rest; joined = sym e }))

-- what stands before equal rests of equal lists is equal
same_front : (xs ys a b : List ℕ) → a ≡ b → xs ++ a ≡ ys ++ b → xs ≡ ys
same_front xs ys a b same e =
    let long : length xs ≡ length ys = omega (arith, simp length-append at (ap length e), ap length same) in
    sym (take_at xs a (length xs) refl) ∙ ap (take (length xs)) e ∙ take_at ys b (length xs) (sym long)

-- no instruction begins another, so that what follows is the same too
pub same_rest : {xs ys : List ℕ} → Instruction xs → Instruction ys → (a b : List ℕ) → xs ++ a ≡ ys ++ b → a ≡ b
same_rest i j a b e = let first = instruction_run i a in let second = instruction_run j b in cc (ap (run tree) e)

-- and the instruction is the same
pub prefix_free : {xs ys : List ℕ} → Instruction xs → Instruction ys → (a b : List ℕ) → xs ++ a ≡ ys ++ b → xs ≡ ys
prefix_free {xs} {ys} i j a b e = same_front xs ys a b (same_rest i j a b e) e

-- the parts of an instruction have a byte
parts_some : (p : Parts) → 0 < length (bytes_of p)
unfolding bytes_of
parts_some p = go p.opcode
  where
    go : (o : Opcode) → 0 < length (prefix_bytes p.prefixes ++ (opcode_bytes o ++ (operand_bytes p.operand ++ p.immediate)))
    go (alone b) = unfold opcode_bytes in simp length-append (omega arith)
    go (after_0f b) = unfold opcode_bytes in simp length-append (omega arith)

-- an instruction has a byte
pub instruction_some : {bytes : List ℕ} → Instruction bytes → 0 < length bytes
instruction_some i = rw (← i.joined) (parts_some i.parts)

-- a found instruction, with its own bytes
pub record Standing (bytes : List ℕ) (d : Decoded) : Type 0 where
  pub own : Instruction (take d.length bytes)
  pub numbered : numbers own.parts ≡ d
  pub some : 0 < d.length
  pub inside : d.length ≤ length bytes

-- an answer that is an instruction has its own bytes at the front
standing : {bytes : List ℕ} {r : Found} (d : Decoded) → Answers bytes r → r ≡ Ok d → Standing bytes d
unfolding numbers
standing {bytes} d (instruction i) e =
    let same : numbers i.instruction.parts ≡ d = cc in
    let long : length i.own ≡ d.length = ap length (sym i.instruction.joined) ∙ ap (λ (x : Decoded). x.length) same in
    record {
      own =
          record {
            parts = i.instruction.parts;
            built = i.instruction.built;
            joined = i.instruction.joined ∙ sym (take_at i.own i.rest d.length long) ∙ ap (take d.length) i.joined;
          };
      numbered = same;
      some = let h = instruction_some i.instruction in omega arith;
      inside = omega (arith, simp length-append at (ap length i.joined));
    }
standing d (cut p) e = absurd (let z : ◌≡◌ {A = ℕ} 0 1 = cc in omega arith)
standing d (unknown b p) e = absurd (let z : ◌≡◌ {A = ℕ} 0 1 = cc in omega arith)

-- the instruction that decode finds
pub found_standing : (code : List ℕ) (at : ℕ) (d : Decoded) → decode_of code at ≡ Ok d → Standing (drop at code) d
found_standing code at d e = standing d (decode_answers code at) e

-- its own bytes are those of the grammar's instruction
pub own_exactly : {bytes : List ℕ} (i : Begins bytes) → own_bytes (numbers i.instruction.parts) bytes ≡ i.own
unfolding own_bytes numbers
own_exactly i =
    ap (take (length (bytes_of i.instruction.parts))) (sym i.joined)
    ∙ take_at i.own i.rest (length (bytes_of i.instruction.parts)) (ap length (sym i.instruction.joined))

-- they are as many as its length says
pub own_length : (code : List ℕ) (at : ℕ) (d : Decoded) → decode_of code at ≡ Ok d → length (own_bytes d (drop at code)) ≡ d.length
unfolding own_bytes
own_length code at d e = length-take-le d.length (drop at code) (found_standing code at d e).inside

-- it lies inside the code
pub found_inside : (code : List ℕ) (at : ℕ) (d : Decoded) → decode_of code at ≡ Ok d → at + d.length ≤ length code
found_inside code at d e =
    let s = found_standing code at d e in
    omega (arith, s.some, s.inside, length-drop at code)

-- an answer that is cut
is_cut : {bytes : List ℕ} {r : Found} → Answers bytes r → r ≡ Err Fault.Cut → Prefix bytes
is_cut (instruction i) e = absurd (let z : ◌≡◌ {A = ℕ} 0 1 = cc in omega arith)
is_cut (cut p) e = p
is_cut (unknown b p) e = absurd (let z : ◌≡◌ {A = ℕ} 0 1 = cc in omega arith)

-- where decode gives cut, the bytes to the code's end are a proper prefix of an instruction
pub found_cut : (code : List ℕ) (at : ℕ) → decode_of code at ≡ Err Fault.Cut → Prefix (drop at code)
found_cut code at e = is_cut (decode_answers code at) e

-- an answer that is unknown
is_unknown : {bytes : List ℕ} {r : Found} → Answers bytes r → r ≡ Err Fault.Unknown → (Begins bytes → ⊥) × (Prefix bytes → ⊥)
is_unknown (instruction i) e = absurd (let z : ◌≡◌ {A = ℕ} 0 1 = cc in omega arith)
is_unknown (cut p) e = absurd (let z : ◌≡◌ {A = ℕ} 0 1 = cc in omega arith)
is_unknown (unknown b p) e = (b, p)

-- where it gives unknown, they neither begin with an instruction nor are such a prefix
pub found_unknown : (code : List ℕ) (at : ℕ) → decode_of code at ≡ Err Fault.Unknown → (Begins (drop at code) → ⊥) × (Prefix (drop at code) → ⊥)
found_unknown code at e = is_unknown (decode_answers code at) e
