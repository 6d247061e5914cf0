-- How long a text is: none is longer than the longest, so in a buffer as long as that none is cut. Assumes nothing.
use mathlib.Core.Path.{◌≡◌, refl, ap}
use mathlib.Core.Bool.{Bool, true, false}
use mathlib.Core.Logic.{⊎_elim}
use mathlib.Core.List.{List, ◌++◌}
use Prim.Native.Nat.{ℕ, zero, suc, ◌+◌, ◌-◌, ◌*◌, ◌%◌, ◌<◌, ◌≤◌}
use native.Mathlib.Omega.{arith}
use lib.Dec.{ltb}
use lib.ListN.{length, take, drop, length-append}
use borrow.Author.Tests.{lt-ltb}
use Rattle.grammar.specs.Choice.{pick}
use Rattle.grammar.specs.Grammar.{prefix_bytes, Opcode, alone, after_0f, opcode_byte, opcode_bytes, opcode_number, operand_bytes, Parts, bytes_of, Built}
use Rattle.grammar.specs.Answers.{numbers}
use Rattle.grammar.specs.Decoding.{decode_of}
use Rattle.grammar.specs.declared.instruction.Decoded.{Decoded}
use Rattle.grammar.specs.Answers.{Found}
use Rattle.std.specs.Prelude.{Ok, Err}
use Rattle.grammar.specs.declared.instruction.Fault.{Fault}
use Rattle.grammar.proofs.Answered.{Standing, found_standing, found_inside}
use Rattle.blockcheck.proofs.Cuts.{pieces_within, astray_within}
use Rattle.blockcheck.specs.Blocks.{Reached, Judged, bad_length, bad_marks, cut_at, unknown_at, astray_at, accepted}
use Rattle.text.specs.Ascii.{ascii}
use Rattle.text.specs.Digits.{hexadecimal}
use Rattle.text.specs.Fields.{tab, newline, field, refused_word, refusal}
use Rattle.text.proofs.Writing.{within, wrote_whole}
use Rattle.text.proofs.Numbers.{decimal_short, hexadecimal_length}
use Rattle.listing_text.specs.Listing.{header, accepted_word, opcode_text, line_of, line_then, lines_from, body_of, text_of, longest, Listed}

-- a number of at most five digits, and the byte after it
field_short : (n end : ℕ) → n ≤ 65536 → length (field n end) ≤ 6
unfolding field
field_short n end h = rw length-append (omega (arith, decimal_short 4 n (omega arith)))

-- one digit, and the byte after it
field_one : (n end : ℕ) → n < 10 → length (field n end) ≤ 2
unfolding field
field_one n end h = rw length-append (omega (arith, decimal_short 0 n (omega arith)))

-- an opcode has at most four digits
opcode_short : (k : ℕ) → length (opcode_text k) ≤ 4
unfolding opcode_text
opcode_short k = go (ltb k 0x100)
  where
    go : (b : Bool) → length (pick b (hexadecimal 2 k) (hexadecimal 4 (0x0F00 + k % 0x100))) ≤ 4
    go true = unfold pick in rw (hexadecimal_length 2 k) (omega arith)
    go false = unfold pick in rw (hexadecimal_length 4 (0x0F00 + k % 0x100)) (omega arith)

-- an opcode of one byte has two
opcode_two : (k : ℕ) → k < 0x100 → length (opcode_text k) ≡ 2
unfolding opcode_text pick
opcode_two k h = rw (lt-ltb k 0x100 h) (hexadecimal_length 2 k)

-- an instruction of one byte has no 0F
one_byte : (p : Parts) → Built p → length (bytes_of p) < 2 → opcode_number p.opcode < 0x100
unfolding bytes_of
one_byte p built h = go p.opcode built.opcode h
  where
    go : (o : Opcode) → opcode_byte o < 256 → length (prefix_bytes p.prefixes ++ (opcode_bytes o ++ (operand_bytes p.operand ++ p.immediate))) < 2
        → opcode_number o < 0x100
    go (alone b) small h = unfold opcode_number in small
    go (after_0f b) small h = absurd (unfold opcode_bytes in omega (arith, simp length-append at h))

-- a line has at most 12 bytes for each byte of its instruction
line_short : (i : ℕ) (bytes : List ℕ) (d : Decoded) → i + d.length ≤ 65536 → Standing bytes d → length (line_of i d.length d.opcode) ≤ 12 * d.length
unfolding line_of
line_short i bytes d inside s =
    simp length-append
    (⊎_elim
    (λ one.
    let small : d.opcode < 0x100 = opcode_of one in
    omega (arith, field_short i tab (omega arith), field_one d.length tab (omega arith), opcode_two d.opcode small))
    (λ more. omega (arith, field_short i tab (omega arith), field_short d.length tab (omega arith), opcode_short d.opcode))
    (within d.length 1))
  where
    opcode_of : d.length ≤ 1 → d.opcode < 0x100
    opcode_of one =
        unfold numbers in
        rw (ap (λ (x : Decoded). x.opcode) s.numbered) at
        (one_byte s.own.parts s.own.built (omega (arith, ap (λ (x : Decoded). x.length) s.numbered)))

-- so lines have at most 12 bytes for each byte of the code from there on
lines_short : (code : List ℕ) (n i : ℕ) → length code ≤ 65536 → length (lines_from code n i) ≤ 12 * (length code - i)
unfolding lines_from
lines_short code zero i most = omega arith
lines_short code (suc n) i most = go (decode_of code i) refl (λ k. lines_short code n k most)
  where
    go : (f : Found) → decode_of code i ≡ f → ((k : ℕ) → length (lines_from code n k) ≤ 12 * (length code - k))
        → length (line_then i f (lines_from code n)) ≤ 12 * (length code - i)
    go (Ok d) e later =
        let inside = found_inside code i d e in
        unfold line_then in
        rw length-append (omega (arith, line_short i (drop i code) d (omega arith) (found_standing code i d e), later (i + d.length)))
    go (Err Fault.Cut) e later = unfold line_then in omega arith
    go (Err Fault.Unknown) e later = unfold line_then in omega arith

-- what is cut before the rest is no longer than the code
before_inside : {code rest : List ℕ} (r : Reached code rest) → length r.before ≤ length code
before_inside r = omega (arith, simp length-append at (ap length r.joined))

-- a refusal's line is short
refusal_short : (number offset : ℕ) → number < 100 → offset ≤ 65536 → length (refusal number offset) ≤ 20
unfolding refusal refused_word ascii
refusal_short number offset few inside =
    simp length-append (omega (arith, field_short number tab (omega arith), field_short offset newline inside))

-- no text is longer than the longest
pub text_short : {code marks marks_after : List ℕ} {number value : ℕ} → Judged code marks number value marks_after → length (text_of code number value) ≤ longest
unfolding text_of body_of header accepted_word ascii
text_short (bad_length r) = rw length-append (omega (arith, refusal_short 10 0 (omega arith) (omega arith)))
text_short (bad_marks s r) = rw length-append (omega (arith, refusal_short 14 0 (omega arith) (omega arith)))
text_short (cut_at s l r some prefix) =
    rw length-append (omega (arith, refusal_short 21 (length r.before) (omega arith) (omega (arith, before_inside r, s.most))))
text_short (unknown_at s l r begins prefix) =
    rw length-append (omega (arith, refusal_short 22 (length r.before) (omega arith) (omega (arith, before_inside r, s.most))))
text_short (astray_at s l cut {i} astray) =
    rw length-append (omega (arith, refusal_short 23 i (omega arith) (omega (arith, astray_within _ 0 i cut astray, s.most))))
text_short {code} (accepted s l {pieces} cut good) =
    simp length-append
    (omega (arith, lines_short code (length pieces) 0 s.most, field_short (length pieces) newline (omega (arith, pieces_within cut, s.most)), s.most))

-- a buffer as long as the longest holds the whole text, up to the place given
pub listed_whole : {code marks out marks_after out_after : List ℕ} {next : ℕ} (l : Listed code marks out next marks_after out_after)
    → longest ≤ length out → take next out_after ≡ text_of code l.number l.value
listed_whole l room = wrote_whole l.wrote (omega (arith, text_short l.judged))
