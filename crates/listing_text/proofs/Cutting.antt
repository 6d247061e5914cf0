-- The lines of an accepted block are those of the instructions of its cut. Assumes nothing.
use mathlib.Core.Path.{◌≡◌, refl, ap, sym}
use mathlib.Core.List.{List, [], ◌∷◌, ◌++◌, append-nil, append_assoc}
use Prim.Native.Nat.{ℕ, ◌+◌, ◌*◌, ◌%◌, ◌<◌}
use native.Mathlib.Omega.{arith}
use lib.ListN.{length, length-append}
use lib.Seq.{drop-append_seam}
use borrow.Author.Tests.{lt-ltb, le-ltb}
use Rattle.grammar.specs.Choice.{pick}
use Rattle.grammar.specs.Grammar.{Opcode, alone, after_0f, opcode_byte, opcode_bytes, opcode_number, Instruction, Cut, done, next}
use Rattle.grammar.specs.Answers.{numbers}
use Rattle.grammar.proofs.Answered.{instruction_found}
use Rattle.blockcheck.proofs.Cuts.{same_length}
use Rattle.text.specs.Digits.{hexadecimal, hex_bytes}
use Rattle.text.proofs.Numbers.{hexadecimal_byte}
use Rattle.listing_text.specs.Listing.{opcode_text, line_of, line_then, lines_from, instruction_line, cut_lines}
use Rattle.text.specs.Fields.{tab, newline, field}

-- an opcode's text is its bytes in capital hex
opcode_hex : (o : Opcode) → opcode_byte o < 256 → opcode_text (opcode_number o) ≡ hex_bytes (opcode_bytes o)
unfolding opcode_text pick opcode_number opcode_bytes hex_bytes
opcode_hex (alone b) h = rw (lt-ltb b 0x100 h) (sym (append-nil (hexadecimal 2 b)))
opcode_hex (after_0f b) h =
    let joined : 0x0F00 + (0x100 + b) % 0x100 ≡ 256 * 0x0F + b = omega arith in
    rw (le-ltb (0x100 + b) 0x100 (omega arith), joined, hexadecimal_byte 2 0x0F b h)
    (ap (λ (l : List ℕ). hexadecimal 2 0x0F ++ l) (sym (append-nil (hexadecimal 2 b))))

-- an instruction's line, by its numbers or by its bytes
same_line : (i : ℕ) {bytes : List ℕ} (instruction : Instruction bytes) → line_of i (numbers instruction.parts).length (numbers instruction.parts).opcode ≡ instruction_line i bytes instruction
unfolding line_of instruction_line numbers
same_line i instruction =
    rw (opcode_hex instruction.parts.opcode instruction.built.opcode)
    (ap (λ (n : ℕ). field i tab ++ field n tab ++ hex_bytes (opcode_bytes instruction.parts.opcode) ++ newline ∷ []) (ap length instruction.joined))

-- the lines of a cut of the rest of the code
lines_behind : (before : List ℕ) {pieces : List (List ℕ)} {rest : List ℕ} (cut : Cut pieces rest)
    → lines_from (before ++ rest) (length pieces) (length before) ≡ cut_lines (length before) cut
unfolding lines_from line_then cut_lines
lines_behind before done = refl
lines_behind before (next {bytes} {code} {later = pieces} instruction later) =
    let i = length before in
    let found = instruction_found instruction (before ++ (bytes ++ code)) i code (drop-append_seam before (bytes ++ code)) in
    let behind = rw (append_assoc, length-append) at (lines_behind (before ++ bytes) later) in
    rw (found, same_line i instruction, same_length instruction) (ap (λ (l : List ℕ). instruction_line i bytes instruction ++ l) behind)

-- the lines of any cut of the code are those that the listing has
pub lines_of_cut : {pieces : List (List ℕ)} {code : List ℕ} (cut : Cut pieces code) → lines_from code (length pieces) 0 ≡ cut_lines 0 cut
lines_of_cut cut = lines_behind [] cut
