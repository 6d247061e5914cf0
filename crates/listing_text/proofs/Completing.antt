-- The lines of a block's instructions, one at a time. Assumes nothing.
use mathlib.Core.Path.{◌≡◌, refl}
use mathlib.Core.List.{List, [], ◌++◌}
use Prim.Native.Nat.{ℕ, zero, suc, ◌+◌, ◌≤◌}
use native.Mathlib.Omega.{arith}
use Rattle.grammar.specs.Decoding.{decode_of}
use Rattle.grammar.specs.declared.instruction.Decoded.{Decoded}
use Rattle.grammar.specs.declared.instruction.Fault.{Fault}
use Rattle.std.specs.Prelude.{Ok, Err}
use Rattle.text.specs.Written.{Adds}
use Rattle.text.specs.declared.Buffer.{Buffer}
use Rattle.text.proofs.Writing.{adds_none, adds_both}
use Rattle.listing_text.specs.Listing.{line_of, line_then, lines_from}

-- no line is left
pub none_left : (code : List ℕ) (n i : ℕ) → n ≤ 0 → lines_from code n i ≡ []
unfolding lines_from
none_left code zero i h = refl
none_left code (suc n) i h = absurd (omega arith)

-- no instruction stands here
pub none_found : (code : List ℕ) (n i : ℕ) (fault : Fault) → decode_of code i ≡ Err fault → lines_from code n i ≡ []
unfolding lines_from line_then
none_found code zero i fault e = refl
none_found code (suc n) i Fault.Cut e = rw e
none_found code (suc n) i Fault.Unknown e = rw e

-- an instruction stands here
one_more : (code : List ℕ) (n i : ℕ) (d : Decoded) → decode_of code i ≡ Ok d
    → lines_from code (suc n) i ≡ line_of i d.length d.opcode ++ lines_from code n (i + d.length)
unfolding lines_from line_then
one_more code n i d e = rw e

-- the lines still to come, written next, complete the lines of the code
pub record Completes (code : List ℕ) (count : ℕ) (before now : Buffer) (offset left : ℕ) : Type 0 where
  pub whole : {after : Buffer} → Adds now (lines_from code left offset) after → Adds before (lines_from code count 0) after

-- before the first line
pub begins : (code : List ℕ) (count : ℕ) (b : Buffer) → Completes code count b b 0 count
begins code count b = record { whole = λ w. w }

-- with a line more, of as many bytes as the instruction has
pub goes : {code : List ℕ} {count offset left less size : ℕ} {before now then : Buffer} (d : Decoded) → Completes code count before now offset left
    → left ≡ suc less → decode_of code offset ≡ Ok d → size ≡ d.length → Adds now (line_of offset size d.opcode) then
    → Completes code count before then (offset + size) less
goes {code} {offset = offset} {less = less} d so_far more found sized line =
    record { whole = λ w. so_far.whole (rw (more, one_more code less offset d found, ← sized) (adds_both line w)) }

-- with no line left, the lines of the code are written
pub ends : {code : List ℕ} {count offset left : ℕ} {before now : Buffer} → Completes code count before now offset left
    → lines_from code left offset ≡ [] → Adds before (lines_from code count 0) now
ends so_far e = so_far.whole (rw e (adds_none _))
