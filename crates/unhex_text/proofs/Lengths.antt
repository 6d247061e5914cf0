-- How long a line is: none is longer than the longest, so in a buffer as long as that none is cut. Assumes nothing.
use mathlib.Core.Path.{◌≡◌, ap}
use mathlib.Core.Bool.{Bool, true, false, cond}
use mathlib.Core.List.{List, [], ◌∷◌}
use Prim.Native.Nat.{ℕ, suc, ◌<◌, ◌≤◌}
use native.Mathlib.Omega.{arith}
use lib.Dec.{eqb}
use lib.ListN.{length, take, length-append}
use Rattle.intel_hex.specs.Lines.{LF, before, lines_of}
use Rattle.intel_hex.specs.Files.{Outcome, refused as refused_line, no_end, no_data, read}
use Rattle.intel_hex.proofs.Outcomes.{fault_numbers, accepted_sized}
use Rattle.text.specs.Ascii.{ascii}
use Rattle.text.specs.Fields.{tab, newline, field, refused_word, refusal}
use Rattle.text.proofs.Writing.{wrote_whole}
use Rattle.text.proofs.Numbers.{decimal_short}
use Rattle.std.specs.declared.option.Option.{Option}
use Rattle.unhex_text.specs.Unhexing.{most, too_long_line, code_line, longest, Told, code, refused, too_long, Unhexed}
use Rattle.unhex_text.specs.declared.Ends.{Ends}

-- a byte put before some lines makes at most one line more
before_length : (b : ℕ) (lines : List (List ℕ)) → length (before b lines) ≤ suc (length lines)
unfolding before
before_length b [] = omega arith
before_length b (line ∷ later) = omega arith

-- a text has no more lines than bytes
lines_few : (text : List ℕ) → length (lines_of text) ≤ length text
unfolding lines_of
lines_few [] = omega arith
lines_few (b ∷ text) = go (eqb b LF) (lines_few text)
  where
    go : (end : Bool) → length (lines_of text) ≤ length text → length (cond end ((b ∷ []) ∷ lines_of text) (before b (lines_of text))) ≤ suc (length text)
    go true few = omega arith
    go false few = omega (arith, before_length b (lines_of text))

-- a refusal's number has two digits, and its line is one of the text's, or 0
refused_small : {text area after : List ℕ} {number value : ℕ} → 0 < number → Outcome text area number value after → (number < 100) × (value ≤ length text)
refused_small {text} some (refused_line earlier line later {fault} e stand first) =
    (omega (arith, (fault_numbers fault).1), omega (arith, lines_few text, ap length e, length-append earlier (line ∷ later)))
refused_small some (no_end stands ended) = (omega arith, omega arith)
refused_small some (no_data stands ended blank) = (omega arith, omega arith)
refused_small some (read stands ended holds) = absurd (omega arith)

-- a number of at most seven digits, and the byte after it
field_short : (n end : ℕ) → n ≤ most → length (field n end) ≤ 8
unfolding field
field_short n end h = rw length-append (omega (arith, decimal_short 6 n (omega arith)))

-- no line is longer than the longest
line_short : {size : Option ℕ} {text area after line : List ℕ} → Told text area size after line → length line ≤ longest
unfolding code_line too_long_line refusal refused_word ascii
line_short (code {size} short some o) =
    let (_, inside, room) = accepted_sized o in
    rw length-append (omega (arith, field_short size newline (omega arith)))
line_short (refused {number} {line} short some o) =
    let (few, inside) = refused_small some o in
    simp length-append (omega (arith, field_short number tab (omega arith), field_short line newline (omega arith)))
line_short (too_long long) = omega arith

-- a buffer as long as the longest holds the whole line, up to the place given
pub unhexed_whole : {text area out area_after out_after : List ℕ} {ends : Ends} (u : Unhexed text area out ends area_after out_after)
    → longest ≤ length out → take ends.line out_after ≡ u.line
unhexed_whole u room = wrote_whole u.wrote (omega (arith, line_short u.told))
