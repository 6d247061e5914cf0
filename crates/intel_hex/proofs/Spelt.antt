-- A record's line, as it is written: it is one line, it is read as the record, and its bytes add up to 0. Assumes nothing.
use mathlib.Core.Path.{◌≡◌, refl, subst}
use mathlib.Core.Bool.{false}
use mathlib.Core.Logic.{⊎_elim}
use mathlib.Core.List.{List, [], ◌∷◌, ◌++◌}
use Prim.Native.Nat.{ℕ, zero, suc, ◌+◌, ◌*◌, ◌/◌, ◌%◌, ◌<◌, ◌≤◌}
use native.Mathlib.Omega.{arith}
use lib.Dec.{eqb}
use lib.ListN.{length, get_or, take, drop}
use borrow.Author.Tests.{lt-ltb, le-ltb, ne_eqb}
use Rattle.text.specs.Digits.{hex_digit, hexadecimal, hex_bytes}
use Rattle.text.proofs.Writing.{within}
use Rattle.intel_hex.specs.Lines.{LF, before, lines_of}
use Rattle.intel_hex.specs.Records.{Digit, figure, capital, lf, Spells, end, byte, Record, in_order, Reads, reads, total}
use Rattle.intel_hex.proofs.Adding.{total_more}
use Rattle.intel_hex.specs.Writing.{checksum, record_of, line_of}

-- bytes are below 256
unfoldable pub Small : List ℕ → Type 0
Small [] = Unit {0}
Small (b ∷ bytes) = (b < 256) × Small bytes

-- by their places
pub small_by : (bytes : List ℕ) → ((i : ℕ) → get_or bytes i 0 < 256) → Small bytes
unfolding Small
small_by [] h = tt
small_by (b ∷ bytes) h = (h 0, small_by bytes (λ i. h (suc i)))

-- so are the first of them
pub small_take : (n : ℕ) (bytes : List ℕ) → Small bytes → Small (take n bytes)
unfolding Small
small_take zero bytes h = tt
small_take (suc n) [] h = tt
small_take (suc n) (b ∷ bytes) (first, h) = (first, small_take n bytes h)

-- and those behind
pub small_drop : (n : ℕ) (bytes : List ℕ) → Small bytes → Small (drop n bytes)
unfolding Small
small_drop zero bytes h = h
small_drop (suc n) [] h = tt
small_drop (suc n) (b ∷ bytes) (first, h) = small_drop n bytes h

-- and one more
small_more : (bytes : List ℕ) (b : ℕ) → Small bytes → b < 256 → Small (bytes ++ (b ∷ []))
unfolding Small
small_more [] b h g = (g, tt)
small_more (x ∷ bytes) b (first, h) g = (first, small_more bytes b h g)

-- a digit is no line feed
no_feed : (d : ℕ) → eqb (hex_digit d) LF ≡ false
unfolding hex_digit
no_feed d =
    ⊎_elim (λ few. rw (lt-ltb d 10 (omega arith)) (ne_eqb (48 + d) LF (λ e. omega arith)))
    (λ many. rw (le-ltb d 10 (omega arith)) (ne_eqb (55 + d) LF (λ e. omega arith))) (within d 9)

-- a digit stands for what it was written for
digit_again : (d : ℕ) → d < 16 → Digit (hex_digit d) d
unfolding hex_digit
digit_again d h = ⊎_elim low high (within d 9)
  where
    low : d ≤ 9 → Digit (hex_digit d) d
    low few = rw (lt-ltb d 10 (omega arith)) (subst (Digit (48 + d)) (omega arith) (figure (omega arith) (omega arith)))

    high : 9 < d → Digit (hex_digit d) d
    high many = rw (le-ltb d 10 (omega arith)) (subst (Digit (55 + d)) (omega arith) (capital (omega arith) (omega arith)))

-- bytes written are spelt
hex_spells : (bytes : List ℕ) → Small bytes → Spells (hex_bytes bytes ++ (LF ∷ [])) bytes
unfolding Small hex_bytes hexadecimal
hex_spells [] h = end lf
hex_spells (b ∷ bytes) (small, h) =
    let both : 16 * (b / 16 % 16) + b % 16 ≡ b = omega arith in
    subst (λ (x : ℕ). Spells (hex_digit (b / 16 % 16) ∷ hex_digit (b % 16) ∷ (hex_bytes bytes ++ (LF ∷ []))) (x ∷ bytes)) both
    (byte (digit_again (b / 16 % 16) (omega arith)) (digit_again (b % 16) (omega arith)) (hex_spells bytes h))

-- their line ends at its LF
hex_lines : (bytes rest : List ℕ) → lines_of (hex_bytes bytes ++ (LF ∷ []) ++ rest) ≡ (hex_bytes bytes ++ (LF ∷ [])) ∷ lines_of rest
unfolding hex_bytes hexadecimal lines_of before
hex_lines [] rest = refl
hex_lines (b ∷ bytes) rest = rw (no_feed (b / 16 % 16), no_feed (b % 16), hex_lines bytes rest)

-- a record's line is the first of a text that begins with it
pub lines_line : (r : Record) (rest : List ℕ) → lines_of (line_of r ++ rest) ≡ line_of r ∷ lines_of rest
unfolding line_of lines_of before
lines_line r rest = rw (hex_lines (in_order r) rest)

-- it is read as the record
pub line_reads : (r : Record) → Small (in_order r) → Reads (line_of r) r
unfolding line_of
line_reads r h = reads (hex_spells (in_order r) h)

-- a record's parts are bytes
pub record_small : (kind offset : ℕ) (bytes : List ℕ) → kind < 256 → offset < 65536 → length bytes < 256 → Small bytes
    → Small (in_order (record_of kind offset bytes))
unfolding Small in_order record_of checksum
record_small kind offset bytes k o n h =
    (n, (omega arith, (omega arith, (k, small_more bytes _ h (omega arith)))))

-- with its checksum a record adds up to 0
pub record_sums : (kind offset : ℕ) (bytes : List ℕ) → total (in_order (record_of kind offset bytes)) % 256 ≡ 0
unfolding total in_order record_of checksum
record_sums kind offset bytes = rw (total_more bytes _) (omega arith)
