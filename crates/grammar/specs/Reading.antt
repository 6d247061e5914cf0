-- Reading byte by byte: a tree that says, after each byte, whether reading is done, fails, or goes on.
-- Assumes nothing.
use Rattle.std.specs.Prelude.{List, [], ◌∷◌, ℕ, zero, suc, nat_lt}
use Rattle.grammar.specs.Choice.{pick}

-- done with a value, no value, or what each next byte leads to
pub data Tree (A : Type 0) : Type 0 where
  done : A → Tree A
  none : Tree A
  byte : (ℕ → Tree A) → Tree A

-- what reading some bytes gives: a value and the bytes after it; the bytes end too early; or no value begins so
pub data Read (A : Type 0) : Type 0 where
  whole : A → List ℕ → Read A
  short : Read A
  wrong : Read A

-- a tree run over some bytes; a number of 256 or more is no byte
unfoldable pub run : {A : Type 0} → Tree A → List ℕ → Read A
run (done a) bytes = whole a bytes
run none bytes = wrong
run (byte f) [] = short
run (byte f) (b ∷ bytes) = pick (nat_lt b 256) (run (f b) bytes) wrong

-- so many bytes, and then what they lead to
unfoldable pub bytes_then : {A : Type 0} → ℕ → (List ℕ → Tree A) → Tree A
bytes_then zero then = then []
bytes_then (suc n) then = byte (λ b. bytes_then n (λ bs. then (b ∷ bs)))
