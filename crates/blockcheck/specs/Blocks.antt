-- The block check by the grammar: what it answers and what it leaves in the marks. Assumes nothing.
use Rattle.std.specs.Prelude.{◌≡◌, ◌⊎◌, ℕ, ◌+◌, ◌%◌, ◌^◌, ◌<◌, ◌≤◌, length, set, replicate, None, Some, Result, Ok, Err}
use mathlib.Core.List.{List, [], ◌∷◌, ◌++◌, Memᴰ}
use Rattle.grammar.specs.Grammar.{Instruction, Cut, done, next}
use Rattle.grammar.specs.Answers.{Begins, Prefix, numbers}
use Rattle.grammar.specs.Relative.{Relative, relative_of}
use Rattle.blockcheck.specs.declared.Refusal.{Refusal}

-- what the check answers: the count of instructions, or why the block is refused
abbrev pub Verdict : Type 0
Verdict = Result ℕ Refusal

-- the paper's number of an answer; 0 for acceptance
abbrev pub number_of : Verdict → ℕ
number_of (Ok n) = 0
number_of (Err Refusal.Length) = 10
number_of (Err Refusal.Marks) = 14
number_of (Err (Refusal.Cut i)) = 21
number_of (Err (Refusal.Unknown i)) = 22
number_of (Err (Refusal.Astray i)) = 23

-- the count of instructions, or the paper's offset
abbrev pub value_of : Verdict → ℕ
value_of (Ok n) = n
value_of (Err Refusal.Length) = 0
value_of (Err Refusal.Marks) = 0
value_of (Err (Refusal.Cut i)) = i
value_of (Err (Refusal.Unknown i)) = i
value_of (Err (Refusal.Astray i)) = i

-- code of 1 to 65,536 bytes
pub record Sized (code : List ℕ) : Type 0 where
  pub some : 0 < length code
  pub most : length code ≤ 65536

-- the offsets at which the instructions of a cut begin, counted from i
unfoldable pub starts_from : ℕ → List (List ℕ) → List ℕ
starts_from i [] = []
starts_from i (bytes ∷ later) = i ∷ starts_from (i + length bytes) later

-- the code lies at 00010000h
unfoldable pub code_base : ℕ
code_base = 0x0001_0000

-- the address that a displacement leads to, from an instruction's offset and length; EIP wraps at 2^32
unfoldable pub target_of : ℕ → ℕ → ℕ → ℕ
target_of i n displacement = (code_base + i + n + displacement) % 2 ^ 32

-- an address is one of the starts
unfoldable pub Lands : List ℕ → ℕ → Type 0
Lands starts address = (s : ℕ) × Memᴰ s starts × (address ≡ code_base + s)

-- a displacement, if there is one, leads to one of the starts
pub data Arrives (starts : List ℕ) (i n : ℕ) : Relative → Type 0 where
  no_displacement : Arrives starts i n None
  arrives : {displacement : ℕ} → Lands starts (target_of i n displacement) → Arrives starts i n (Some displacement)

-- the instruction with these bytes, at offset i, goes astray or not
unfoldable pub Lawful : List ℕ → ℕ → (bytes : List ℕ) → Instruction bytes → Type 0
Lawful starts i bytes instruction = Arrives starts i (length bytes) (relative_of (numbers instruction.parts))

-- every displacement of a cut's instructions, the first at offset i, leads to one of the starts
unfoldable pub Good : List ℕ → ℕ → {pieces : List (List ℕ)} {code : List ℕ} → Cut pieces code → Type 0
Good starts i done = Unit
Good starts i (next {bytes} instruction later) = Lawful starts i bytes instruction × Good starts (i + length bytes) later

-- the first instruction of a cut whose displacement leads to no start is the one at offset k
unfoldable pub Astray : List ℕ → ℕ → {pieces : List (List ℕ)} {code : List ℕ} → Cut pieces code → ℕ → Type 0
Astray starts i done k = ⊥
Astray starts i (next {bytes} instruction later) k =
    ((Lawful starts i bytes instruction → ⊥) × (k ≡ i))
    ⊎ (Lawful starts i bytes instruction × Astray starts (i + length bytes) later k)

-- so many marks, 1 at the starts and 0 elsewhere
unfoldable pub marked : ℕ → List ℕ → List ℕ
marked n [] = replicate n 0
marked n (s ∷ starts) = set (marked n starts) s 1

-- cutting comes as far as `rest`: what stands before it is cut into instructions
pub record Reached (code rest : List ℕ) : Type 0 where
  pub before : List ℕ
  pub pieces : List (List ℕ)
  pub cut : Cut pieces before
  pub joined : before ++ rest ≡ code

-- the paper's number and value for some code and marks, and the marks left
pub data Judged (code marks : List ℕ) : (number value : ℕ) → List ℕ → Type 0 where
  bad_length : (Sized code → ⊥) → Judged code marks 10 0 marks
  bad_marks : Sized code → (length marks ≡ length code → ⊥) → Judged code marks 14 0 marks
  cut_at : Sized code → length marks ≡ length code → {rest : List ℕ} (reached : Reached code rest) → 0 < length rest → Prefix rest
      → Judged code marks 21 (length reached.before) (replicate (length code) 0)
  unknown_at : Sized code → length marks ≡ length code → {rest : List ℕ} (reached : Reached code rest) → (Begins rest → ⊥)
      → (Prefix rest → ⊥) → Judged code marks 22 (length reached.before) (replicate (length code) 0)
  astray_at : Sized code → length marks ≡ length code → {pieces : List (List ℕ)} (cut : Cut pieces code) {i : ℕ}
      → Astray (starts_from 0 pieces) 0 cut i → Judged code marks 23 i (replicate (length code) 0)
  accepted : Sized code → length marks ≡ length code → {pieces : List (List ℕ)} (cut : Cut pieces code)
      → Good (starts_from 0 pieces) 0 cut
      → Judged code marks 0 (length pieces) (marked (length code) (starts_from 0 pieces))
