-- Reading from the left gives what the tree gives.
-- Assumes nothing.
use Rattle.std.proofs.Common.{◌≡◌, refl, ap, sym, subst, ◌∙◌, ℕ, zero, suc, ◌<◌, ◌+◌, ◌-◌, List, [], ◌∷◌, length, get_or, take, drop, Bool, true, false, cond, ltb, Result, Ok, Err, arith}
use Rattle.std.proofs.lemmas.Bool.{ltb-true, ltb-false, lt-ltb, le-ltb}
use Rattle.std.proofs.lemmas.List.{length-drop, length-take-le, get_or-drop}
use Rattle.std.specs.Prelude.{◌==◌}
use Rattle.width.specs.LittleEndian.{little_endian}
use Rattle.grammar.specs.Choice.{pick, both}
use Rattle.grammar.specs.Opcodes.{rule_of}
use Rattle.grammar.specs.Grammar.{Bytes, end, and, reg_of, has_sib, sib_length, displacement_length, immediate_length, allows, allows66}
use Rattle.grammar.specs.Answers.{displaced}
use Rattle.grammar.specs.Reading.{Tree, done, none, byte, Read, whole, short, wrong, run, bytes_then}
use Rattle.grammar.specs.Decoding.{opened, with_modrm, with_sib, closed, ended, tail_tree, address_tree, modrm_tree, has_modrm, operand_tree, accepts, entry_tree, opcode_tree, escapes, escape_tree, first_tree, size_tree, repeat_tree, tree, answer, found, decode_of, Decodes}
use Rattle.grammar.specs.Fields.{◌>>=◌, Reads, byte_at, number_at, displacement_at, prefixes, byte_after, after_repeat_at, after_66_at, prefixes_at, opcode_at, accepted, sib_at, address_at, modrm_at, operand_at, decoded, after_prefixes, instruction_at}
use Rattle.grammar.specs.declared.rule.Repeat.{Repeat}
use Rattle.grammar.specs.declared.rule.Rule.{Rule}
use Rattle.grammar.specs.Opcodes.{Entry}
use Rattle.std.specs.Prelude.{None, Some}
use Rattle.grammar.specs.declared.instruction.Decoded.{Decoded}
use Rattle.grammar.specs.Answers.{Found}
use Rattle.grammar.specs.declared.instruction.Fault.{Fault}
use Rattle.grammar.specs.declared.decode.Prefixes.{Prefixes}
use Rattle.grammar.specs.declared.decode.Operand.{Operand}
use Rattle.grammar.proofs.Trees.{run_byte}
use Rattle.grammar.proofs.Endian.{gives}
use Rattle.grammar.proofs.Answered.{decodes}

abbrev Gave : Type 0
Gave = Result (Decoded × List ℕ) Fault

-- what a run gives, as reading does
abbrev gave : Read Decoded → Gave
gave (whole d rest) = Ok (d, rest)
gave short = Err Fault.Cut
gave wrong = Err Fault.Unknown

abbrev reads : Tree Decoded → List ℕ → Gave
reads t bytes = gave (run t bytes)

-- a byte is read
byte_then : (f : ℕ → Tree Decoded) (bytes : List ℕ) {b : ℕ} {r : Gave} → b < 256 → reads (f b) bytes ≡ r → reads (byte f) (b ∷ bytes) ≡ r
byte_then f bytes {b} h e = ap gave (run_byte f b bytes h) ∙ e

-- none is left
byte_end : (f : ℕ → Tree Decoded) → reads (byte f) [] ≡ Err Fault.Cut
unfolding run
byte_end f = refl

-- nothing stands here
none_is : (bytes : List ℕ) → reads none bytes ≡ Err Fault.Unknown
unfolding run
none_is bytes = refl

-- a test, and what follows it
pick_then : {A : Type 0} (c : Bool) (t u : Tree Decoded) (bytes : List ℕ) (x y : Result A Fault) (f : A → Gave)
    → reads t bytes ≡ (x >>= f) → reads u bytes ≡ (y >>= f) → reads (pick c t u) bytes ≡ (cond c x y >>= f)
unfolding pick
pick_then true t u bytes x y f p q = p
pick_then false t u bytes x y f p q = q

-- a test of two numbers is that of the next ones
ltb_suc : (a b : ℕ) → ltb a b ≡ ltb (suc a) (suc b)
ltb_suc a b = go (ltb a b) refl
  where
    go : (c : Bool) → ltb a b ≡ c → c ≡ ltb (suc a) (suc b)
    go true e = sym (lt-ltb (suc a) (suc b) (omega (arith, ltb-true a b e)))
    go false e = sym (le-ltb (suc a) (suc b) (omega (arith, ltb-false a b e)))

-- so many bytes are read
bytes_is : {m : ℕ} {bytes : List ℕ} → Bytes m bytes → (n : ℕ) (then : List ℕ → Tree Decoded)
    → reads (bytes_then n then) bytes ≡ cond (ltb (length bytes) n) (Err Fault.Cut) (reads (then (take n bytes)) (drop n bytes))
unfolding bytes_then
bytes_is {bytes = bytes} more zero then = rw (le-ltb (length bytes) 0 (omega arith)) refl
bytes_is end (suc n) then = rw (lt-ltb 0 (suc n) (omega arith)) (byte_end _)
bytes_is (and {b} {bs = bytes} h more) (suc n) then =
    byte_then (λ x. bytes_then n (λ xs. then (x ∷ xs))) bytes h (bytes_is more n (λ xs. then (b ∷ xs)))
    ∙ ap (λ (c : Bool). cond c (Err Fault.Cut) (reads (then (b ∷ take n bytes)) (drop n bytes))) (ltb_suc (length bytes) n)

-- bytes behind some are bytes
bytes_drop : {m : ℕ} {bytes : List ℕ} → Bytes m bytes → (n : ℕ) → (k : ℕ) × Bytes k (drop n bytes)
bytes_drop end zero = (0, end)
bytes_drop end (suc n) = (0, end)
bytes_drop (and h more) zero = (_, and h more)
bytes_drop (and h more) (suc n) = bytes_drop more n

abbrev operand : ℕ → ℕ → ℕ → Operand
operand m sib displacement = record { modrm = m; sib = sib; displacement = displacement }

-- what follows an operand, in an instruction that all begins with
abbrev ending : List ℕ → Prefixes → ℕ → Rule → Operand × List ℕ → Gave
ending all p k rule o =
    number_at (immediate_length rule.immediate p.narrow (reg_of o.0.modrm)) o.1 >>= λ i. Ok (decoded (length all - length i.1) k p o.0 i.0, i.1)

module _ (all : List ℕ) (p : Prefixes) (k : ℕ) (rule : Rule) where
  -- the immediate ends an instruction
  immediate_is : {m : ℕ} {bytes : List ℕ} → Bytes m bytes → (d : Decoded) (ds : List ℕ) (o : Operand)
      → d.length + length ds + length bytes ≡ length all
      → ((size immediate : ℕ) → closed d size (displaced ds) immediate ≡ decoded size k p o immediate)
      → reads (bytes_then (immediate_length rule.immediate p.narrow (reg_of o.modrm)) (λ is. done (ended d ds is))) bytes ≡ ending all p k rule (o, bytes)
  unfolding run
  immediate_is {bytes = bytes} more d ds o long same = bytes_is more _ _ ∙ go _ (ltb (length bytes) _) refl
    where
      go : (n : ℕ) (c : Bool) → ltb (length bytes) n ≡ c
          → cond c (Err Fault.Cut) (gives (ended d ds (take n bytes)) (drop n bytes))
          ≡ (cond c (Err Fault.Cut) (gives (little_endian (take n bytes)) (drop n bytes)) >>= λ i. Ok (decoded (length all - length i.1) k p o i.0, i.1))
      go n true e = refl
      go n false e =
          let first : length (take n bytes) ≡ n = length-take-le n bytes (ltb-false _ _ e) in
          let size : d.length + length ds + length (take n bytes) ≡ length all - length (drop n bytes) =
          omega (arith, ltb-false _ _ e, length-drop n bytes)
          in
          ap (λ (x : Decoded). gives x (drop n bytes)) (same _ _ ∙ ap (λ (x : ℕ). decoded x k p o (little_endian (take n bytes))) size)

  -- the displacement and the immediate
  tail_is : {m : ℕ} {bytes : List ℕ} → Bytes m bytes → (d : Decoded) (j r sib : ℕ) → d.length + length bytes ≡ length all
      → ((size displacement immediate : ℕ) → closed d size displacement immediate ≡ decoded size k p (operand r sib displacement) immediate)
      → reads (tail_tree d j (immediate_length rule.immediate p.narrow (reg_of r))) bytes
      ≡ ((displacement_at j bytes >>= λ x. Ok (operand r sib x.0, x.1)) >>= ending all p k rule)
  unfolding tail_tree
  tail_is {bytes = bytes} more d j r sib long same = bytes_is more j _ ∙ go (ltb (length bytes) j) refl
    where
      go : (c : Bool) → ltb (length bytes) j ≡ c
          → cond c (Err Fault.Cut)
          (reads (bytes_then (immediate_length rule.immediate p.narrow (reg_of r)) (λ is. done (ended d (take j bytes) is))) (drop j bytes))
          ≡ ((cond c (Err Fault.Cut) (gives (displaced (take j bytes)) (drop j bytes)) >>= λ x. Ok (operand r sib x.0, x.1)) >>= ending all p k rule)
      go true e = refl
      go false e =
          let first : length (take j bytes) ≡ j = length-take-le j bytes (ltb-false _ _ e) in
          immediate_is (bytes_drop more j).1 d (take j bytes) (operand r sib (displaced (take j bytes)))
          (omega (arith, ltb-false _ _ e, length-drop j bytes)) (λ size i. same size _ i)

  -- what follows a ModR/M byte
  address_is : {m : ℕ} {bytes : List ℕ} → Bytes m bytes → (q r : ℕ) → q + 1 + length bytes ≡ length all
      → reads (address_tree rule.immediate (with_modrm (opened q p.narrow p.repeat k) r)) bytes ≡ (address_at r bytes >>= ending all p k rule)
  unfolding address_tree address_at sib_at sib_length pick bytes_then
  address_is {bytes = bytes} more q r long = go (has_sib r) more long
    where
      go : (c : Bool) {n : ℕ} {bytes : List ℕ} → Bytes n bytes → q + 1 + length bytes ≡ length all
          → reads (bytes_then (pick c 1 0)
          (λ sib. tail_tree (with_sib (with_modrm (opened q p.narrow p.repeat k) r) sib) (displacement_length r (get_or sib 0 0)) (immediate_length rule.immediate p.narrow (reg_of r)))) bytes
          ≡ ((cond c (byte_at bytes) (gives 0 bytes) >>= λ s. displacement_at (displacement_length r s.0) s.1 >>= λ x. Ok (operand r s.0 x.0, x.1)) >>= ending all p k rule)
      go true end long = byte_end _
      go true (and {b} h more) long =
          byte_then _ _ h (tail_is more (with_sib (with_modrm (opened q p.narrow p.repeat k) r) (b ∷ [])) _ r b (omega arith) (λ size x i. refl))
      go false more long = tail_is more (with_modrm (opened q p.narrow p.repeat k) r) _ r 0 long (λ size x i. refl)

  -- a ModR/M byte and what follows it
  modrm_is : {m : ℕ} {bytes : List ℕ} → Bytes m bytes → (q : ℕ) → q + length bytes ≡ length all
      → reads (modrm_tree rule (opened q p.narrow p.repeat k)) bytes ≡ (modrm_at rule p.narrow bytes >>= ending all p k rule)
  unfolding modrm_tree modrm_at
  modrm_is end q long = byte_end _
  modrm_is (and {b} h more) q long =
      byte_then _ _ h (pick_then (both (allows rule.modrm b) (allows66 rule.size p.narrow (reg_of b))) _ _ _ _ _ _ (address_is more q b (omega arith)) (none_is _))

  -- what follows the opcode
  operand_is : {m : ℕ} {bytes : List ℕ} → Bytes m bytes → (q : ℕ) → q + length bytes ≡ length all
      → reads (operand_tree rule (opened q p.narrow p.repeat k)) bytes ≡ (operand_at rule p.narrow bytes >>= ending all p k rule)
  unfolding operand_tree operand_at tail_tree bytes_then displaced
  operand_is more q long =
      pick_then (has_modrm rule.modrm) _ _ _ _ _ _ (modrm_is more q long)
      (immediate_is more (opened q p.narrow p.repeat k) [] (operand 0 0 0) (omega arith) (λ size i. refl))

module _ (all : List ℕ) (p : Prefixes) where
  -- what follows the opcode's number
  opcode_is : {m : ℕ} {bytes : List ℕ} → Bytes m bytes → (q k : ℕ) → q + length bytes ≡ length all
      → reads (opcode_tree q p.narrow p.repeat k) bytes ≡ (accepted p (rule_of k) >>= λ rule. operand_at rule p.narrow bytes >>= ending all p k rule)
  unfolding opcode_tree entry_tree
  opcode_is {bytes = bytes} more q k long = go (rule_of k)
    where
      go : (e : Entry) → reads (entry_tree q p.narrow p.repeat k e) bytes ≡ (accepted p e >>= λ rule. operand_at rule p.narrow bytes >>= ending all p k rule)
      go None = none_is _
      go (Some rule) = pick_then (accepts p.narrow p.repeat rule) _ _ _ _ _ _ (operand_is all p k rule more q long) (none_is _)

  -- what follows 0F
  escaped_is : {m : ℕ} {bytes : List ℕ} → Bytes m bytes → (q : ℕ) → q + length bytes ≡ length all
      → reads (byte (λ b. opcode_tree (q + 1) p.narrow p.repeat (0x100 + b))) bytes
      ≡ ((byte_at bytes >>= λ b. gives (0x100 + b.0) b.1) >>= λ o. accepted p (rule_of o.0) >>= λ rule. operand_at rule p.narrow o.1 >>= ending all p o.0 rule)
  escaped_is end q long = byte_end _
  escaped_is (and {b} h more) q long = byte_then _ _ h (opcode_is more (q + 1) (0x100 + b) (omega arith))

  -- what follows the opcode's first byte
  first_is : {m : ℕ} {bytes : List ℕ} → Bytes m bytes → (q b : ℕ) → q + 1 + length bytes ≡ length all
      → reads (first_tree q p.narrow p.repeat b) bytes ≡ after_prefixes all p b bytes
  unfolding first_tree escape_tree after_prefixes opcode_at
  first_is more q b long =
      pick_then (b == 0x0F) _ _ _ _ _ _ (pick_then (escapes p.narrow p.repeat) _ _ _ _ _ _ (escaped_is more (q + 1) long) (none_is _)) (opcode_is more (q + 1) b long)

  -- the byte after prefixes, and what follows it
  byte_is : {m : ℕ} {bytes : List ℕ} → Bytes m bytes → (q : ℕ) → q + length bytes ≡ length all
      → reads (byte (first_tree q p.narrow p.repeat)) bytes ≡ (byte_after p bytes >>= λ x. after_prefixes all x.0.0 x.0.1 x.1)
  byte_is end q long = byte_end _
  byte_is (and {b} h more) q long = byte_then _ _ h (first_is more q b (omega arith))

module _ (all : List ℕ) where
  -- what follows F2 or F3
  repeat_is : {m : ℕ} {bytes : List ℕ} → Bytes m bytes → (r : Repeat) → 1 + length bytes ≡ length all
      → reads (repeat_tree r) bytes ≡ (after_repeat_at r bytes >>= λ x. after_prefixes all x.0.0 x.0.1 x.1)
  unfolding repeat_tree after_repeat_at
  repeat_is end r long = byte_end _
  repeat_is (and {b} h more) r long =
      byte_then _ _ h (pick_then (b == 0x66) _ _ _ _ _ _ (byte_is all (prefixes true r) more 2 (omega arith)) (first_is all (prefixes false r) more 1 b (omega arith)))

  -- what follows 66
  size_is : {m : ℕ} {bytes : List ℕ} → Bytes m bytes → 1 + length bytes ≡ length all
      → reads size_tree bytes ≡ (after_66_at bytes >>= λ x. after_prefixes all x.0.0 x.0.1 x.1)
  unfolding size_tree after_66_at
  size_is end long = byte_end _
  size_is (and {b} h more) long =
      byte_then _ _ h
      (pick_then (b == 0xF2) _ _ _ _ _ _ (byte_is all (prefixes true Repeat.F2) more 2 (omega arith))
      (pick_then (b == 0xF3) _ _ _ _ _ _ (byte_is all (prefixes true Repeat.F3) more 2 (omega arith)) (first_is all (prefixes true Repeat.Absent) more 1 b (omega arith))))

-- an instruction
tree_is : {m : ℕ} {bytes : List ℕ} → Bytes m bytes → reads tree bytes ≡ instruction_at bytes
unfolding tree instruction_at prefixes_at
tree_is end = byte_end _
tree_is (and {b} {bs = bytes} h more) =
    let all : List ℕ = b ∷ bytes in
    byte_then _ _ h
    (pick_then (b == 0x66) _ _ _ _ _ _ (size_is all more (omega arith))
    (pick_then (b == 0xF2) _ _ _ _ _ _ (repeat_is all more Repeat.F2 (omega arith))
    (pick_then (b == 0xF3) _ _ _ _ _ _ (repeat_is all more Repeat.F3 (omega arith)) (first_is all (prefixes false Repeat.Absent) more 0 b (omega arith)))))

-- a list of bytes is so many bytes
bytes_all : (l : List ℕ) → ((i : ℕ) → get_or l i 0 < 256) → Bytes (length l) l
bytes_all [] h = end
bytes_all (b ∷ l) h = and (h 0) (bytes_all l (λ i. h (suc i)))

-- what a reader returns is the tree's answer
found_is : (o : Read Decoded) (new : List ℕ) (r : Found) → Reads new r (gave o) → r ≡ answer o
unfolding answer
found_is (whole d rest) new (Ok x) h =
    let e : ◌≡◌ {A = Decoded × List ℕ} (d, rest) (x, new) = cc in ap (λ (q : Decoded × List ℕ). Ok q.0) (sym e)
found_is (whole d rest) new (Err e) h = absurd cc
found_is short new (Ok x) h = absurd cc
found_is short new (Err e) h = let same : Fault.Cut ≡ e = cc in ap (λ (x : Fault). Err x) (sym same)
found_is wrong new (Ok x) h = absurd cc
found_is wrong new (Err e) h = let same : Fault.Unknown ≡ e = cc in ap (λ (x : Fault). Err x) (sym same)

-- what a reader of the code returns, from a place on, is what decode gives
pub read_is : (code : List ℕ) (at : ℕ) → ((i : ℕ) → get_or code i 0 < 256) → {start : List ℕ} → start ≡ drop at code
    → (new : List ℕ) (r : Found) → Reads new r (instruction_at start) → Decodes code at r
unfolding decode_of found
read_is code at fits {start} e new r h =
    let same : instruction_at start ≡ reads tree (drop at code) =
    ap instruction_at e ∙ sym (tree_is (bytes_all (drop at code) (λ i. rw get_or-drop (fits (at + i)))))
    in
    decodes code at (found_is (run tree (drop at code)) new r (subst (Reads new r) same h))

-- and so it is of the bytes that are left
pub decodes_left : (code : List ℕ) (at : ℕ) {r : Found} → Decodes code at r → Decodes (drop at code) 0 r
unfolding decode_of found
decodes_left code at d = record { is = d.is; answers = d.answers }
