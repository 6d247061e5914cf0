-- What follows an opcode, read by the tree, is an operand and an immediate as its rule asks; and the other way round.
-- Assumes nothing.
use mathlib.Core.Path.{◌≡◌, refl, ap, sym, ◌∙◌}
use mathlib.Core.Bool.{Bool, true, false}
use mathlib.Core.List.{List, [], ◌∷◌, ◌++◌, append-nil, append_assoc}
use mathlib.Core.Logic.{⊎_elim}
use Prim.Native.Nat.{ℕ, suc, ◌+◌, ◌≤◌}
use native.Mathlib.Omega.{arith}
use lib.ListN.{length, get_or, length-append}
use Rattle.grammar.specs.Choice.{pick, both}
use Rattle.grammar.specs.Grammar.{Bytes, end, and, Prefixes, prefix_bytes, narrow_of, repeat_in, Opcode, opcode_bytes, opcode_number, Operand, absent, addressed, operand_bytes, field_of, OperandFits, without, with, has_sib, sib_length, displacement_length, immediate_length, reg_of, allows, allows66, bytes_of}
use Rattle.width.specs.LittleEndian.{little_endian}
use Rattle.grammar.specs.Answers.{displaced, numbers, modrm_of, sib_of, displacement_of}
use Rattle.grammar.specs.Reading.{done, none, bytes_then}
use Rattle.grammar.specs.Decoding.{opened, with_modrm, with_sib, closed, ended, tail_tree, address_tree, modrm_tree, has_modrm, operand_tree}
use Rattle.grammar.specs.declared.rule.ModRM.{ModRM}
use Rattle.grammar.specs.declared.rule.Rule.{Rule}
use Rattle.grammar.specs.declared.instruction.Decoded.{Decoded}
use Rattle.grammar.proofs.Trees.{Spells, here, read, spells_then, then_spells, spells_yes, spells_no, pick_spells, held, done_spells}
use Rattle.grammar.proofs.Below.{both_hold, both_left_held, both_right_held}

-- the numbers once an operand and an immediate are read
abbrev pub full : Decoded → Operand → List ℕ → Decoded
full d absent is = ended d [] is
full d (addressed m sib ds) is = ended (with_sib (with_modrm d m) sib) ds is

-- a displacement and an immediate are spelled
tail_spells : (d : Decoded) {k n : ℕ} {ds is : List ℕ} → Bytes k ds → Bytes n is
    → Spells (tail_tree d k n) (ended d ds is) (ds ++ is)
unfolding tail_tree
tail_spells d {k} {n} {ds} {is} a b =
    let ending : Spells (tail_tree d k n) (ended d ds is) (ds ++ (is ++ [])) =
    spells_then a (λ ds. bytes_then n (λ is. done (ended d ds is)))
    (spells_then b (λ is. done (ended d ds is)) here)
    in
    rw (append-nil is) at ending

-- what the bytes of a displacement and an immediate spell
spells_tail : (d : Decoded) (k n : ℕ) {x : Decoded} {bs : List ℕ} → Spells (tail_tree d k n) x bs
    → (ds : List ℕ) × (is : List ℕ) × Bytes k ds × Bytes n is
    × (ended d ds is ≡ x) × (ds ++ is ≡ bs)
unfolding tail_tree
spells_tail d k n s =
    let (ds, a, rest, t, j) = then_spells k _ s in
    let (is, b, nothing, u, i) = then_spells n _ t in
    let (same, last) = done_spells u in
    (ds, is, a, b, same, ap (λ (l : List ℕ). ds ++ l) (sym (append-nil is) ∙ ap (λ (l : List ℕ). is ++ l) last ∙ i) ∙ j)

-- a ModR/M byte that is allowed is one that follows
pub allows_has : (g : ModRM) (m : ℕ) → allows g m ≡ true → has_modrm g ≡ true
allows_has ModRM.Absent m e = e
allows_has ModRM.Any m e = refl
allows_has ModRM.Memory m e = refl
allows_has ModRM.AllBut6 m e = refl
allows_has ModRM.Only0 m e = refl
allows_has ModRM.AllBut1 m e = refl
allows_has ModRM.Only01 m e = refl
allows_has ModRM.Only01246 m e = refl
allows_has ModRM.Only4567 m e = refl

-- no test both holds and fails
clash : {A : Type 0} → true ≡ false → A
clash e = absurd (let z : ◌≡◌ {A = ℕ} 0 1 = cc in omega arith)

-- where none follows there is no operand
has_none : (g : ModRM) → has_modrm g ≡ false → OperandFits g absent
has_none ModRM.Absent e = without
has_none ModRM.Any e = clash e
has_none ModRM.Memory e = clash e
has_none ModRM.AllBut6 e = clash e
has_none ModRM.Only0 e = clash e
has_none ModRM.AllBut1 e = clash e
has_none ModRM.Only01 e = clash e
has_none ModRM.Only01246 e = clash e
has_none ModRM.Only4567 e = clash e

-- an operand and an immediate as an opcode's rule asks, in bytes and in numbers
pub record Operands (rule : Rule) (d x : Decoded) (bytes : List ℕ) : Type 0 where
  pub operand : Operand
  pub immediate : List ℕ
  pub fits : OperandFits rule.modrm operand
  pub size : allows66 rule.size d.narrow (field_of operand) ≡ true
  pub long : Bytes (immediate_length rule.immediate d.narrow (field_of operand)) immediate
  pub numbered : full d operand immediate ≡ x
  pub joined : operand_bytes operand ++ immediate ≡ bytes

-- such parts are spelled
pub operand_spells : (rule : Rule) (d : Decoded) {g : ModRM} {o : Operand} {is : List ℕ} → rule.modrm ≡ g → OperandFits g o
    → allows66 rule.size d.narrow (field_of o) ≡ true → Bytes (immediate_length rule.immediate d.narrow (field_of o)) is
    → Spells (operand_tree rule d) (full d o is) (operand_bytes o ++ is)
unfolding operand_tree modrm_tree address_tree operand_bytes field_of
operand_spells rule d e without size long = spells_no (modrm_tree rule d) (ap has_modrm e) (tail_spells d end long)
operand_spells rule d {is = is} e (with {g} {m} {sib} {displacement} small allowed sibs displaces) size long =
    spells_yes _ (ap has_modrm e ∙ allows_has g m allowed)
    (read small
    (spells_yes none (both_hold (ap (λ (h : ModRM). allows h m) e ∙ allowed) size)
    (rw (append_assoc sib displacement is)
    (spells_then sibs
    (λ sib.
    tail_tree (with_sib (with_modrm d m) sib) (displacement_length m (get_or sib 0 0)) (immediate_length rule.immediate d.narrow (reg_of m)))
    (tail_spells (with_sib (with_modrm d m) sib) displaces long)))))

-- what spells without a ModR/M byte
spells_plain : (rule : Rule) (d : Decoded) {x : Decoded} {ds is bytes : List ℕ} → OperandFits rule.modrm absent
    → allows66 rule.size d.narrow 0 ≡ true → Bytes 0 ds → Bytes (immediate_length rule.immediate d.narrow 0) is
    → ended d ds is ≡ x → ds ++ is ≡ bytes → Operands rule d x bytes
unfolding operand_bytes field_of
spells_plain rule d {is = is} fits size end long same join =
    record { operand = absent; immediate = is; fits = fits; size = size; long = long; numbered = same; joined = join }

-- what spells with one
spells_modrm : (rule : Rule) (d : Decoded) {x : Decoded} {bytes : List ℕ} → Spells (modrm_tree rule d) x bytes → Operands rule d x bytes
unfolding modrm_tree address_tree operand_bytes field_of
spells_modrm rule d (read {b} small s) =
    let (allowed, t) = held (both (allows rule.modrm b) (allows66 rule.size d.narrow (reg_of b))) _ s in
    let (sib, sibs, rest, u, j) = then_spells (sib_length b) _ t in
    let (ds, is, displaces, long, same, k) = spells_tail (with_sib (with_modrm d b) sib) (displacement_length b (get_or sib 0 0)) _ u in
    record {
      operand = addressed b sib ds;
      immediate = is;
      fits = with small (both_left_held _ _ allowed) sibs displaces;
      size = both_right_held (allows rule.modrm b) (allows66 rule.size d.narrow (reg_of b)) allowed;
      long = long;
      numbered = same;
      joined = ap (λ (l : List ℕ). b ∷ l) (append_assoc sib ds is ∙ ap (λ (l : List ℕ). sib ++ l) k ∙ j);
    }

-- what is spelled are such parts
pub spells_operand : (rule : Rule) (d : Decoded) {x : Decoded} {bytes : List ℕ} → allows66 rule.size d.narrow 0 ≡ true
    → Spells (operand_tree rule d) x bytes → Operands rule d x bytes
unfolding operand_tree
spells_operand rule d {x} {bytes} size s =
    ⊎_elim (λ t. spells_modrm rule d t.1)
    (λ t.
    let (ds, is, a, long, same, join) = spells_tail d 0 _ t.1 in
    spells_plain rule d (has_none rule.modrm t.0) size a long same join)
    (pick_spells (has_modrm rule.modrm) _ _ s)

-- so many bytes are so long
pub bytes_length : {n : ℕ} {bs : List ℕ} → Bytes n bs → length bs ≡ n
bytes_length end = refl
bytes_length (and h more) = ap suc (bytes_length more)

-- at most one SIB byte
pick_one : (c : Bool) → pick c 1 0 ≤ 1
unfolding pick
pick_one true = omega arith
pick_one false = omega arith

pub sib_length_lem : (m : ℕ) {sib : List ℕ} → Bytes (sib_length m) sib → length sib ≤ 1
unfolding sib_length
sib_length_lem m sibs = let is = bytes_length sibs in let short = pick_one (has_sib m) in omega arith

-- the numbers that the tree gathers are the instruction's
module _ (p : Prefixes) (o : Opcode) (n : ℕ) (read_on : n ≡ length (prefix_bytes p) + length (opcode_bytes o)) where
  pub gathered : {g : ModRM} (m : Operand) (is : List ℕ) → OperandFits g m
      → full (opened n (narrow_of p) (repeat_in p) (opcode_number o)) m is ≡ numbers (record { prefixes = p; opcode = o; operand = m; immediate = is })
  unfolding numbers bytes_of operand_bytes modrm_of sib_of displacement_of displaced
  gathered absent is fits =
      ap (λ (long : ℕ). closed (opened n (narrow_of p) (repeat_in p) (opcode_number o)) long 0 (little_endian is))
      (let e : n + 0 + length is ≡ length (prefix_bytes p ++ (opcode_bytes o ++ is)) = simp length-append (omega arith) in e)
  gathered (addressed m [] ds) is fits =
      ap (λ (long : ℕ). closed (with_modrm (opened n (narrow_of p) (repeat_in p) (opcode_number o)) m) long (displaced ds) (little_endian is))
      (let e : n + 1 + length ds + length is ≡ length (prefix_bytes p ++ (opcode_bytes o ++ (m ∷ ds ++ is))) = simp length-append (omega arith) in e)
  gathered (addressed m (s ∷ []) ds) is fits =
      ap
      (λ (long : ℕ). closed (with_sib (with_modrm (opened n (narrow_of p) (repeat_in p) (opcode_number o)) m) (s ∷ [])) long (displaced ds) (little_endian is))
      (let e : n + 1 + 1 + length ds + length is ≡ length (prefix_bytes p ++ (opcode_bytes o ++ (m ∷ s ∷ ds ++ is))) = simp length-append (omega arith) in e)
  gathered (addressed m (s ∷ t ∷ ss) ds) is (with small allowed sibs displaces) = absurd (let h = sib_length_lem m sibs in omega arith)
