-- The sixteen conditions of 003 "Jcc", "SETcc" and "CMOVcc". Assumes nothing.
use Rattle.std.specs.Prelude.{Bool, not, ◌&&◌, ◌||◌, List, [], ◌∷◌, ℕ, ◌%◌, slice_index_or}
use Rattle.std.specs.Bool.{beq}
use Rattle.flags.specs.declared.Flags.{Flags}

-- one of the two and not both
abbrev pub differs : Bool → Bool → Bool
differs a b = not (beq a b)

-- 003's mnemonics, of each the first; the others are C, NAE (B), NC, AE (NB), Z (E), NZ (NE), NA (BE), A (NBE), PE (P), PO (NP), NGE (L), GE (NL), NG (LE), G (NLE)
pub data Condition : Type 0 where
  O NO B NB E NE BE NBE S NS P NP L NL LE NLE : Condition

-- the flags that a condition tests
unfoldable pub holds : Condition → Flags → Bool
holds O f = f.of
holds NO f = not f.of
holds B f = f.cf
holds NB f = not f.cf
holds E f = f.zf
holds NE f = not f.zf
holds BE f = f.cf || f.zf
holds NBE f = not f.cf && not f.zf
holds S f = f.sf
holds NS f = not f.sf
holds P f = f.pf
holds NP f = not f.pf
holds L f = differs f.sf f.of
holds NL f = beq f.sf f.of
holds LE f = f.zf || differs f.sf f.of
holds NLE f = not f.zf && beq f.sf f.of

-- the conditions in the order of their numbers
unfoldable pub conditions : List Condition
conditions = O ∷ NO ∷ B ∷ NB ∷ E ∷ NE ∷ BE ∷ NBE ∷ S ∷ NS ∷ P ∷ NP ∷ L ∷ NL ∷ LE ∷ NLE ∷ []

-- the flags meet the condition with the opcode's last four bits
unfoldable pub meets : ℕ → Flags → Bool
meets opcode f = holds (slice_index_or conditions (opcode % 16) O) f
