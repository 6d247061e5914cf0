-- Before which opcodes after 0F, and before which alone, each choice of prefixes stands: tests over the rules.
-- Assumes nothing.
use mathlib.Core.Path.{◌≡◌, refl}
use mathlib.Core.Bool.{Bool, true, false}
use Rattle.grammar.specs.Opcodes.{rule_of}
use Rattle.grammar.specs.Decoding.{accepts, escapes}
use Rattle.grammar.specs.declared.rule.Repeat.{Repeat}
use Rattle.grammar.specs.Opcodes.{Entry}
use Rattle.std.specs.Prelude.{None, Some}
use Rattle.grammar.proofs.Below.{some}

-- whether the prefixes are allowed before the opcode of an entry
unfoldable pub accepts_entry : Bool → Repeat → Entry → Bool
accepts_entry narrow repeat None = false
accepts_entry narrow repeat (Some rule) = accepts narrow repeat rule

-- they are before some opcode after 0F just where 0F may follow them
pub escapes_some : (narrow : Bool) (repeat : Repeat) → some (λ k. accepts_entry narrow repeat (rule_of k)) 0x100 0x100 ≡ escapes narrow repeat
unfolding some accepts_entry accepts escapes rule_of
escapes_some true Repeat.Absent = refl
escapes_some true Repeat.F2 = refl
escapes_some true Repeat.F3 = refl
escapes_some false Repeat.Absent = refl
escapes_some false Repeat.F2 = refl
escapes_some false Repeat.F3 = refl

-- and before some opcode alone any may stand
pub opcodes_accept : (narrow : Bool) (repeat : Repeat) → some (λ k. accepts_entry narrow repeat (rule_of k)) 0 0x100 ≡ true
unfolding some accepts_entry accepts rule_of
opcodes_accept true Repeat.Absent = refl
opcodes_accept true Repeat.F2 = refl
opcodes_accept true Repeat.F3 = refl
opcodes_accept false Repeat.Absent = refl
opcodes_accept false Repeat.F2 = refl
opcodes_accept false Repeat.F3 = refl
