-- The bytes that stand before an opcode are none themselves.
-- Assumes nothing.
use mathlib.Core.Path.{◌≡◌, refl}
use Rattle.grammar.specs.Opcodes.{rule_of}
use Rattle.std.specs.Prelude.{None}

-- 0F, 66, F2 and F3
pub unlisted_0f : rule_of 0x0F ≡ None
unfolding rule_of
unlisted_0f = refl

pub unlisted_66 : rule_of 0x66 ≡ None
unfolding rule_of
unlisted_66 = refl

pub unlisted_f2 : rule_of 0xF2 ≡ None
unfolding rule_of
unlisted_f2 = refl

pub unlisted_f3 : rule_of 0xF3 ≡ None
unfolding rule_of
unlisted_f3 = refl
