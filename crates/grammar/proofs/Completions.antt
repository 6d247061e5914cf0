-- A ModR/M byte that each rule allows, under the prefixes that the rule takes.
-- Assumes nothing.
use mathlib.Core.Path.{◌≡◌, refl}
use mathlib.Core.Bool.{Bool, true, false}
use Prim.Native.Nat.{ℕ, ◌<◌}
use native.Mathlib.Omega.{arith}
use lib.Dec.{T, ltb}
use borrow.Author.Tests.{ltb-true, ltb-false}
use Rattle.grammar.specs.Choice.{pick}
use Rattle.grammar.specs.Opcodes.{forms, rule_of}
use Rattle.grammar.specs.Grammar.{reg_of, allows, allows66}
use Rattle.grammar.specs.Decoding.{has_modrm}
use Rattle.grammar.specs.declared.rule.ModRM.{ModRM}
use Rattle.grammar.specs.declared.rule.Rule.{Rule}
use Rattle.grammar.specs.Opcodes.{Entry}
use Rattle.std.specs.Prelude.{None, Some}
use Rattle.grammar.proofs.Below.{every, below}
use Rattle.grammar.proofs.Entries.{ends, lists_past, without_rule}

-- memory, and reg field 0, or 4 where 0 is not allowed
unfoldable pub completing : ModRM → ℕ
completing g = pick (allows g 0) 0 0x20

-- it is allowed
pub allows_completing : (g : ModRM) → has_modrm g ≡ true → allows g (completing g) ≡ true
unfolding completing pick
allows_completing ModRM.Absent e = e
allows_completing ModRM.Any e = refl
allows_completing ModRM.Memory e = refl
allows_completing ModRM.AllBut6 e = refl
allows_completing ModRM.Only0 e = refl
allows_completing ModRM.AllBut1 e = refl
allows_completing ModRM.Only01 e = refl
allows_completing ModRM.Only01246 e = refl
allows_completing ModRM.Only4567 e = refl

-- and a byte
pub completing_small : (g : ModRM) → completing g < 256
unfolding completing pick
completing_small g = by (allows g 0)
  where
    by : (c : Bool) → pick c 0 0x20 < 256
    by true = omega arith
    by false = omega arith

-- where 66, or its absence, is allowed with reg field 0, it is with that byte's
suits : Bool → Entry → Bool
suits narrow None = true
suits narrow (Some rule) = pick (allows66 rule.size narrow 0) (allows66 rule.size narrow (reg_of (completing rule.modrm))) true

-- a test over the rules
suits_below : (narrow : Bool) → T (every (λ k. suits narrow (rule_of k)) 0 512)
unfolding suits completing pick rule_of
suits_below true = tt
suits_below false = tt

-- so of each opcode's rule; past the table there is none
suited : (narrow : Bool) (k : ℕ) → T (suits narrow (rule_of k))
unfolding suits forms ends
suited narrow k = by (ltb k 512) refl
  where
    by : (c : Bool) → ltb k 512 ≡ c → T (suits narrow (rule_of k))
    by true e = below (λ k. suits narrow (rule_of k)) 512 (suits_below narrow) k (ltb-true k 512 e)
    by false e = rw (without_rule k (lists_past forms 512 k tt (ltb-false k 512 e))) tt

-- 66, or its absence, is allowed with that byte
pub completing_66 : (narrow : Bool) (k : ℕ) {rule : Rule} → rule_of k ≡ Some rule → allows66 rule.size narrow 0 ≡ true
    → allows66 rule.size narrow (reg_of (completing rule.modrm)) ≡ true
unfolding suits pick
completing_66 narrow k {rule} listed zero = held _ zero (rw listed at (suited narrow k))
  where
    held : {c : Bool} (d : Bool) → c ≡ true → T (pick c d true) → d ≡ true
    held true e t = refl
    held false e t = absurd (rw e at t)
