-- Jumps, calls and loops: the displacement that their immediate is.
-- Assumes nothing.
use Rattle.std.specs.Prelude.{Option, Some, None, [], ◌∷◌, ℕ, ◌%◌}
use Rattle.grammar.specs.Opcodes.{rule_of}
use Rattle.grammar.specs.Answers.{displaced}
use Rattle.grammar.specs.declared.rule.Immediate.{Immediate}
use Rattle.grammar.specs.Opcodes.{Entry}
use Rattle.grammar.specs.declared.instruction.Decoded.{Decoded}

-- a 32-bit number to add to the next instruction's place, where there is one
abbrev pub Relative : Type 0
Relative = Option ℕ

-- rel8 is extended by sign to 32 bits; any other immediate is no displacement
abbrev pub relative_by : Immediate → ℕ → Relative
relative_by Immediate.Absent n = None
relative_by Immediate.Imm8 n = None
relative_by Immediate.Imm16 n = None
relative_by Immediate.Imm32 n = None
relative_by Immediate.ImmV n = None
relative_by Immediate.Address n = None
relative_by Immediate.Rel8 n = Some (displaced (n % 256 ∷ []))
relative_by Immediate.Rel32 n = Some n
relative_by Immediate.Imm8For0 n = None
relative_by Immediate.ImmVFor0 n = None

-- by an opcode's entry
abbrev pub relative_in : Entry → ℕ → Relative
relative_in None n = None
relative_in (Some rule) n = relative_by rule.immediate n

-- by what an instruction's rule says of its immediate
unfoldable pub relative_of : Decoded → Relative
relative_of d = relative_in (rule_of d.opcode) d.immediate
