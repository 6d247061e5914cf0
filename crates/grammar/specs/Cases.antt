-- Document 01's case 13 and cases of M-100 and M-106: what some bytes are, by the grammar.
-- Assumes nothing.
use Rattle.std.specs.Prelude.{List, [], ◌∷◌, ℕ}
use Rattle.grammar.specs.Grammar.{Instruction}
use Rattle.grammar.specs.Answers.{Answers}
use Rattle.std.specs.Prelude.{Err}
use Rattle.grammar.specs.declared.instruction.Fault.{Fault}

-- what is said of some bytes
pub data Saying : Type 0 where
  cut : Saying
  unknown : Saying
  one : Saying

pub record BytesCase : Type 0 where
  pub bytes : List ℕ
  pub says : Saying

abbrev pub case : List ℕ → Saying → BytesCase
case bytes says = record { bytes = bytes; says = says }

-- cut; no such instruction; one instruction
unfoldable pub Holds : Saying → List ℕ → Type 0
Holds cut bytes = Answers bytes (Err Fault.Cut)
Holds unknown bytes = Answers bytes (Err Fault.Unknown)
Holds one bytes = Instruction bytes

-- each case holds
unfoldable pub All : List BytesCase → Type 0
All [] = Unit {0}
All (c ∷ cs) = Holds c.says c.bytes × All cs

-- 66, 0F and F3 alone; 66 E8, 82, F3 90, 8D C0, 66 66; F3 66 A5 and 66 F3 A5
unfoldable pub case13 : List BytesCase
case13 =
    case (0x66 ∷ []) cut
    ∷ case (0x0F ∷ []) cut
    ∷ case (0xF3 ∷ []) cut
    ∷ case (0x66 ∷ 0xE8 ∷ []) unknown
    ∷ case (0x82 ∷ []) unknown
    ∷ case (0xF3 ∷ 0x90 ∷ []) unknown
    ∷ case (0x8D ∷ 0xC0 ∷ []) unknown
    ∷ case (0x66 ∷ 0x66 ∷ []) unknown
    ∷ case (0xF3 ∷ 0x66 ∷ 0xA5 ∷ []) one
    ∷ case (0x66 ∷ 0xF3 ∷ 0xA5 ∷ []) one
    ∷ []

-- M-100: 0F BA has /4 to /7 alone, and imm8; 0F A4 has imm8, 0F A5 none; 66 is allowed, F2 and F3 are not; 0F 50 is none
unfoldable pub cases_m_100 : List BytesCase
cases_m_100 =
    case (0x0F ∷ 0xBA ∷ 0xC0 ∷ 0x01 ∷ []) unknown
    ∷ case (0x0F ∷ 0xBA ∷ 0xD8 ∷ 0x01 ∷ []) unknown
    ∷ case (0x0F ∷ 0xBA ∷ 0xE0 ∷ 0x01 ∷ []) one
    ∷ case (0x0F ∷ 0xBA ∷ 0xF8 ∷ 0x01 ∷ []) one
    ∷ case (0x0F ∷ 0xBA ∷ []) cut
    ∷ case (0x0F ∷ 0xBA ∷ 0xE0 ∷ []) cut
    ∷ case (0x0F ∷ 0xA4 ∷ 0xC0 ∷ []) cut
    ∷ case (0x0F ∷ 0xA4 ∷ 0xC0 ∷ 0x01 ∷ []) one
    ∷ case (0x0F ∷ 0xA5 ∷ 0xC0 ∷ []) one
    ∷ case (0x66 ∷ 0x0F ∷ 0xBC ∷ 0xC0 ∷ []) one
    ∷ case (0xF3 ∷ 0x0F ∷ 0xBC ∷ 0xC0 ∷ []) unknown
    ∷ case (0x0F ∷ 0x4F ∷ 0xC0 ∷ []) one
    ∷ case (0x0F ∷ 0x50 ∷ 0xC0 ∷ []) unknown
    ∷ []

-- M-106: all but 0F 2F ask for F3, so F3 0F goes on, and no other opcode after 0F takes F3; 66 and F2 are not allowed; F3 0F 5A and 51 are none
unfoldable pub cases_m_106 : List BytesCase
cases_m_106 =
    case (0xF3 ∷ 0x0F ∷ []) cut
    ∷ case (0xF3 ∷ 0x0F ∷ 0x58 ∷ []) cut
    ∷ case (0xF3 ∷ 0x0F ∷ 0x58 ∷ 0xC1 ∷ []) one
    ∷ case (0xF3 ∷ 0x0F ∷ 0x10 ∷ 0x05 ∷ 0x00 ∷ 0x00 ∷ 0x10 ∷ 0x00 ∷ []) one
    ∷ case (0x0F ∷ 0x58 ∷ 0xC1 ∷ []) unknown
    ∷ case (0x0F ∷ 0x10 ∷ 0xC1 ∷ []) unknown
    ∷ case (0xF2 ∷ 0x0F ∷ 0x58 ∷ 0xC1 ∷ []) unknown
    ∷ case (0x66 ∷ 0xF3 ∷ 0x0F ∷ 0x58 ∷ 0xC1 ∷ []) unknown
    ∷ case (0xF3 ∷ 0x66 ∷ 0x0F ∷ 0x58 ∷ 0xC1 ∷ []) unknown
    ∷ case (0x66 ∷ 0x0F ∷ 0x2F ∷ 0xC1 ∷ []) unknown
    ∷ case (0xF3 ∷ 0x0F ∷ 0x2F ∷ 0xC1 ∷ []) unknown
    ∷ case (0x0F ∷ 0x2F ∷ 0xC1 ∷ []) one
    ∷ case (0x0F ∷ 0x2F ∷ []) cut
    ∷ case (0xF3 ∷ 0x0F ∷ 0xAF ∷ 0xC1 ∷ []) unknown
    ∷ case (0xF3 ∷ 0x0F ∷ 0x5A ∷ 0xC1 ∷ []) unknown
    ∷ case (0xF3 ∷ 0x0F ∷ 0x51 ∷ 0xC1 ∷ []) unknown
    ∷ case (0x66 ∷ 0xF3 ∷ 0x0F ∷ []) unknown
    ∷ case (0xF3 ∷ 0x66 ∷ 0x0F ∷ []) unknown
    ∷ case (0xF2 ∷ 0x0F ∷ []) unknown
    ∷ case (0xF3 ∷ 0x90 ∷ []) unknown
    ∷ []
