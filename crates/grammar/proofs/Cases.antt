-- Document 01's case 13 and the cases of M-100 and M-106 hold of the grammar: one test that antt computes over the table of their bytes.
-- Assumes nothing.
use mathlib.Core.Path.{◌≡◌, refl}
use mathlib.Core.Bool.{Bool, true, false}
use mathlib.Core.List.{List, [], ◌∷◌}
use Prim.Native.Nat.{ℕ}
use lib.Dec.{T, eqb, eqb→eq}
use lib.ListN.{length}
use lib.Seq.{take-length}
use Rattle.grammar.specs.Choice.{both}
use Rattle.grammar.specs.Opcodes.{rule_of}
use Rattle.grammar.specs.Grammar.{sib_length, bare_length}
use Rattle.width.specs.LittleEndian.{little_endian}
use Rattle.grammar.specs.Answers.{displaced}
use Rattle.grammar.specs.Reading.{run, bytes_then}
use Rattle.grammar.specs.Decoding.{tail_tree, address_tree, modrm_tree, operand_tree, accepts, entry_tree, opcode_tree, escapes, escape_tree, first_tree, size_tree, repeat_tree, tree, answer, found, decode_of}
use Rattle.grammar.specs.Cases.{Saying, cut, unknown, one, BytesCase, Holds, All, case13, cases_m_100, cases_m_106}
use Rattle.grammar.specs.Answers.{Found}
use Rattle.std.specs.Prelude.{Ok, Err}
use Rattle.grammar.specs.declared.instruction.Fault.{Fault}
use Rattle.grammar.proofs.Below.{both_left, both_right}
use Rattle.grammar.proofs.Answered.{decode_answers, found_standing}

-- what is found is as the verdict says, of n bytes
agrees : Saying → ℕ → Found → Bool
agrees cut n (Ok d) = false
agrees cut n (Err Fault.Cut) = true
agrees cut n (Err Fault.Unknown) = false
agrees unknown n (Ok d) = false
agrees unknown n (Err Fault.Cut) = false
agrees unknown n (Err Fault.Unknown) = true
agrees one n (Ok d) = eqb d.length n
agrees one n (Err Fault.Cut) = false
agrees one n (Err Fault.Unknown) = false

-- so the verdict holds of the grammar
holds : (v : Saying) (bytes : List ℕ) (r : Found) → decode_of bytes 0 ≡ r → T (agrees v (length bytes) r) → Holds v bytes
unfolding agrees Holds
holds cut bytes (Err Fault.Cut) e t = rw e at (decode_answers bytes 0)
holds unknown bytes (Err Fault.Unknown) e t = rw e at (decode_answers bytes 0)
holds one bytes (Ok d) e t =
    let s = found_standing bytes 0 d e in
    rw (eqb→eq d.length (length bytes) t, take-length bytes) at s.own
holds cut bytes (Ok d) e t = absurd t
holds cut bytes (Err Fault.Unknown) e t = absurd t
holds unknown bytes (Ok d) e t = absurd t
holds unknown bytes (Err Fault.Cut) e t = absurd t
holds one bytes (Err Fault.Cut) e t = absurd t
holds one bytes (Err Fault.Unknown) e t = absurd t

-- all of a table agrees
test : List BytesCase → Bool
test [] = true
test (c ∷ cs) = both (agrees c.says (length c.bytes) (decode_of c.bytes 0)) (test cs)

-- so all of it holds
tested : (cs : List BytesCase) → T (test cs) → All cs
unfolding test All
tested [] t = tt
tested (c ∷ cs) t =
    let first = agrees c.says (length c.bytes) (decode_of c.bytes 0) in
    (holds c.says c.bytes (decode_of c.bytes 0) refl (both_left first (test cs) t), tested cs (both_right first (test cs) t))

-- the tables agree
passes : T (both (test case13) (both (test cases_m_100) (test cases_m_106)))
unfolding test case13 cases_m_100 cases_m_106 agrees decode_of found answer run tree size_tree repeat_tree first_tree escape_tree escapes opcode_tree entry_tree accepts operand_tree modrm_tree address_tree tail_tree bytes_then sib_length bare_length little_endian displaced rule_of
passes = tt

-- case 13
pub case13_holds : All case13
case13_holds = tested case13 (both_left (test case13) _ passes)

-- M-100's
pub cases_m_100_hold : All cases_m_100
cases_m_100_hold = tested cases_m_100 (both_left (test cases_m_100) (test cases_m_106) (both_right (test case13) _ passes))

-- and M-106's
pub cases_m_106_hold : All cases_m_106
cases_m_106_hold = tested cases_m_106 (both_right (test cases_m_100) (test cases_m_106) (both_right (test case13) _ passes))
