-- Case 14 of document 01 holds of the block check's rules. Assumes nothing.
use mathlib.Core.Path.{◌≡◌, refl, ap, sym, ◌∙◌, subst}
use mathlib.Core.Logic.{inl, ⊎_elim}
use mathlib.Core.Bool.{false}
use mathlib.Core.List.Memᴰ
use mathlib.Core.List.{List, [], ◌∷◌}
use Prim.Native.Nat.{ℕ}
use native.Mathlib.Omega.{arith}
use lib.ListN.{length, take}
use Rattle.grammar.specs.Choice.{pick}
use Rattle.grammar.specs.Opcodes.{rule_of, entry_of, listed, forms, with66}
use Rattle.grammar.specs.Grammar.{Instruction, done, next}
use Rattle.width.specs.LittleEndian.{little_endian}
use Rattle.grammar.specs.Answers.{Answers, displaced}
use Rattle.grammar.specs.Reading.{run, bytes_then}
use Rattle.grammar.specs.Decoding.{tree, first_tree, opcode_tree, entry_tree, accepts, operand_tree, modrm_tree, tail_tree, found, answer, decode_of}
use Rattle.grammar.specs.Relative.{relative_of}
use Rattle.grammar.specs.declared.rule.Repeat.{Repeat}
use Rattle.grammar.specs.declared.instruction.Decoded.{Decoded}
use Rattle.std.specs.Prelude.{Ok, Err}
use Rattle.grammar.specs.declared.instruction.Fault.{Fault}
use Rattle.std.specs.Prelude.{Some}
use Rattle.grammar.proofs.Answered.{decode_answers, found_standing}
use Rattle.blockcheck.specs.Blocks.{starts_from, code_base, target_of, Lands, Arrives, arrives, Lawful, Good, Astray, marked, Reached, Judged, cut_at, astray_at, accepted}
use Rattle.blockcheck.specs.Cases.{Holds, All, case_14}
use Rattle.blockcheck.proofs.Cuts.{same_length}
use Rattle.blockcheck.proofs.Extents.{prefix_of}
use Rattle.blockcheck.proofs.Seeking.{landed}

-- an instruction of one opcode in numbers: so many bytes, the last of them its immediate where there are two
plain : ℕ → ℕ → ℕ → Decoded
plain size opcode n =
    record { length = size; opcode = opcode; narrow = false; repeat = Repeat.Absent; modrm = 0; sib = 0; displacement = 0; immediate = n }

-- what decode gives at the places of the four blocks, and by how much the jumps lead on
record Decodings : Type 0 where
  pub back : decode_of (0xEB ∷ 0xFE ∷ []) 0 ≡ Ok (plain 2 0xEB 0xFE)
  pub on : decode_of (0xEB ∷ 0x00 ∷ []) 0 ≡ Ok (plain 2 0xEB 0x00)
  pub into : decode_of (0xEB ∷ 0xFF ∷ 0x90 ∷ []) 0 ≡ Ok (plain 2 0xEB 0xFF)
  pub nop : decode_of (0x90 ∷ []) 0 ≡ Ok (plain 1 0x90 0)
  pub before_cut : decode_of (0xEB ∷ 0xFF ∷ 0xC0 ∷ []) 0 ≡ Ok (plain 2 0xEB 0xFF)
  pub cut : decode_of (0xC0 ∷ []) 0 ≡ Err Fault.Cut
  pub back_by : relative_of (plain 2 0xEB 0xFE) ≡ Some 0xFFFFFFFE
  pub on_by : relative_of (plain 2 0xEB 0x00) ≡ Some 0
  pub into_by : relative_of (plain 2 0xEB 0xFF) ≡ Some 0xFFFFFFFF

-- all by computing
decodings : Decodings
unfolding decode_of found answer run tree pick first_tree opcode_tree entry_tree rule_of entry_of listed forms accepts with66 operand_tree modrm_tree tail_tree bytes_then little_endian displaced relative_of plain
decodings =
    record {
      back = refl;
      on = refl;
      into = refl;
      nop = refl;
      before_cut = refl;
      cut = refl;
      back_by = refl;
      on_by = refl;
      into_by = refl;
    }

-- the instruction at the front of some code
own : (code : List ℕ) (d : Decoded) → decode_of code 0 ≡ Ok d → Instruction (take d.length code)
own code d e = (found_standing code 0 d e).own

-- it is lawful exactly if its displacement x lands on one of the starts
module _ (starts code : List ℕ) (d : Decoded) (e : decode_of code 0 ≡ Ok d) (x : ℕ) (by : relative_of d ≡ Some x) where
  -- by what its displacement is
  lawful_as : Arrives starts 0 d.length (Some x) ≡ Lawful starts 0 (take d.length code) (own code d e)
  unfolding Lawful own
  lawful_as =
      let s = found_standing code 0 d e in
      let long = ap (λ (y : Decoded). y.length) (sym s.numbered) ∙ same_length s.own in
      let leads = sym by ∙ ap relative_of (sym s.numbered) in
      ap (λ (n : ℕ). Arrives starts 0 n (Some x)) long ∙ ap (Arrives starts 0 (length (take d.length code))) leads

  -- if it lands, it is lawful
  lands_lawful : Lands starts (target_of 0 d.length x) → Lawful starts 0 (take d.length code) (own code d e)
  lands_lawful l = subst (λ (t : Type 0). t) lawful_as (arrives l)

  -- if it is lawful, it lands
  lawful_lands : Lawful starts 0 (take d.length code) (own code d e) → Lands starts (target_of 0 d.length x)
  lawful_lands l = landed (subst (λ (t : Type 0). t) (sym lawful_as) l)

-- EB FE leads to itself
jumps_back : (marks : List ℕ) → length marks ≡ 2 → Judged (0xEB ∷ 0xFE ∷ []) marks 0 1 (1 ∷ 0 ∷ [])
unfolding plain starts_from marked Good Lands target_of code_base
jumps_back marks h =
    let first = own (0xEB ∷ 0xFE ∷ []) (plain 2 0xEB 0xFE) decodings.back in
    accepted (record { some = omega arith; most = omega arith }) h (next first done)
    (lands_lawful (0 ∷ []) (0xEB ∷ 0xFE ∷ []) (plain 2 0xEB 0xFE) decodings.back 0xFFFFFFFE decodings.back_by (0, Memᴰ.head refl, refl), tt)

-- EB 00 leads to the code's end
jumps_out : (marks : List ℕ) → length marks ≡ 2 → Judged (0xEB ∷ 0x00 ∷ []) marks 23 0 (0 ∷ 0 ∷ [])
unfolding plain starts_from marked Astray Lands target_of code_base
jumps_out marks h =
    let first = own (0xEB ∷ 0x00 ∷ []) (plain 2 0xEB 0x00) decodings.on in
    let lands = lawful_lands (0 ∷ []) (0xEB ∷ 0x00 ∷ []) (plain 2 0xEB 0x00) decodings.on 0 decodings.on_by in
    astray_at (record { some = omega arith; most = omega arith }) h (next first done)
    (inl (λ l. let (s, m, e) = lands l in omega (arith, Memᴰ.eq_of_singleton m), refl))

-- EB FF leads into itself, past its first byte
jumps_in : (marks : List ℕ) → length marks ≡ 3 → Judged (0xEB ∷ 0xFF ∷ 0x90 ∷ []) marks 23 0 (0 ∷ 0 ∷ 0 ∷ [])
unfolding plain starts_from marked Astray Lands target_of code_base
jumps_in marks h =
    let first = own (0xEB ∷ 0xFF ∷ 0x90 ∷ []) (plain 2 0xEB 0xFF) decodings.into in
    let second = own (0x90 ∷ []) (plain 1 0x90 0) decodings.nop in
    let lands = lawful_lands (0 ∷ 2 ∷ []) (0xEB ∷ 0xFF ∷ 0x90 ∷ []) (plain 2 0xEB 0xFF) decodings.into 0xFFFFFFFF decodings.into_by in
    astray_at (record { some = omega arith; most = omega arith }) h (next first (next second done))
    (inl (
      λ l.
          let (s, m, e) = lands l in
          ⊎_elim (λ (z : s ≡ 0). omega arith) (λ n. omega (arith, Memᴰ.eq_of_singleton n)) (Memᴰ.cases_cons m),
      refl,
    ))

-- after EB FF, C0 is cut
ends_cut : (marks : List ℕ) → length marks ≡ 3 → Judged (0xEB ∷ 0xFF ∷ 0xC0 ∷ []) marks 21 2 (0 ∷ 0 ∷ 0 ∷ [])
unfolding plain
ends_cut marks h =
    let first = own (0xEB ∷ 0xFF ∷ 0xC0 ∷ []) (plain 2 0xEB 0xFF) decodings.before_cut in
    let reached : Reached (0xEB ∷ 0xFF ∷ 0xC0 ∷ []) (0xC0 ∷ []) =
    record { before = 0xEB ∷ 0xFF ∷ []; pieces = (0xEB ∷ 0xFF ∷ []) ∷ []; cut = next first done; joined = refl } in
    cut_at (record { some = omega arith; most = omega arith }) h reached (omega arith)
    (prefix_of (subst (Answers (0xC0 ∷ [])) decodings.cut (decode_answers (0xC0 ∷ []) 0)))

-- all of case 14 holds of the written rules
pub case_14_holds : All case_14
unfolding All Holds case_14
case_14_holds = (jumps_back, (jumps_out, (jumps_in, (ends_cut, tt))))
