-- Document 01's cases 7 and 8: what they say of value and flags, from the specifications. Assumes nothing.
use mathlib.Core.Path.{◌≡◌, refl, sym}
use mathlib.Core.Bool.{Bool, true, false}
use mathlib.Core.List.{List, [], ◌∷◌}
use Prim.Native.Nat.{ℕ, ◌+◌, ◌/◌, ◌%◌, ◌^◌, ◌<◌}
use native.Mathlib.Nat.{mod-eq_of_lt, zero-add}
use native.Mathlib.Omega.{arith}
use borrow.Author.Tests.{eq-eqb, ne_eqb}
use Rattle.width.specs.declared.Size.TheVariants.{Byte}
use Rattle.width.specs.Sizes.{bits, modulus, half}
use Rattle.width.specs.Numbers.{bit, bit_at, residue, rest, negative}
use Rattle.flags.specs.declared.Flags.{Flags}
use Rattle.flags.specs.Word.{word_of, flags_of}
use Rattle.flags.specs.Results.{undefined_flag}
use Rattle.shift.specs.declared.Shift.{Shift}
use Rattle.shift.specs.declared.Shift.TheVariants.{Rol, Rcl}
use Rattle.shift.specs.Values.{masked, turned_right, turned_left, with_carry, through_left, shifted, shift_value}
use Rattle.shift.specs.Changes.{
  carry_after,
  overflow_once,
  overflow_after,
  rotate_flags,
  changed,
  flags_after,
  shift_flags,
}
use Rattle.shift.proofs.Turns.{turned_round}

-- an instruction on AL by a count
pub data ShiftCase : Type 0 where
  -- from this AL and flags word to this AL and flags word
  gives : (op : Shift) (count al word al_after word_after : ℕ) → ShiftCase
  -- AL and the flags stay, whatever they are, where OF is clear
  keeps : (op : Shift) (count : ℕ) → ShiftCase

-- the specifications say what the case says
unfoldable pub Holds : ShiftCase → Type 0
Holds (gives op count al word al_after word_after) =
    (shift_value op Byte al count (flags_of word).cf ≡ al_after)
    × (word_of (shift_flags op Byte al count (flags_of word)) ≡ word_after)
Holds (keeps op count) =
    (al : ℕ) (f : Flags)
    → al < 2 ^ 8
    → f.of ≡ false
    → (shift_value op Byte al count f.cf ≡ al) × (shift_flags op Byte al count f ≡ f)

-- each case of a table
unfoldable pub All : List ShiftCase → Type 0
All [] = Unit
All (c ∷ cs) = Holds c × All cs

-- D0 C0; C0 D0 09; C0 C0 08
unfoldable pub cases : List ShiftCase
cases = gives Rol 1 0x80 0x0002 0x01 0x0803 ∷ keeps Rcl 9 ∷ gives Rol 8 0x01 0x0002 0x01 0x0003 ∷ []

-- nine bits turned by nine stay, so AL and CF do
nine : (c : Bool) (al : ℕ) → al < 2 ^ 8 → (through_left Byte al 9 c % 2 ^ 8 ≡ al) × (bit_at 8 (through_left Byte al 9 c) ≡ c)
unfolding bits modulus bit bit_at turned_left with_carry through_left
nine true al h =
    rw (turned_round 9 (2 ^ 8 + al) (omega arith))
    (omega arith, eq-eqb ((2 ^ 8 + al) / 2 ^ 8 % 2) 1 (omega arith))
nine false al h =
    rw (turned_round 9 (0 + al) (omega arith), zero-add)
    (omega arith, ne_eqb (al / 2 ^ 8 % 2) 1 (λ (e : al / 2 ^ 8 % 2 ≡ 1). omega arith))

-- C0 D0 09, for every AL and all flags with OF clear
stays : Holds (keeps Rcl 9)
unfolding Holds bits modulus residue rest undefined_flag masked shifted shift_value carry_after overflow_after rotate_flags changed flags_after shift_flags
stays al f h o = let n = nine f.cf al h in rw (mod-eq_of_lt h) (n.0, rw (n.1, sym o))

-- each case of the table holds
pub all_hold : All cases
unfolding Holds All cases bits modulus half bit bit_at residue rest negative word_of flags_of undefined_flag masked turned_right turned_left shifted shift_value carry_after overflow_once overflow_after rotate_flags changed flags_after shift_flags
all_hold = ((refl, refl), (stays, ((refl, refl), tt)))
