-- Worked cases: what the specifications give for units of memory, bit tests, bit scans and double shifts. Assumes nothing.
use mathlib.Core.Path.{◌≡◌, refl}
use mathlib.Core.List.{List, [], ◌∷◌}
use Prim.Native.Nat.{ℕ}
use lib.Count.{ones, count_trailing_zeros, count_leading_zeros}
use Rattle.width.specs.declared.Size.{Size}
use Rattle.width.specs.declared.Size.TheVariants.{Word, Dword}
use Rattle.width.specs.Sizes.{bits, bytes, modulus, half}
use Rattle.width.specs.Numbers.{bit, bit_at, residue, rest, meaning, signed, negative}
use Rattle.flags.specs.Word.{word_of, flags_of}
use Rattle.flags.specs.Results.{undefined_flag, all_undefined, parity, resulting}
use Rattle.shift.specs.Values.{masked}
use Rattle.bits.specs.declared.BitTest.{BitTest}
use Rattle.bits.specs.declared.BitTest.TheVariants.{Bts, Btr, Btc}
use Rattle.bits.specs.declared.Scan.{Scan}
use Rattle.bits.specs.declared.Scan.TheVariants.{Bsf, Bsr}
use Rattle.bits.specs.declared.DoubleShift.{DoubleShift}
use Rattle.bits.specs.declared.DoubleShift.TheVariants.{Shld, Shrd}
use Rattle.bits.specs.Tests.{selected, with_bit, bit_after, test_value, test_flags, unit_address}
use Rattle.bits.specs.Scans.{scan_value, scan_flags}
use Rattle.bits.specs.Doubles.{double_moved, last_out, overflow_after, flags_after, double_value, double_flags}

-- numbers in, and what they give; words are flags words
pub data BitCase : Type 0 where
  -- the bit of this offset from 1000h is in the unit at the address
  unit : (w : Size) (offset address : ℕ) → BitCase
  test : (op : BitTest) (w : Size) (v offset word value word_after : ℕ) → BitCase
  scan : (op : Scan) (v word index word_after : ℕ) → BitCase
  -- of 0, the flags alone are defined
  scan_of_zero : (word word_after : ℕ) → BitCase
  double : (op : DoubleShift) (w : Size) (d s count word value word_after : ℕ) → BitCase

-- the specifications say what the case says
unfoldable pub Holds : BitCase → Type 0
Holds (unit w offset address) = unit_address w 0x1000 offset ≡ address
Holds (test op w v offset word value word_after) =
    (test_value op w v offset ≡ value) × (word_of (test_flags w v offset (flags_of word)) ≡ word_after)
Holds (scan op v word index word_after) = (scan_value op v ≡ index) × (word_of (scan_flags v (flags_of word)) ≡ word_after)
Holds (scan_of_zero word word_after) = word_of (scan_flags 0 (flags_of word)) ≡ word_after
Holds (double op w d s count word value word_after) =
    (double_value op w d s count ≡ value) × (word_of (double_flags op w d s count (flags_of word)) ≡ word_after)

-- each case of a table
unfoldable pub All : List BitCase → Type 0
All [] = Unit
All (c ∷ cs) = Holds c × All cs

-- offsets 31, 32, -1, -32, -33 of 32 bits; 32767, -32768, -1 of 16
unfoldable pub units : List BitCase
units =
    unit Dword 31 0x1000 ∷ unit Dword 32 0x1004 ∷ unit Dword 0xFFFFFFFF 0x0FFC
    ∷ unit Dword 0xFFFFFFE0 0x0FFC ∷ unit Dword 0xFFFFFFDF 0x0FF8
    ∷ unit Word 0x7FFF 0x1FFE ∷ unit Word 0x8000 0 ∷ unit Word 0xFFFF 0x0FFE ∷ []

-- each holds
pub units_hold : All units
unfolding Holds All units bits bytes modulus half residue rest meaning signed unit_address
units_hold = (refl, (refl, (refl, (refl, (refl, (refl, (refl, (refl, tt))))))))

-- offsets 35 at 32 bits, 31 at 16, and 0
unfoldable pub tests : List BitCase
tests =
    test Bts Dword 0 35 0x0003 8 0x0002 ∷ test Btc Word 0x8000 31 0x0002 0 0x0003 ∷ test Btr Dword 1 0 0x0CD6 0 0x0403 ∷ []

-- each holds
pub tests_hold : All tests
unfolding Holds All tests bits bit bit_at word_of flags_of undefined_flag selected with_bit bit_after test_value test_flags
tests_hold = ((refl, refl), ((refl, refl), ((refl, refl), tt)))

-- a number with ones in the middle, at the top, at the bottom; 0
unfoldable pub scans : List BitCase
scans =
    scan Bsf 0x50 0x0042 4 0x0002 ∷ scan Bsr 0x50 0x0042 6 0x0002 ∷ scan Bsf 0x80000000 0x0002 31 0x0002
    ∷ scan Bsr 0x80000000 0x0CD7 31 0x0402 ∷ scan Bsr 1 0x0002 0 0x0002 ∷ scan_of_zero 0x0002 0x0042 ∷ []

-- each holds
pub scans_hold : All scans
unfolding Holds All scans bit bit_at word_of flags_of undefined_flag count_trailing_zeros count_leading_zeros scan_value scan_flags
scans_hold = ((refl, refl), ((refl, refl), ((refl, refl), ((refl, refl), ((refl, refl), (refl, tt))))))

-- by 1, by the width, by one more, by 31; by 32 nothing changes
unfoldable pub doubles : List BitCase
doubles =
    double Shld Word 0x8001 0x8000 1 0x0002 0x0003 0x0807
    ∷ double Shld Word 0x1234 0xABCD 16 0x0002 0xABCD 0x0082
    ∷ double Shld Word 0x1234 0xABCD 17 0x0CD7 0x1234 0x0402
    ∷ double Shld Dword 3 0x80000001 31 0x0002 0xC0000000 0x0087
    ∷ double Shrd Word 0x0001 0x0001 1 0x0002 0x8000 0x0887
    ∷ double Shrd Word 0x8234 0x0000 16 0x0002 0x0000 0x0047
    ∷ double Shrd Word 0x1234 0xABCD 17 0x0CD7 0x1234 0x0402
    ∷ double Shrd Dword 0x40000000 3 31 0x0002 6 0x0007
    ∷ double Shrd Dword 0x12345678 0x9ABCDEF0 32 0x0CD7 0x12345678 0x0CD7
    ∷ []

-- each holds
pub doubles_hold : All doubles
unfolding Holds All doubles ones bits modulus half bit bit_at residue rest negative word_of flags_of undefined_flag all_undefined parity resulting masked double_moved last_out overflow_after flags_after double_value double_flags
doubles_hold = ((refl, refl), ((refl, refl), ((refl, refl), ((refl, refl), ((refl, refl), ((refl, refl), ((refl, refl), ((refl, refl), ((refl, refl), tt)))))))))
