-- Document 01's cases 1, 2 and 3, their arithmetic, computed from the definitions. Assumes nothing.
use mathlib.Core.Path.{◌≡◌, refl}
use mathlib.Core.Bool.{false}
use mathlib.Core.List.{List, [], ◌∷◌}
use Prim.Native.Nat.{ℕ}
use lib.Count.{ones, ones_in}
use Rattle.width.specs.declared.Size.TheVariants.{Byte, Dword}
use Rattle.width.specs.Sizes.{bits, modulus, half}
use Rattle.width.specs.Numbers.{bit, bit_at, residue, rest, beyond, meaning, signed, outside, negative}
use Rattle.flags.specs.Results.{parity, resulting}
use Rattle.flags.specs.Word.{word_of, flags_of}
use Rattle.arith.specs.declared.Binary.TheVariants.{Add}
use Rattle.arith.specs.declared.Single.TheVariants.{Dec}
use Rattle.arith.specs.Sums as Sums
use Rattle.arith.specs.Sums.{value_of, carries, adjusts, overflows}
use Rattle.arith.specs.Binary.{binary_value, binary_flags, sum_flags}
use Rattle.arith.specs.Single.{single_value, single_flags}

-- a value and a flags word that are computed, and those that the document gives
record ResultCase : Type 0 where
  value : ℕ
  word : ℕ
  given_value : ℕ
  given_word : ℕ

abbrev Holds : List ResultCase → Type 0
Holds [] = Unit
Holds (k ∷ ks) = (k.value ≡ k.given_value) × (k.word ≡ k.given_word) × Holds ks

abbrev cases : List ResultCase
cases =
    -- 04 01, AL = FFh: AL 00h, flags 0057h
    record {
      value = binary_value Add Byte 0xFF 1 false;
      word = word_of (binary_flags Add Byte 0xFF 1 (flags_of 0x0002));
      given_value = 0x00;
      given_word = 0x0057;
    }
    -- 04 01, AL = 7Fh: AL 80h, flags 0892h
    ∷ record {
      value = binary_value Add Byte 0x7F 1 false;
      word = word_of (binary_flags Add Byte 0x7F 1 (flags_of 0x0002));
      given_value = 0x80;
      given_word = 0x0892;
    }
    -- 48, EAX = 0, flags 0003h: EAX FFFFFFFFh, flags 0097h
    ∷ record {
      value = single_value Dec Dword 0;
      word = word_of (single_flags Dec Dword 0 (flags_of 0x0003));
      given_value = 0xFFFF_FFFF;
      given_word = 0x0097;
    }
    ∷ []

pub all : Holds cases
unfolding bits modulus half bit bit_at residue rest beyond meaning signed outside negative ones ones_in parity resulting word_of flags_of value_of carries adjusts overflows Sums.flags_of sum_flags binary_value binary_flags single_value single_flags
all = (refl, refl, (refl, refl, (refl, refl, tt)))
