-- Replacing a part of a 32-bit number, in the sums that the code makes. Assumes nothing.
use mathlib.Core.Path.{◌≡◌}
use Prim.Native.Nat.{ℕ, ◌+◌, ◌-◌, ◌*◌, ◌%◌, ◌^◌, ◌<◌}
use native.Mathlib.Omega.{arith}
use Rattle.machine.specs.Registers.{bits_from, replaced}

pub low_byte : (v x : ℕ) → v < 2 ^ 32 → v - v % 0x100 + x % 0x100 ≡ replaced 0 8 v x
unfolding bits_from replaced
low_byte v x h = omega arith

pub high_byte : (v x : ℕ) → v < 2 ^ 32 → v - v % 0x1_0000 + x % 0x100 * 0x100 + v % 0x100 ≡ replaced 8 8 v x
unfolding bits_from replaced
high_byte v x h = omega arith

pub low_word : (v x : ℕ) → v < 2 ^ 32 → v - v % 0x1_0000 + x % 0x1_0000 ≡ replaced 0 16 v x
unfolding bits_from replaced
low_word v x h = omega arith

pub whole : (v x : ℕ) → x < 2 ^ 32 → x ≡ replaced 0 32 v x
unfolding bits_from replaced
whole v x h = omega arith
