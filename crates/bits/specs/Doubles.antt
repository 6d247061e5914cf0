-- Double shifts: 003 "SHLD", "SHRD", with document 02's choices. Assumes nothing.
use Rattle.std.specs.Prelude.{Bool, ℕ, ◌+◌, ◌-◌, ◌*◌, ◌/◌, ◌%◌, ◌^◌, pos, if◌then◌else◌, nat_le, ◌==◌}
use Rattle.width.specs.declared.Size.{Size}
use Rattle.width.specs.Sizes.{bits, modulus}
use Rattle.width.specs.Numbers.{bit_at, rest, negative}
use Rattle.flags.specs.declared.Flags.{Flags}
use Rattle.flags.specs.Conditions.{differs}
use Rattle.flags.specs.Results.{undefined_flag, all_undefined, resulting}
use Rattle.shift.specs.Values.{masked}
use Rattle.bits.specs.declared.DoubleShift.{DoubleShift}
use Rattle.bits.specs.declared.DoubleShift.TheVariants.{Shld, Shrd}

-- d and s as one double number, moved by k of 0 to the width. Left: s stands below d, and the upper half is the result;
-- right: s stands above d, and the lower half is
unfoldable pub double_moved : DoubleShift → Size → ℕ → ℕ → ℕ → ℕ
double_moved Shld w d s k = (d * modulus w + s) * 2 ^ k / modulus w % modulus w
double_moved Shrd w d s k = (s * modulus w + d) / 2 ^ k % modulus w

-- CF after a count k of 1 to the width: the last bit that left d
unfoldable pub last_out : DoubleShift → Size → ℕ → ℕ → Bool
last_out Shld w d k = bit_at (bits w - k) d
last_out Shrd w d k = bit_at (k - 1) d

-- OF: for count 1 the sign changed from d to the result r; undefined for others
unfoldable pub overflow_after : Size → ℕ → ℕ → ℕ → Bool → Bool
overflow_after w d r k old = if k == 1 then differs (negative w d) (negative w r) else undefined_flag old

-- the flags after a count k of 1 to the width: SF, ZF and PF by the result, AF undefined
unfoldable pub flags_after : DoubleShift → Size → ℕ → ℕ → ℕ → Flags → Flags
flags_after op w d s k f =
    resulting w (double_moved op w d s k) (last_out op w d k) (undefined_flag f.af)
    (overflow_after w d (double_moved op w d s k) k f.of)
    f

-- the value of d shifted with s behind it, both taken at the size, by any count: over the width d keeps its value
unfoldable pub double_value : DoubleShift → Size → ℕ → ℕ → ℕ → ℕ
double_value op w d s count =
    if nat_le (masked count) (bits w) then double_moved op w (rest w (pos d)) (rest w (pos s)) (masked count) else rest w (pos d)

-- and the flags: count 0 changes none; over the width all are undefined
unfoldable pub double_flags : DoubleShift → Size → ℕ → ℕ → ℕ → Flags → Flags
double_flags op w d s count f =
    if masked count == 0 then f
    else (if nat_le (masked count) (bits w) then flags_after op w (rest w (pos d)) (rest w (pos s)) (masked count) f else all_undefined f)
