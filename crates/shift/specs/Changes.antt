-- What shifts and rotates do to the flags: 003 "SAL/SAR/SHL/SHR" and "RCL/RCR/ROL/ROR", with document 01's choices. Assumes nothing.
use Rattle.std.specs.Prelude.{Bool, false, ℕ, ◌-◌, pos, if◌then◌else◌, nat_lt, ◌==◌}
use Rattle.width.specs.declared.Size.{Size}
use Rattle.width.specs.Sizes.{bits}
use Rattle.width.specs.Numbers.{bit_at, rest, negative}
use Rattle.flags.specs.declared.Flags.{Flags}
use Rattle.flags.specs.Conditions.{differs}
use Rattle.flags.specs.Results.{undefined_flag, resulting}
use Rattle.shift.specs.declared.Shift.{Shift}
use Rattle.shift.specs.declared.Shift.TheVariants.{Rol, Ror, Rcl, Rcr, Shl, Shr, Sar}
use Rattle.shift.specs.Values.{masked, through_left, through_right, shifted}

-- SHL and SHR by the width or more leave CF undefined
unfoldable pub unless_all_out : Size → ℕ → Bool → Bool → Bool
unless_all_out w k out old = if nat_lt k (bits w) then out else undefined_flag old

-- CF after a count k that is not 0: of a rotate the bit that came round, of a shift the last bit out,
-- which is the end bit after all one-bit shifts but the last
unfoldable pub carry_after : Shift → Size → ℕ → ℕ → Bool → Bool
carry_after Rol w v k c = bit_at 0 (shifted Rol w v k c)
carry_after Ror w v k c = negative w (shifted Ror w v k c)
carry_after Rcl w v k c = bit_at (bits w) (through_left w v k c)
carry_after Rcr w v k c = bit_at (bits w) (through_right w v k c)
carry_after Shl w v k c = unless_all_out w k (negative w (shifted Shl w v (k - 1) c)) c
carry_after Shr w v k c = unless_all_out w k (bit_at 0 (shifted Shr w v (k - 1) c)) c
carry_after Sar w v k c = bit_at 0 (shifted Sar w v (k - 1) c)

-- OF after count 1: left, the result's top bit differs from CF after; right by rotate, the result's two top bits differ;
-- SHR, the operand's top bit; SAR, clear. v is the operand, r the result, c CF after
unfoldable pub overflow_once : Shift → Size → ℕ → ℕ → Bool → Bool
overflow_once Rol w v r c = differs (negative w r) c
overflow_once Ror w v r c = differs (negative w r) (bit_at (bits w - 2) r)
overflow_once Rcl w v r c = differs (negative w r) c
overflow_once Rcr w v r c = differs (negative w r) (bit_at (bits w - 2) r)
overflow_once Shl w v r c = differs (negative w r) c
overflow_once Shr w v r c = negative w v
overflow_once Sar w v r c = false

-- OF is defined only for count 1, and undefined for every other count but 0
unfoldable pub overflow_after : Shift → Size → ℕ → ℕ → Flags → Bool
overflow_after op w v k f =
    if k == 1 then overflow_once op w v (shifted op w v k f.cf) (carry_after op w v k f.cf)
    else undefined_flag f.of

-- a rotate changes CF and OF alone
unfoldable pub rotate_flags : Bool → Bool → Flags → Flags
rotate_flags c o f =
    record {
      cf = c;
      pf = f.pf;
      af = f.af;
      zf = f.zf;
      sf = f.sf;
      df = f.df;
      of = o;
    }

-- which flags change: of a shift SF, ZF and PF by the result too, and AF is undefined. r is the result, c and o are CF and OF after
unfoldable pub changed : Shift → Size → ℕ → Bool → Bool → Flags → Flags
changed Rol w r c o f = rotate_flags c o f
changed Ror w r c o f = rotate_flags c o f
changed Rcl w r c o f = rotate_flags c o f
changed Rcr w r c o f = rotate_flags c o f
changed Shl w r c o f = resulting w r c (undefined_flag f.af) o f
changed Shr w r c o f = resulting w r c (undefined_flag f.af) o f
changed Sar w r c o f = resulting w r c (undefined_flag f.af) o f

-- the flags after a count k of 1 to 31, for an operand v of the size
unfoldable pub flags_after : Shift → Size → ℕ → ℕ → Flags → Flags
flags_after op w v k f =
    changed op w (shifted op w v k f.cf) (carry_after op w v k f.cf) (overflow_after op w v k f) f

-- the flags after a shift or rotate of v, taken at the size, by any count: count 0 changes none
unfoldable pub shift_flags : Shift → Size → ℕ → ℕ → Flags → Flags
shift_flags op w v count f = if masked count == 0 then f else flags_after op w (rest w (pos v)) (masked count) f
