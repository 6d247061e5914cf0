-- The flags that 003 leaves undefined after shifts and rotates. Assumes nothing.
use Rattle.std.specs.Prelude.{List, [], ◌∷◌, ◌++◌, ℕ, if◌then◌else◌, nat_lt, ◌==◌}
use Rattle.width.specs.declared.Size.{Size}
use Rattle.width.specs.Sizes.{bits}
use Rattle.flags.specs.Undefined.{Flag, CF, AF, OF}
use Rattle.shift.specs.declared.Shift.{Shift}
use Rattle.shift.specs.declared.Shift.TheVariants.{Rol, Ror, Rcl, Rcr, Shl, Shr, Sar}
use Rattle.shift.specs.Values.{masked}

-- OF, for every count but 1 (and 0)
unfoldable pub overflow_undefined : ℕ → List Flag
overflow_undefined k = if k == 1 then [] else OF ∷ []

-- CF of SHL and SHR, by the width or more
unfoldable pub carry_undefined : Size → ℕ → List Flag
carry_undefined w k = if nat_lt k (bits w) then [] else CF ∷ []

-- beside OF: after a shift AF, and CF as above; after a rotate none
unfoldable pub others_undefined : Shift → Size → ℕ → List Flag
others_undefined Rol w k = []
others_undefined Ror w k = []
others_undefined Rcl w k = []
others_undefined Rcr w k = []
others_undefined Shl w k = AF ∷ carry_undefined w k
others_undefined Shr w k = AF ∷ carry_undefined w k
others_undefined Sar w k = AF ∷ []

-- after a shift or rotate by any count: "If the count is 0, the flags are not affected"
unfoldable pub shift_undefined : Shift → Size → ℕ → List Flag
shift_undefined op w count = if masked count == 0 then [] else overflow_undefined (masked count) ++ others_undefined op w (masked count)
