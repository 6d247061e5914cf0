-- The flags that 003 leaves undefined after bit tests, bit scans and double shifts. Assumes nothing.
use Rattle.std.specs.Prelude.{List, [], ◌∷◌, ◌++◌, ℕ, if◌then◌else◌, nat_le, ◌==◌}
use Rattle.width.specs.declared.Size.{Size}
use Rattle.width.specs.Sizes.{bits}
use Rattle.flags.specs.Undefined.{Flag, CF, PF, AF, ZF, SF, OF, status_flags}
use Rattle.shift.specs.Values.{masked}
use Rattle.shift.specs.Undefined.{overflow_undefined}

-- 003 "BT", "BTC", "BTR", "BTS": "The OF, SF, ZF, AF, and PF flags are undefined"
unfoldable pub test_undefined : List Flag
test_undefined = OF ∷ SF ∷ ZF ∷ AF ∷ PF ∷ []

-- 003 "BSF", "BSR": "The CF, OF, SF, AF, and PF, flags are undefined"
unfoldable pub scan_undefined : List Flag
scan_undefined = CF ∷ OF ∷ SF ∷ AF ∷ PF ∷ []

-- 003 "SHLD", "SHRD": after count 0 none, over the width all; else AF, and OF unless the count is 1
unfoldable pub double_undefined : Size → ℕ → List Flag
double_undefined w count =
    if masked count == 0 then []
    else (if nat_le (masked count) (bits w) then overflow_undefined (masked count) ++ AF ∷ [] else status_flags)
