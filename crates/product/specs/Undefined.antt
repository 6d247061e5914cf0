-- The flags that 003 leaves undefined after multiplication and division. Assumes nothing.
use Rattle.std.specs.Prelude.{List, [], ◌∷◌}
use Rattle.flags.specs.Undefined.{Flag, PF, AF, ZF, SF, status_flags}

-- 003 "MUL", "IMUL": "The SF, ZF, AF, and PF flags are undefined"
unfoldable pub product_undefined : List Flag
product_undefined = SF ∷ ZF ∷ AF ∷ PF ∷ []

-- 003 "DIV", "IDIV": "The CF, OF, SF, ZF, AF, and PF flags are undefined"
unfoldable pub division_undefined : List Flag
division_undefined = status_flags
