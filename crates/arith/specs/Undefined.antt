-- The flags that 003 leaves undefined after ADD OR ADC SBB AND SUB XOR CMP. Assumes nothing.
use Rattle.std.specs.Prelude.{List, [], ◌∷◌}
use Rattle.flags.specs.Undefined.{Flag, AF}
use Rattle.arith.specs.declared.Binary.{Binary}
use Rattle.arith.specs.declared.Binary.TheVariants.{Add, Or, Adc, Sbb, And, Sub, Xor, Cmp}

-- 003 "AND", "OR", "XOR": "the state of the AF flag is undefined"
unfoldable pub binary_undefined : Binary → List Flag
binary_undefined Add = []
binary_undefined Or = AF ∷ []
binary_undefined Adc = []
binary_undefined Sbb = []
binary_undefined And = AF ∷ []
binary_undefined Sub = []
binary_undefined Xor = AF ∷ []
binary_undefined Cmp = []
