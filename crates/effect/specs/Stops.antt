-- Why a step stops: its number, 1 to 7, and the address that comes with it. Assumes nothing.
use Rattle.std.specs.Prelude.{ℕ}
use Rattle.effect.specs.declared.stop.Stop.{Stop}
use Rattle.effect.specs.declared.stop.Stop.TheVariants.{Home, OutsideCode, Cut, Unknown, Read, Write, Divide}

-- the number of each reason
abbrev pub number_of : Stop → ℕ
number_of Home = 1
number_of OutsideCode = 2
number_of Cut = 3
number_of Unknown = 4
number_of (Read o) = 5
number_of (Write o) = 6
number_of Divide = 7

-- the address given with it, where EIP is as given
abbrev pub address_of : Stop → ℕ → ℕ
address_of Home eip = eip
address_of OutsideCode eip = eip
address_of Cut eip = eip
address_of Unknown eip = eip
address_of (Read o) eip = o.address
address_of (Write o) eip = o.address
address_of Divide eip = eip
