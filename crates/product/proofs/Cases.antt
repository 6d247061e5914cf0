-- Document 01's cases 4, 5 and 6, as far as they are arithmetic. Assumes nothing.
use Rattle.std.proofs.Common.{◌≡◌, ℕ, List, [], ◌∷◌, Option, None, Some, refl}
use Rattle.width.specs.declared.Size.TheVariants.{Dword}
use Rattle.width.specs.Sizes.{bits, modulus, half}
use Rattle.width.specs.Numbers.{residue, rest, meaning, signed, outside}
use Rattle.product.specs.declared.Parts.{Parts}
use Rattle.product.specs.Divide.{joined, divided, divided_unsigned, divided_signed, unsigned_division, signed_division}

-- a division at 32 bits, and what it answers
pub data DivisionCase : Type 0 where
  DIV IDIV : (edx eax ecx : ℕ) → Option Parts → DivisionCase

-- the specification answers as the case says
unfoldable pub Holds : DivisionCase → Type 0
Holds (DIV edx eax ecx answer) = unsigned_division Dword edx eax ecx ≡ answer
Holds (IDIV edx eax ecx answer) = signed_division Dword edx eax ecx ≡ answer

-- all cases of a list hold
unfoldable pub All : List DivisionCase → Type 0
All [] = Unit
All (c ∷ cs) = Holds c × All cs

-- cases 4, 5 and 6
unfoldable pub cases : List DivisionCase
cases =
    DIV 0x0000_0001 0x0000_0000 0x0000_0001 None
    ∷ IDIV 0x8000_0000 0x0000_0000 0xFFFF_FFFF None
    ∷ IDIV 0xFFFF_FFFF 0xFFFF_FFF9 0x0000_0002 (Some (record { quotient = 0xFFFF_FFFD; remainder = 0xFFFF_FFFF }))
    ∷ []

-- every case of the table holds
pub cases_hold : All cases
unfolding
    All Holds cases bits modulus half residue rest meaning signed outside joined divided divided_unsigned divided_signed
    unsigned_division signed_division
cases_hold = (refl, (refl, (refl, tt)))
