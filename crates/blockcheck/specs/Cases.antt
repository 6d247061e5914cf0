-- Case 14 of document 01: what the block check answers for four small blocks. Assumes nothing.
use Rattle.std.specs.Prelude.{◌≡◌, List, [], ◌∷◌, ℕ, length}
use Rattle.blockcheck.specs.Blocks.{Judged}

-- a block, the paper's number and value for it, and the marks left
pub record BlockCase : Type 0 where
  pub code : List ℕ
  pub number : ℕ
  pub value : ℕ
  pub after : List ℕ

-- the block is judged so, whatever marks of its code's length are lent
unfoldable pub Holds : BlockCase → Type 0
Holds c = (marks : List ℕ) → length marks ≡ length c.code → Judged c.code marks c.number c.value c.after

-- every case of a list
unfoldable pub All : List BlockCase → Type 0
All [] = Unit
All (c ∷ cases) = Holds c × All cases

-- EB FE accepted, 1; EB 00 and EB FF 90: 23 at 0; EB FF C0: 21 at 2
unfoldable pub case_14 : List BlockCase
case_14 =
    record { code = 0xEB ∷ 0xFE ∷ []; number = 0; value = 1; after = 1 ∷ 0 ∷ [] }
    ∷ record { code = 0xEB ∷ 0x00 ∷ []; number = 23; value = 0; after = 0 ∷ 0 ∷ [] }
    ∷ record { code = 0xEB ∷ 0xFF ∷ 0x90 ∷ []; number = 23; value = 0; after = 0 ∷ 0 ∷ 0 ∷ [] }
    ∷ record { code = 0xEB ∷ 0xFF ∷ 0xC0 ∷ []; number = 21; value = 2; after = 0 ∷ 0 ∷ 0 ∷ [] }
    ∷ []
