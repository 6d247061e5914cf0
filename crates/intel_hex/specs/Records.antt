-- Records of Intel HEX, and the lines that spell them. Assumes nothing.
use Rattle.std.specs.Prelude.{List, [], ◌∷◌, ◌++◌, ℕ, ◌+◌, ◌-◌, ◌*◌, ◌≤◌, length}
use Rattle.intel_hex.specs.Lines.{LF, CR}

-- a hex digit in either case, and what it stands for; 48 is `0`, 65 is `A`, 97 is `a`
pub data Digit (c : ℕ) : ℕ → Type 0 where
  figure : 48 ≤ c → c ≤ 57 → Digit c (c - 48)
  capital : 65 ≤ c → c ≤ 70 → Digit c (c - 55)
  small : 97 ≤ c → c ≤ 102 → Digit c (c - 87)

-- what ends a line
pub data LineEnd : List ℕ → Type 0 where
  lf : LineEnd (LF ∷ [])
  cr_lf : LineEnd (CR ∷ LF ∷ [])

-- a text spells bytes, two digits each, up to the line's end
pub data Spells : List ℕ → List ℕ → Type 0 where
  end : {text : List ℕ} → LineEnd text → Spells text []
  byte : {a b x y : ℕ} {text bytes : List ℕ} → Digit a x → Digit b y → Spells text bytes → Spells (a ∷ b ∷ text) ((16 * x + y) ∷ bytes)

-- a record: its offset as two bytes, its type, its data bytes and its checksum
pub record Record : Type 0 where
  pub high : ℕ
  pub low : ℕ
  pub kind : ℕ
  pub bytes : List ℕ
  pub sum : ℕ

-- a record's bytes as they stand in its line: the count of the data bytes, offset, type, data, checksum
unfoldable pub in_order : Record → List ℕ
in_order r = length r.bytes ∷ r.high ∷ r.low ∷ r.kind ∷ (r.bytes ++ (r.sum ∷ []))

-- `:`
abbrev pub colon : ℕ
colon = 58

-- a line is exactly one record, from colon to checksum
pub data Reads : List ℕ → Record → Type 0 where
  reads : {text : List ℕ} {r : Record} → Spells text (in_order r) → Reads (colon ∷ text) r

-- bytes added up
unfoldable pub total : List ℕ → ℕ
total [] = 0
total (b ∷ bytes) = b + total bytes
