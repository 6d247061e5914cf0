-- A hex file written for some code: 04 0001 first, records of 16 bytes, 01 last, in capitals, each line ended by LF. Assumes nothing.
use Rattle.std.specs.Prelude.{List, [], ◌∷◌, ◌++◌, ℕ, zero, suc, ◌+◌, ◌-◌, ◌/◌, ◌%◌, length, take, drop}
use Rattle.text.specs.Digits.{hex_bytes}
use Rattle.intel_hex.specs.Lines.{LF}
use Rattle.intel_hex.specs.Records.{Record, in_order, colon, total}

-- the checksum of bytes: with it they add up to 0 modulo 256
unfoldable pub checksum : List ℕ → ℕ
checksum bytes = (256 - total bytes % 256) % 256

-- a record of some type, offset and data, with its checksum
unfoldable pub record_of : ℕ → ℕ → List ℕ → Record
record_of kind offset bytes =
    record {
      high = offset / 256;
      low = offset % 256;
      kind = kind;
      bytes = bytes;
      sum = checksum (length bytes ∷ offset / 256 ∷ offset % 256 ∷ kind ∷ bytes);
    }

-- its line
unfoldable pub line_of : Record → List ℕ
line_of r = colon ∷ (hex_bytes (in_order r) ++ (LF ∷ []))

-- the lines of code from an offset on, 16 bytes each, by at most so many records
unfoldable pub data_lines : ℕ → ℕ → List ℕ → List ℕ
data_lines zero offset code = []
data_lines (suc n) offset [] = []
data_lines (suc n) offset (b ∷ code) = line_of (record_of 0 offset (b ∷ take 15 code)) ++ data_lines n (offset + 16) (drop 15 code)

-- the file
unfoldable pub written : List ℕ → List ℕ
written code = line_of (record_of 4 0 (0 ∷ 1 ∷ [])) ++ (data_lines (length code) 0 code ++ line_of (record_of 1 0 []))
