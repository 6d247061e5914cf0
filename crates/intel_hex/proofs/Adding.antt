-- Sums of bytes, a byte at a time. Assumes nothing.
use mathlib.Core.Path.{◌≡◌}
use mathlib.Core.List.{List, [], ◌∷◌, ◌++◌}
use Prim.Native.Nat.{ℕ, ◌+◌, ◌*◌, ◌%◌}
use native.Mathlib.Numerals.{add-one}
use native.Mathlib.Omega.{arith}
use Rattle.intel_hex.specs.Records.{in_order, Reads, total}
use Rattle.intel_hex.specs.Reading.{byte_at, bytes_at, record_in, Summed}
use Rattle.intel_hex.proofs.Forms.{in_order_lem}
use Rattle.intel_hex.proofs.Spelling.{bytes_more}

-- one byte more, added up
pub total_more : (bytes : List ℕ) (b : ℕ) → total (bytes ++ (b ∷ [])) ≡ total bytes + b
unfolding total
total_more [] b = omega arith
total_more (x ∷ bytes) b = rw (total_more bytes b) (omega arith)

-- one more of a line
pub sum_goes : (line : List ℕ) (k sum : ℕ) → sum ≡ total (bytes_at line 1 k) % 256
    → (sum + byte_at line (1 + 2 * k)) % 256 ≡ total (bytes_at line 1 (k + 1)) % 256
sum_goes line k sum e = rw (add-one k, bytes_more line 1 k, total_more) (omega arith)

module _ (line : List ℕ) (count : ℕ) (is : count ≡ byte_at line 1) where
  -- a record's bytes add up to 0
  pub added : Reads line (record_in line count) → total (bytes_at line 1 (count + 5)) % 256 ≡ 0 → Summed line count
  added is_record e = record { reads = is_record; sums = rw (in_order_lem line count is) e }

  -- they add up to something else
  pub not_added : (total (bytes_at line 1 (count + 5)) % 256 ≡ 0 → ⊥) → total (in_order (record_in line count)) % 256 ≡ 0 → ⊥
  not_added bad e = bad (rw (in_order_lem line count is) at e)
