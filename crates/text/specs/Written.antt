-- Bytes written at a place of a lent buffer: what stands in the buffer then, and the next place. Assumes nothing.
use Rattle.std.specs.Prelude.{◌≡◌, List, ℕ, ◌+◌, ◌-◌, min, length}
use Rattle.std.proofs.lemmas.List.Edits.{sets}
use Rattle.text.specs.declared.Buffer.{Buffer}

-- the buffer with the bytes from the place on; those past its end are left out
unfoldable pub written : List ℕ → ℕ → List ℕ → List ℕ
written out at bytes = sets out at bytes

-- the place after as many of n bytes as fit into a buffer of this size
unfoldable pub place_after : ℕ → ℕ → ℕ → ℕ
place_after size at n = at + min n (size - at)

-- the bytes are written at the place: `after` is the buffer then, and `next` the place after them
pub record Wrote (out : List ℕ) (at : ℕ) (bytes : List ℕ) (next : ℕ) (after : List ℕ) : Type 0 where
  pub holds : after ≡ written out at bytes
  pub place : next ≡ place_after (length out) at (length bytes)

-- a buffer after some bytes: they are written at its place, in the area that it was lent
pub record Adds (before : Buffer) (bytes : List ℕ) (after : Buffer) : Type 0 where
  pub wrote : Wrote before.area.now before.at bytes after.at after.area.now
  pub same_area : after.area.ghost_name ≡ before.area.ghost_name
