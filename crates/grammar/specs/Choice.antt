-- Choice by a test, and tests joined.
-- Assumes nothing.
use Rattle.std.specs.Prelude.{Bool, true, false}

-- the first where the test holds, the second where it fails
unfoldable pub pick : {A : Type 0} → Bool → A → A → A
pick true a b = a
pick false a b = b

-- both tests hold
abbrev pub both : Bool → Bool → Bool
both true b = b
both false b = false

-- one of two tests holds
abbrev pub either : Bool → Bool → Bool
either true b = true
either false b = b
