-- A pause between two calls of a run: what they and one whole call come to. Assumes nothing.
use Rattle.std.specs.Prelude.{◌≡◌, ℕ, ◌+◌, take, slice_index}
use Rattle.run.specs.Steps.{Fixed}
use Rattle.sangolid.specs.Interface.{Call, call_of}

-- a further call, with the state and the data that one has left, and code and constants
unfoldable pub again : Call → Fixed → ℕ → Call
again left fixed budget = call_of left.state fixed left.area budget

-- the whole leaves the machine's eighteen words, the address and the data that the second leaves, and returns its number; the steps are those of both
pub record Continues (first second whole : Call) : Type 0 where
  pub machine : take 18 whole.state ≡ take 18 second.state
  pub steps : slice_index whole.state 18 ≡ slice_index first.state 18 + slice_index second.state 18
  pub address : slice_index whole.state 19 ≡ slice_index second.state 19
  pub area : whole.area ≡ second.area
  pub number : whole.number ≡ second.number
