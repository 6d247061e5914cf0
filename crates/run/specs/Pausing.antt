-- A run in two parts: what the parts and the whole hand back. Assumes nothing.
use Rattle.std.specs.Prelude.{◌≡◌, ◌+◌}
use Rattle.run.specs.Runs.{HandedBack}

-- the whole ends as the second does, and its steps are those of both
pub record Joined (first second whole : HandedBack) : Type 0 where
  pub machine : whole.ran.machine ≡ second.ran.machine
  pub area : whole.area ≡ second.area
  pub number : whole.ran.number ≡ second.ran.number
  pub address : whole.ran.address ≡ second.ran.address
  pub steps : whole.ran.steps ≡ first.ran.steps + second.ran.steps
