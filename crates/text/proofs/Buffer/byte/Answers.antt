-- The byte is stored where it fits.
use mathlib.Core.Path.{refl}
use Rattle.text.proofs.Writing.{wrote_inside, wrote_outside}
use Rattle.text.proofs.Buffer.byte.Goals as goal

pub returns-then-self : goal.returns-then-self
returns-then-self c = record { wrote = wrote_inside _ c.if-self.true; same_area = refl }

pub returns-else-self : goal.returns-else-self
returns-else-self c = record { wrote = wrote_outside _ c.if-self.false; same_area = refl }
