-- The measure is the count.
use Rattle.text.proofs.Buffer.+hex.Given as goal

abbrev pub decreases-hex : goal.decreases-hex
decreases-hex l = l.count
