-- `arith::logic` meets its contract. Assumes nothing.
use Rattle.arith.specs.Binary.{logic_flags}
use Rattle.arith.proofs.logic.Goals as goal

pub returns : goal.returns
unfolding logic_flags
returns c =
    let low = rw c.from.ensures at c.low-r.ensures in
    record {
      is = low.is;
      means = rw (c.resulting_word.ensures, c.undefined-af.ensures, c.unpack.ensures, low.is);
    }
