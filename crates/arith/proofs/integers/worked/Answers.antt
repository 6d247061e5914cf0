-- `worked` meets its contract: the value, and its flags with CF, AF and OF. Assumes nothing.
use Rattle.arith.specs.Sums.{flags_of}
use Rattle.arith.proofs.integers.worked.Goals as goal

pub returns : goal.returns
unfolding flags_of
returns g c =
    record {
      is = c.value-v.ensures.is;
      means =
          rw (
            c.resulting_word.ensures,
            c.overflows-of.ensures,
            c.adjusts-af.ensures,
            c.value-v.ensures.is,
          );
    }
