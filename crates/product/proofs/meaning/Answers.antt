-- `product::meaning` meets its contract: below h itself, from h on what it lacks of h + h, below zero. Assumes nothing.
use Rattle.std.proofs.Common.{◌+◌, ◌-◌, arith, rules, le-ltb, lt-ltb}
use Rattle.product.proofs.Magnitudes.{under}
use Rattle.product.specs.Magnitude.{with_sign}
use Rattle.width.proofs.Differences.{same}
use Rattle.width.specs.Numbers.{meaning}
use Rattle.product.proofs.meaning.Goals as goal

pub returns-then-v-h : goal.returns-then-v-h
unfolding meaning with_sign
returns-then-v-h c =
    record { is = rw (lt-ltb _ _ c.if-v-h.true); most = search rules }

pub returns-else-v-h : goal.returns-else-v-h
unfolding meaning
returns-else-v-h c =
    let a = c.args
    in
    record {
      is =
          rw (le-ltb _ _ c.if-v-h.false, under)
          (same 0 (a.h - (a.v - a.h)) a.v (a.h + a.h) (omega arith));
      most = search rules;
    }
