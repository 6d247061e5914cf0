-- `width::bit_at` meets its contract: a number of 64 bits has no bit from 64 on. Assumes nothing.
use Rattle.std.proofs.Common.{arith, ◌≤◌, ◌^◌}
use Rattle.std.proofs.Math.Nat.{pow-le-pow_right, div-eq_of_lt}
use borrow.Author.Tests.{le-ltb}
use Rattle.width.specs.Numbers.{bit_at}
use Rattle.width.proofs.bit_at.Goals as goal

pub returns-else-k-lt64 : goal.returns-else-k-lt64
unfolding bit_at
returns-else-k-lt64 c =
    let high : 2 ^ 64 ≤ 2 ^ c.args.k = pow-le-pow_right {n = 2} (omega arith) c.if-k-lt64.false in
    rw (le-ltb _ _ c.if-k-lt64.false, div-eq_of_lt {n = c.args.n} {m = 2 ^ c.args.k} (omega (arith, high, c.ranges.n.fits)))
