-- `bits::doubles::double` meets its contract: a shift by the size's bits, on 64 bits. Assumes nothing.
use native.Mathlib.Omega.{arith}
use borrow.Author.Rules.{rules}
use Rattle.shift.proofs.Turns.{few}
use Rattle.bits.proofs.Moved.{above, double_fits}
use Rattle.bits.proofs.doubles.double.Goals as goal

pub overflow_shl-result : goal.overflow_shl-result
overflow_shl-result c =
    let sizes = few c.args.w in omega arith

pub overflow_add-result : goal.overflow_add-result
overflow_add-result c =
    let a = c.args
    in
    rw (c.bits.ensures, c.from.ensures, c.from-2.ensures, above a.w a.high (search rules))
    (record { fits = double_fits a.w a.high a.low (search rules) c.requires })

pub returns : goal.returns
returns c =
    let a = c.args in rw (c.bits.ensures, c.from.ensures, c.from-2.ensures, above a.w a.high (search rules))
