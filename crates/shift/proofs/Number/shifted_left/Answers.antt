-- `shift::Number::shifted_left` meets its contract: 64 bits lose nothing of it. Assumes nothing.
use lib.Pow.{shl_exact}
use borrow.Author.Rules.{rules}
use Rattle.shift.proofs.Number.shifted_left.Goals as goal

pub returns : goal.returns
returns c =
    let a = c.args
    in
    rw (← c.from.ensures, ← shl_exact {a = c.from.result} 32 a.k 64 (search rules) (search rules)) c.low.ensures
