-- `bits::tests::with_bit` meets its contract: the old bit out, the new one in. Assumes nothing.
use borrow.Author.Rules.{rules}
use Rattle.width.specs.Numbers.{bit_at}
use Rattle.width.proofs.Truths.{truth}
use Rattle.bits.proofs.Exchanges.{held, exchanged, still_below, fits}
use Rattle.bits.proofs.tests.with_bit.Goals as goal

pub overflow_add-result : goal.overflow_add-result
overflow_add-result c =
    rw (c.from-into.ensures, c.from-2.ensures)
    (record { fits = fits _ _ _ _ c.requires (search rules) (truth _) })

pub overflow_sub-result : goal.overflow_sub-result
overflow_sub-result c =
    rw (c.from-into.ensures, c.from-out.ensures, c.bit_at.ensures, c.from.ensures, c.from-2.ensures)
    (held _ _ _ _ c.requires (search rules) (truth _) _ (truth _))

pub overflow_cast-result-3 : goal.overflow_cast-result-3
overflow_cast-result-3 c =
    let a = c.args in
    rw (
      c.from-into.ensures,
      c.from-out.ensures,
      c.bit_at.ensures,
      c.from.ensures,
      c.from-2.ensures,
      exchanged a.k a.v _ a.b c.requires (search rules) (truth a.b) _ (truth (bit_at a.k a.v)),
    )
    (record { fits = still_below a.k a.v _ a.b c.requires (search rules) (truth a.b) })

pub returns : goal.returns
returns c =
    rw (c.from-into.ensures, c.from-out.ensures, c.bit_at.ensures, c.from.ensures, c.from-2.ensures)
    (exchanged _ _ _ _ c.requires (search rules) (truth _) _ (truth _))
