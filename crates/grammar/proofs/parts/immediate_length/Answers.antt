-- `grammar::parts::immediate_length` meets its contract, word by word.
-- Assumes nothing.
use borrow.Author.Tests.{eq-eqb, ne_eqb}
use Rattle.grammar.specs.Choice.{pick}
use Rattle.grammar.proofs.parts.immediate_length.Goals as goal

pub returns-then-field-eq0 : goal.returns-then-field-eq0
unfolding pick
returns-then-field-eq0 c = rw (c.in-Imm8For0.is, eq-eqb _ _ c.if-field-eq0.true)

pub returns-else-field-eq0 : goal.returns-else-field-eq0
unfolding pick
returns-else-field-eq0 c = rw (c.in-Imm8For0.is, ne_eqb _ _ c.if-field-eq0.false)

pub returns-then-field-eq0-2 : goal.returns-then-field-eq0-2
unfolding pick
returns-then-field-eq0-2 c = rw (c.in-ImmVFor0.is, eq-eqb _ _ c.if-field-eq0-2.true) c.operand_size-then-field-eq0-2.ensures

pub returns-else-field-eq0-2 : goal.returns-else-field-eq0-2
unfolding pick
returns-else-field-eq0-2 c = rw (c.in-ImmVFor0.is, ne_eqb _ _ c.if-field-eq0-2.false)
