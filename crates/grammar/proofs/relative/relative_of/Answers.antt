-- `grammar::relative::relative_of` meets its contract: the rules say the same of the opcodes that have rel8, of those that have rel32, and of the others. Assumes nothing.
use borrow.Author.Rules.{rules}
use Rattle.grammar.specs.Opcodes.{lists}
use Rattle.grammar.proofs.Relatives.{short, long, other}
use Rattle.grammar.proofs.relative.relative_of.Goals as goal

pub returns-in-112-to-127 : goal.returns-in-112-to-127
unfolding lists
returns-in-112-to-127 c = rw c.extended.ensures (short c.args.d (search rules))

pub returns-in-232 : goal.returns-in-232
unfolding lists
returns-in-232 c = long c.args.d (search rules) (search rules)

pub returns-in-232-2 : goal.returns-in-232-2
unfolding lists
returns-in-232-2 c = long c.args.d (search rules) (search rules)

pub returns-in_default : goal.returns-in_default
unfolding lists
returns-in_default c = other c.args.d (search rules) (search rules)

pub returns-in_default-2 : goal.returns-in_default-2
unfolding lists
returns-in_default-2 c = other c.args.d (search rules) (search rules)

pub returns-in_default-3 : goal.returns-in_default-3
unfolding lists
returns-in_default-3 c = other c.args.d (search rules) (search rules)

pub returns-in_default-4 : goal.returns-in_default-4
unfolding lists
returns-in_default-4 c = other c.args.d (search rules) (search rules)

pub returns-in_default-5 : goal.returns-in_default-5
unfolding lists
returns-in_default-5 c = other c.args.d (search rules) (search rules)
