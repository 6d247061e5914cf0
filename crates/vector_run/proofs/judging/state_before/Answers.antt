-- `vector_run::judging::state_before` meets its contract: ten words of the line and eight more, and two for steps and address. Assumes nothing.
use Rattle.vector_run.specs.Cases.{words_from, state_before}
use Rattle.vector_run.proofs.judging.state_before.Goals as goal

pub returns : goal.returns
unfolding state_before words_from
returns c =
    simp (c.number_32-18.ensures, c.number_32-17.ensures, c.number_32-16.ensures, c.number_32-15.ensures, c.number_32-14.ensures, c.number_32-13.ensures, c.number_32-12.ensures, c.number_32-11.ensures, c.number_32-10.ensures, c.number_32-9.ensures, c.number_32-8.ensures, c.number_32-7.ensures, c.number_32-6.ensures, c.number_32-5.ensures, c.number_32-4.ensures, c.number_32-3.ensures, c.number_32-2.ensures, c.number_32.ensures)
