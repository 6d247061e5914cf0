-- `sangolid::sangolid_run` meets its contract: a state of another length is refused, any other is run. Assumes nothing.
use Rattle.sangolid.proofs.States.{calls_misfit, calls_run, ran_fits}
use Rattle.run.specs.Steps.{fixed_to}
use Rattle.sangolid.proofs.sangolid_run.Goals as goal

pub returns-then-state-ne20 : goal.returns-then-state-ne20
returns-then-state-ne20 c =
    let a = c.args in calls_misfit a.state.now (fixed_to a.code.now a.constants.now) a.area.now a.budget c.if-state-ne20.true

pub state_of-requires : goal.state_of-requires
state_of-requires c = let a = c.args in ran_fits (fixed_to a.code.now a.constants.now) _ a.area.now a.budget c.run-ran.ensures

pub returns : goal.returns
returns c =
    let a = c.args in
    rw c.number.ensures
    (calls_run a.state.now (fixed_to a.code.now a.constants.now) a.area.now a.budget c.if-state-ne20.false c.lent.ensures c.run-ran.ensures (rw c.copy_from_slice.ensures.after c.state_of.ensures))
