use Rattle.async_utilities.proofs.timers.after.After.move_to.Goals as goal

pub returns-in_default-clause-time : goal.returns-in_default-clause-time
returns-in_default-clause-time g c = cc

pub returns-in_default-2-clause-time : goal.returns-in_default-2-clause-time
returns-in_default-2-clause-time g c = cc

pub returns-clause-time : goal.returns-clause-time
returns-clause-time g c = cc
