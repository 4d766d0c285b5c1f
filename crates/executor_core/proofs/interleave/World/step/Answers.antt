use Rattle.executor_core.proofs.interleave.World.step.Goals as goal

pub returns-clause-step : goal.returns-clause-step
returns-clause-step g c = c.take_step-reply.ensures

pub returns-clause-promises : goal.returns-clause-promises
returns-clause-promises g c = c.keeps_promises.ensures
