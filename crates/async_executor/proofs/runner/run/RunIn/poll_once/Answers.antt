use Rattle.async_executor.proofs.runner.run.RunIn.poll_once.Goals as goal

pub returns-in-Ready-clause-ended : goal.returns-in-Ready-clause-ended
returns-in-Ready-clause-ended g c = c.unregister.ensures.ended
