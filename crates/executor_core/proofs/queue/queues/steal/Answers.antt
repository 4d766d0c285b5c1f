use Rattle.executor_core.proofs.queue.queues.steal.Goals as goal

pub returns-clause-source : goal.returns-clause-source
returns-clause-source c = c.move_first.ensures.source

pub returns-clause-target : goal.returns-clause-target
returns-clause-target c = c.move_first.ensures.target
