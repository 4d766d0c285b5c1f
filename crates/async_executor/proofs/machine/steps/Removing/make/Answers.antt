use Rattle.async_executor.proofs.machine.steps.Removing.make.Goals as goal

pub returns-clause-list : goal.returns-clause-list
returns-clause-list g c = c.remove-change.ensures.list

pub returns-clause-change : goal.returns-clause-change
returns-clause-change g c = c.remove-change.ensures.answer
