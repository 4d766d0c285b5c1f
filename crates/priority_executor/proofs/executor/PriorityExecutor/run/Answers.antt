use Rattle.priority_executor.proofs.executor.PriorityExecutor.run.Goals as goal

pub returns-in-Err-clause-refused : goal.returns-in-Err-clause-refused
returns-in-Err-clause-refused g c = cc
