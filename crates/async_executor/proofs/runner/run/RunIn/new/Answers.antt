use Rattle.async_executor.proofs.runner.run.RunIn.new.Goals as goal

pub returns-clause-rest : goal.returns-clause-rest
returns-clause-rest g c = c.new_with.ensures.rest
