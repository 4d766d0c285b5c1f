use Rattle.async_executor.proofs.sleeper.SleeperIn.leave.Goals as goal

pub returns-clause-told : goal.returns-clause-told
returns-clause-told g c = cc
