use Rattle.async_executor.proofs.sleeper.SleeperIn.try_tick_any.Goals as goal

pub returns-clause-awake : goal.returns-clause-awake
returns-clause-awake g c = cc
