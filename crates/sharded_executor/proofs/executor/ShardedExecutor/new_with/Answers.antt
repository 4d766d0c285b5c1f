use Rattle.sharded_executor.proofs.executor.ShardedExecutor.new_with.Goals as goal

pub returns-in-Ok-clause-bad : goal.returns-in-Ok-clause-bad
returns-in-Ok-clause-bad g c = λ bad. cc

pub returns-in-Err-clause-cause : goal.returns-in-Err-clause-cause
returns-in-Err-clause-cause g c = (λ is. cc, λ bad. cc)
