use Rattle.async_utilities.proofs.pooling.threads.PoolOf.join.Goals as goal

pub returns : goal.returns
returns g c = cc
