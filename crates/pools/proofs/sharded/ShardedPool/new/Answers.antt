use Rattle.std.proofs.Common.{◌∙◌, ap, vec_len}
use Rattle.pools.proofs.sharded.ShardedPool.new.Goals as goal

pub returns-clause-threads : goal.returns-clause-threads
returns-clause-threads g c = c.in_ok-inner.ensures.count

pub returns-clause-shards : goal.returns-clause-shards
returns-clause-shards g c =
    ap (λ shards. vec_len shards.executor.shards) c.in_ok-inner.ensures.executor ∙ c.in_ok-executor.ensures.count
