use Rattle.std.proofs.Common.{◌≡◌, vec_len}
use Rattle.std.specs.Prelude.{All, vec_capacity}
use Rattle.sharded_executor.proofs.executor.shards.Given as goal

abbrev pub invariant-loop-made : goal.invariant-loop-made
invariant-loop-made g l =
    (vec_len l.shards ≡ l.made) × (vec_capacity l.shards ≡ l.count) × All (λ shard. shard.inner.limits ≡ l.limits) l.shards.items
