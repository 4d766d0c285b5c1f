use Rattle.std.proofs.Common.{◌≡◌, ◌+◌, vec_len}
use Rattle.std.specs.Prelude.{vec_capacity}
use Rattle.sharded_executor.proofs.members.add_sleepers.Given as goal

abbrev pub invariant-loop-shard : goal.invariant-loop-shard
invariant-loop-shard g l =
    (vec_len l.sleepers ≡ vec_len l.fn.sleepers + l.shard-index) × (vec_capacity l.sleepers ≡ vec_capacity l.fn.sleepers)
