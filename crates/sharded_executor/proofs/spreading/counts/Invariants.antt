use Rattle.std.proofs.Common.{◌≡◌, vec_len}
use Rattle.std.specs.Prelude.{vec_capacity}
use Rattle.sharded_executor.proofs.spreading.counts.Given as goal

abbrev pub invariant-loop-made : goal.invariant-loop-made
invariant-loop-made l = (vec_len l.counts ≡ l.made) × (vec_capacity l.counts ≡ l.count)
