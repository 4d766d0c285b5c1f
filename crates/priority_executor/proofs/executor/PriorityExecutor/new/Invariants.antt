use Rattle.std.proofs.Common.{◌≡◌, vec_len}
use Rattle.std.specs.Prelude.{vec_capacity}
use Rattle.priority_executor.proofs.executor.PriorityExecutor.new.Given as goal

abbrev pub invariant-loop-made : goal.invariant-loop-made
invariant-loop-made g l = (vec_len l.levels ≡ l.made) × (vec_capacity l.levels ≡ g.row.N)
