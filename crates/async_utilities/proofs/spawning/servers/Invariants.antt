use Rattle.std.proofs.Common.{◌≡◌, vec_len}
use Rattle.std.specs.Prelude.{vec_capacity}
use Rattle.async_utilities.proofs.spawning.servers.Given as goal

-- so many servers were made, and there is room for all
abbrev pub invariant-loop-made : goal.invariant-loop-made
invariant-loop-made _ l = (vec_len l.servers ≡ l.made) × (vec_capacity l.servers ≡ l.fn.limits.tasks)
