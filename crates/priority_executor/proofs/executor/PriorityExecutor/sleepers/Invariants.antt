use Rattle.std.proofs.Common.{◌≡◌, None, vec_len}
use Rattle.std.specs.Prelude.{All, map, take, vec_capacity}
use Rattle.priority_executor.proofs.executor.PriorityExecutor.sleepers.Given as goal

abbrev pub invariant-loop-level : goal.invariant-loop-level
invariant-loop-level g l =
    (vec_len l.levels ≡ l.level-index) × (vec_capacity l.levels ≡ g.row.N)
    × All (λ s. s.inner.number ≡ None) l.levels.items
    × (map (λ s. s.inner.executor.now) l.levels.items ≡ map (λ level. level.inner) (take l.level-index l.self.levels.items))
