use Rattle.std.proofs.Common.{◌≡◌, None}
use Rattle.std.specs.List.{AllWithin}
use Rattle.priority_executor.proofs.tick.LevelSleepers+Sleeper+F+W+R+N.leave.Given as goal

abbrev pub invariant-loop-level : goal.invariant-loop-level
invariant-loop-level g l = AllWithin (λ s. s.inner.number ≡ None) l.self.levels.items 0 l.level
