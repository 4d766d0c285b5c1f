use Rattle.std.proofs.Common.{◌≡◌, true}
use Rattle.std.specs.Prelude.{is_some}
use Rattle.std.specs.List.{AllWithin}
use Rattle.priority_executor.proofs.tick.LevelSleepers+Sleeper+F+W+R+N.sleep.Given as goal

abbrev pub invariant-loop-level : goal.invariant-loop-level
invariant-loop-level g l = AllWithin (λ s. is_some s.inner.number ≡ true) l.self.levels.items 0 l.level
