use Rattle.std.proofs.lemmas.Bool.{false≢true}
use Rattle.priority_executor.proofs.tick.LevelSleepers+Sleeper+F+W+R+N.sleep.Goals as goal

pub returns-in-Ok-false-clause-asleep : goal.returns-in-Ok-false-clause-asleep
returns-in-Ok-false-clause-asleep g c = λ yes. absurd (false≢true yes)
