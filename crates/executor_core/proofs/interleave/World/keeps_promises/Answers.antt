use Rattle.std.proofs.Common.{subst}
use Rattle.executor_core.specs.World.AllPromises.{KeepsPromises}
use Rattle.executor_core.proofs.World.Agreement.{one_place}
use Rattle.executor_core.proofs.World.Steps.{promises}
use Rattle.executor_core.proofs.interleave.World.keeps_promises.Goals as goal

pub returns : goal.returns
returns g c = subst KeepsPromises c.self.view_is (promises c.self.invariant (one_place c.self.invariant.agree c.law_holds.ensures))
