use Rattle.std.proofs.Common.{arith}
use Rattle.std.proofs.lemmas.Grind.{common_steps}
use Rattle.async_utilities.proofs.locks.event.state.State.leave.Goals as goal

pub returns : goal.returns
returns g c = grind (arith, common_steps)
