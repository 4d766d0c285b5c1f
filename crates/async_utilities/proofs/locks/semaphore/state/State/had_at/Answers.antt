use Rattle.std.proofs.Common.{arith}
use Rattle.std.proofs.lemmas.Grind.{common_steps}
use Rattle.async_utilities.proofs.locks.semaphore.state.State.had_at.Goals as goal

pub returns-then-is_notified : goal.returns-then-is_notified
returns-then-is_notified g c = grind (arith, common_steps)
