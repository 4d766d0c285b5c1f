use Rattle.std.proofs.Common.{arith}
use Rattle.std.proofs.lemmas.Grind.{common_steps}
use Rattle.async_utilities.proofs.spawning.job_queue.JobQueue.give.Goals as goal

pub returns : goal.returns
returns g c = grind (arith, common_steps)

pub returns-then-len-self : goal.returns-then-len-self
returns-then-len-self g c = grind (arith, common_steps)

pub returns-then-is_err : goal.returns-then-is_err
returns-then-is_err g c = grind (arith, common_steps)
