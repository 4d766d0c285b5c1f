use Rattle.std.proofs.Common.{rules}
use Rattle.async_utilities.proofs.spawning.job_queue.JobQueue.new.Goals as goal

pub returns-clause-room : goal.returns-clause-room
returns-clause-room g c = search rules
