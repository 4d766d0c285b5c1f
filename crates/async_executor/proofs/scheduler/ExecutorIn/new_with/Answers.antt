use Rattle.std.proofs.Common.{refl}
use Rattle.async_executor.proofs.scheduler.ExecutorIn.new_with.Goals as goal

pub returns-in-Ok-clause-ok : goal.returns-in-Ok-clause-ok
returns-in-Ok-clause-ok g c = refl
