use Rattle.std.proofs.Common.{refl}
use Rattle.async_executor.proofs.waker.TaskWaker.lent.Goals as goal

pub returns-clause-lent : goal.returns-clause-lent
returns-clause-lent g c = refl
