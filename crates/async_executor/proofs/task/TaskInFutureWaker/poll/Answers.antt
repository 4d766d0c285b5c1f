use Rattle.std.proofs.Common.{refl}
use Rattle.async_executor.proofs.task.TaskInFutureWaker.poll.Goals as goal

pub returns-then-self-clause-answered : goal.returns-then-self-clause-answered
returns-then-self-clause-answered g c = c.if-self.true

pub returns-then-self-clause-again : goal.returns-then-self-clause-again
returns-then-self-clause-again g c = λ _. refl
