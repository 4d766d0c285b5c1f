use Rattle.std.proofs.Common.{refl}
use Rattle.async_executor.proofs.runner.run.RunInFutureWaker.poll.Goals as goal

pub returns-then-is_ended-clause-fixed : goal.returns-then-is_ended-clause-fixed
returns-then-is_ended-clause-fixed g c = refl

pub returns-then-is_ended-clause-again : goal.returns-then-is_ended-clause-again
returns-then-is_ended-clause-again g c = λ _. (refl, refl)
