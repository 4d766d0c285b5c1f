use Rattle.std.proofs.Common.{refl}
use Rattle.async_executor.proofs.poller.TaskPollerPollerUnitOutput.dispose.Goals as goal

pub overflow_add-self : goal.overflow_add-self
overflow_add-self g c = record { fits = c.requires.room }

pub returns-then-eq-clause-polls : goal.returns-then-eq-clause-polls
returns-then-eq-clause-polls g c = refl

pub returns-then-eq-clause-disposals : goal.returns-then-eq-clause-disposals
returns-then-eq-clause-disposals g c = refl

pub returns-else-eq-clause-polls : goal.returns-else-eq-clause-polls
returns-else-eq-clause-polls g c = refl

pub returns-else-eq-clause-disposals : goal.returns-else-eq-clause-disposals
returns-else-eq-clause-disposals g c = refl
