use Rattle.std.proofs.Common.{rules}
use Rattle.async_utilities.proofs.locks.semaphore.Semaphore.try_acquire.Goals as goal

pub returns-clause-one : goal.returns-clause-one
returns-clause-one g c = search rules
