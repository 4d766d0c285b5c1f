use Rattle.std.proofs.Common.{rules}
use Rattle.async_utilities.proofs.locks.semaphore.AcquireFuture.poll.Goals as goal

pub returns-in-Some-take-clause-many : goal.returns-in-Some-take-clause-many
returns-in-Some-take-clause-many g c = search rules
