use Rattle.std.proofs.Common.{rules}
use Rattle.async_utilities.proofs.locks.semaphore.state.State.wait_on.Goals as goal

pub invariant_of-self : goal.invariant_of-self
invariant_of-self g c = search rules

pub returns : goal.returns
returns g c = search rules
