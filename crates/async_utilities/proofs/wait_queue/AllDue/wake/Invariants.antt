use Rattle.std.proofs.Common.{length}
use Rattle.async_utilities.proofs.wait_queue.AllDue.wake.Given as goal

abbrev pub invariant-loop-waiters : goal.invariant-loop-waiters
invariant-loop-waiters g l = Unit {0}

abbrev pub decreases-loop-waiters : goal.decreases-loop-waiters
decreases-loop-waiters g l = length l.waiters.waiting
