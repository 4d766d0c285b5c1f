use Rattle.async_utilities.proofs.locks.semaphore.Shared+W+R.end.Given as goal

abbrev pub decreases-loop-left : goal.decreases-loop-left
decreases-loop-left g l = l.left
