-- Which failure of the program each cause is.
use Rattle.async_executor.specs.declared.runner.run.RunError.{RunError}
use Rattle.async_executor.specs.declared.runner.run.RunError.TheVariants as run
use Rattle.async_utilities.specs.declared.pooling.PoolError.{PoolError}
use Rattle.async_utilities.specs.declared.pooling.PoolError.TheVariants as pool
use Rattle.async_utilities.specs.declared.timers.TimerError.{TimerError}
use Rattle.async_utilities.specs.declared.timers.TimerError.TheVariants as timer
use Rattle.digests.specs.declared.failure.Failure.{Failure}
use Rattle.digests.specs.declared.failure.Failure.TheVariants.{OutOfMemory, NoThread, Clock, Exhausted}

-- why there is no pool, or a thread of it ended
abbrev pub pool_failure : PoolError → Failure
pool_failure pool.OutOfMemory = OutOfMemory
pool_failure pool.Exhausted = Exhausted
pool_failure pool.NoThread = NoThread

-- why no time is to be had
abbrev pub timer_failure : TimerError → Failure
timer_failure timer.OutOfMemory = OutOfMemory
timer_failure (timer.Clock error) = Clock (record { 0 = error })

-- why there is no run
abbrev pub run_failure : {G : Type 0} → RunError G → Failure
run_failure (run.OutOfMemory future) = OutOfMemory
run_failure (run.Exhausted future) = Exhausted
