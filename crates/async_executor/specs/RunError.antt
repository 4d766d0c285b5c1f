-- Why there is no run.
use Rattle.executor_core.specs.declared.queue.runner.RunnerError.{RunnerError}
use Rattle.executor_core.specs.declared.queue.runner.RunnerError.TheVariants as runner
use Rattle.async_executor.specs.declared.runner.run.RunError.{RunError}
use Rattle.async_executor.specs.declared.runner.run.RunError.TheVariants.{OutOfMemory, Exhausted}

module _ {G : Type 0} where
  abbrev pub run_future : RunError G → G
  run_future (OutOfMemory g) = g
  run_future (Exhausted g) = g

  -- why no place was reserved for its runner
  abbrev pub run_cause : RunError G → RunnerError
  run_cause (OutOfMemory g) = runner.OutOfMemory
  run_cause (Exhausted g) = runner.Exhausted
