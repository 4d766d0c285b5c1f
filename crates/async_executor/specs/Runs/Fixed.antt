-- What is fixed of a run from its making on: the key of its runner, and its limits.
use Rattle.std.specs.Prelude.{ℕ, ◌<◌, Result, Ok, Err}
use Rattle.executor_core.specs.declared.queue.runner.RunnerKey.{RunnerKey}
use Rattle.async_executor.specs.declared.machine.run_steps.Runner.{Runner}
use Rattle.async_executor.specs.declared.machine.run_steps.OwnPolled.{OwnPolled}
use Rattle.async_executor.specs.declared.machine.run_steps.OwnPolled.TheVariants as own
use Rattle.async_executor.specs.Steps.{actor_going}
use Rattle.async_executor.specs.declared.machine.run_steps.Started.{Started}
use Rattle.async_executor.specs.declared.machine.run_steps.Started.TheVariants as started
use Rattle.async_executor.specs.declared.machine.run_steps.TurnOver.{TurnOver}
use Rattle.async_executor.specs.declared.machine.steps.GoingToSleep.{GoingToSleep}
use Rattle.async_executor.specs.declared.machine.steps.Searching.{Searching}

-- its key, how many tasks a turn of it has, and with each so many-th it takes a fair part
abbrev pub fixed : Runner → RunnerKey × ℕ × ℕ
fixed runner = (runner.key, runner.count.limit, runner.found.limit)

-- the runner in what comes of a step
abbrev pub runner_polled : {T : Type 0} → OwnPolled T → Runner
runner_polled (own.Pending searching) = searching.actor
runner_polled (own.Ready output unregistering) = unregistering.runner

abbrev pub runner_started : Started → Runner
runner_started (started.Share sharing) = sharing.runner
runner_started (started.Run under_way taken) = under_way.runner

abbrev pub runner_turned : Result (Searching Runner) TurnOver → Runner
runner_turned (Ok searching) = searching.actor
runner_turned (Err over) = over.runner

-- of one that runs tasks until none is found or its turn is over
abbrev pub runner_worked : Result (GoingToSleep Runner) TurnOver → Runner
runner_worked (Ok going) = actor_going going
runner_worked (Err over) = over.runner

-- its counts are below their limits
abbrev pub IsWithin : Runner → Type 0
IsWithin runner = (runner.count.counted < runner.count.limit) × (runner.found.counted < runner.found.limit)
