-- Which kind of `io::Error` each error is.
use Rattle.std.specs.declared.io.ErrorKind.{ErrorKind}
use Rattle.std.specs.declared.io.ErrorKind.TheVariants as kind
use Rattle.executor_core.specs.declared.task.error.SpawnError.{SpawnError}
use Rattle.executor_core.specs.declared.task.error.SpawnError.TheVariants as spawn
use Rattle.executor_core.specs.declared.queue.runner.RunnerError.{RunnerError}
use Rattle.executor_core.specs.declared.queue.runner.RunnerError.TheVariants as runner
use Rattle.executor_core.specs.declared.limits.NewError.{NewError}
use Rattle.executor_core.specs.declared.limits.NewError.TheVariants as new

-- why no task was spawned
abbrev pub spawn_kind : {P : Type 0} → SpawnError P → ErrorKind
spawn_kind (spawn.OutOfMemory future) = kind.OutOfMemory
spawn_kind (spawn.Exhausted future) = kind.Other

-- why there is no place for a runner
abbrev pub runner_kind : RunnerError → ErrorKind
runner_kind runner.OutOfMemory = kind.OutOfMemory
runner_kind runner.Exhausted = kind.Other

-- why no executor was made
abbrev pub new_kind : NewError → ErrorKind
new_kind new.BadLimits = kind.InvalidInput
new_kind new.OutOfMemory = kind.OutOfMemory
