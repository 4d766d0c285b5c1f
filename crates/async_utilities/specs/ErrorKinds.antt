-- Which kind of `io::Error` each error is.
use Rattle.std.specs.IoError.{error_kind}
use Rattle.std.specs.declared.io.ErrorKind.{ErrorKind}
use Rattle.std.specs.declared.io.ErrorKind.TheVariants as kind
use Rattle.executor_core.specs.declared.queue.runner.RunnerError.{RunnerError}
use Rattle.executor_core.specs.declared.queue.runner.RunnerError.TheVariants as runner
use Rattle.async_utilities.specs.declared.pooling.PoolError.{PoolError}
use Rattle.async_utilities.specs.declared.pooling.PoolError.TheVariants as pool
use Rattle.async_utilities.specs.declared.timers.error.TimerError.{TimerError}
use Rattle.async_utilities.specs.declared.timers.error.TimerError.TheVariants as timer
use Rattle.async_utilities.specs.declared.channels.sender.Unsent.{Unsent}
use Rattle.async_utilities.specs.declared.channels.sender.Unsent.TheVariants as unsent
use Rattle.async_utilities.specs.declared.channels.state.NoMessage.{NoMessage}
use Rattle.async_utilities.specs.declared.channels.state.NoMessage.TheVariants as none
use Rattle.async_utilities.specs.declared.locks.Unavailable.{Unavailable}
use Rattle.async_utilities.specs.declared.locks.Unavailable.TheVariants as unavailable

-- why there is no pool, if a run was refused
abbrev pub run_refusal : RunnerError → PoolError
run_refusal runner.OutOfMemory = pool.OutOfMemory
run_refusal runner.Exhausted = pool.Exhausted

-- why there is no pool
abbrev pub pool_kind : PoolError → ErrorKind
pool_kind pool.OutOfMemory = kind.OutOfMemory
pool_kind pool.Exhausted = kind.Other
pool_kind pool.NoThread = kind.WouldBlock

-- why a timer did nothing
abbrev pub timer_kind : TimerError → ErrorKind
timer_kind timer.OutOfMemory = kind.OutOfMemory
timer_kind (timer.Clock error) = error_kind error

-- why a message was not sent
abbrev pub unsent_kind : {T : Type 0} → Unsent T → ErrorKind
unsent_kind (unsent.Full message) = kind.WouldBlock
unsent_kind (unsent.Closed message) = kind.BrokenPipe
unsent_kind (unsent.Refused message) = kind.OutOfMemory

-- why there is no message
abbrev pub no_message_kind : NoMessage → ErrorKind
no_message_kind none.Empty = kind.WouldBlock
no_message_kind none.Closed = kind.UnexpectedEof

-- why a try took nothing
abbrev pub unavailable_kind : Unavailable → ErrorKind
unavailable_kind unavailable.Taken = kind.WouldBlock
unavailable_kind unavailable.OutOfMemory = kind.OutOfMemory
