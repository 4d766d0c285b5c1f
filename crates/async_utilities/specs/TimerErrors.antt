-- Why a timer did not do what it was asked for.
use Rattle.std.specs.Prelude.{Bool, true, false}
use Rattle.async_utilities.specs.declared.timers.error.TimerError.{TimerError}
use Rattle.async_utilities.specs.declared.timers.error.TimerError.TheVariants.{OutOfMemory, Clock}

-- whether the clock was not to be read
abbrev pub is_clock : TimerError → Bool
is_clock OutOfMemory = false
is_clock (Clock error) = true
