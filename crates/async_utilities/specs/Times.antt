-- When a future of a timer is ready: at a time in nanoseconds since the start of the clock, or never,
-- if 64 bits do not hold that.
use Rattle.std.specs.Prelude.{◌≡◌, ◌+◌, ◌≤◌, ◌^◌, ℕ, IfErr, Option, Some, None, Result}
use Rattle.std.specs.Duration.{as_nanos}
use Rattle.std.specs.declared.time.Duration.{Duration}
use Rattle.async_utilities.specs.Polls.{IfReady}
use Rattle.async_utilities.specs.declared.timers.reading.Reading.{Reading}
use Rattle.async_utilities.specs.declared.timers.timeout.TimedOut.{TimedOut}
use Rattle.executor_core.specs.declared.task.future.Poll.{Poll}

abbrev pub time_of : Reading → ℕ
time_of reading = as_nanos reading.since_start

-- it is ready at this time
abbrev pub IsAt : Option ℕ → ℕ → Type 0
IsAt None time = 2 ^ 64 ≤ time
IsAt (Some nanos) time = nanos ≡ time

-- it is not ready before this time
abbrev pub IsNoSooner : Option ℕ → ℕ → Type 0
IsNoSooner None time = Unit {0}
IsNoSooner (Some nanos) time = time ≤ nanos

-- it is not ready before so much time has passed since the start of the clock
abbrev pub Lasts : Option ℕ → Duration → Type 0
Lasts nanos duration = IsNoSooner nanos (as_nanos duration)

-- it is ready at this time, or was before
abbrev pub IsReached : Option ℕ → ℕ → Type 0
IsReached None time = ⊥
IsReached (Some nanos) time = nanos ≤ time

-- it is ready so much later than it was to be
abbrev pub IsLater : Option ℕ → ℕ → Option ℕ → Type 0
IsLater None nanos new = new ≡ None
IsLater (Some old) nanos new = IsAt new (old + nanos)

-- once it comes, it is to come again a period later
abbrev pub ComesAgain : {T : Type 0} → Poll T → Option ℕ → Duration → Option ℕ → Type 0
ComesAgain polled old period new = IfReady polled (λ _. IsLater old (as_nanos period) new)

-- what timed out did so at this time or later
abbrev pub IsTimedOut : {A G : Type 0} → Option ℕ → Poll (Result A (TimedOut G)) → Type 0
IsTimedOut nanos polled = IfReady polled (λ answer. IfErr answer (λ out. IsReached nanos (time_of out.now)))
