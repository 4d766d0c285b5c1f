-- Exit statuses.
use Rattle.std.specs.Prelude.{ℕ, Bool, true, false, Result, Ok, Err}
use Rattle.digests.specs.declared.failure.Failure.{Failure}
use Rattle.digests.specs.declared.failure.Failure.TheVariants.{UnknownOption, BadNumber, NoNumber, Output, OutOfMemory, NoThread, Clock, Exhausted, Cancelled}

-- that of a failure
abbrev pub status_of : Failure → ℕ
status_of (UnknownOption option) = 2
status_of (BadNumber number) = 2
status_of NoNumber = 2
status_of (Output cause) = 3
status_of OutOfMemory = 4
status_of NoThread = 5
status_of (Clock cause) = 6
status_of Exhausted = 6
status_of Cancelled = 6

-- that of the program: each file was read, or not, or it stopped before
abbrev pub exit_status : Result Bool Failure → ℕ
exit_status (Ok true) = 0
exit_status (Ok false) = 1
exit_status (Err failure) = status_of failure
