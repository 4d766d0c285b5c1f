-- What a tick is after: a task, or its own end.
use Rattle.std.specs.Prelude.{◌≡◌, Bool, true, false, cond}
use Rattle.async_executor.specs.Ticks.{is_return}
use Rattle.async_executor.specs.Ticks.Replies.{is_last, is_ran, is_seeking}
use Rattle.async_executor.specs.declared.machine.tick.TickMachine.{TickMachine}
use Rattle.async_executor.specs.declared.machine.tick.TickNext.{TickNext}
use Rattle.async_executor.specs.declared.machine.tick.TickNext.TheVariants.{Act, Rest}
use Rattle.async_executor.specs.declared.machine.tick.TickState.{TickState}
use Rattle.async_executor.specs.declared.machine.tick.TickState.TheVariants as state
use Rattle.async_executor.specs.declared.machine.waiting.TickReply.{TickReply}
use Rattle.async_executor.specs.declared.machine.waiting.TickReply.TheVariants.{Begin, Dropped}

-- it waits for a poll or its drop, seeks a task or has one to run, or was dropped
pub data Course : Type 0 where
  Waiting : Course
  Seeking : Course
  Departing : Course

abbrev pub course_in : TickState → Course
course_in (state.Resting number) = Waiting
course_in (state.Waiting waiting) = cond (is_seeking waiting) Seeking Departing
course_in (state.Running departed) = Seeking

abbrev pub course : TickMachine → Course
course machine = course_in machine.state

module _ {W : Type 0} where
  -- the course that a first reply sets
  abbrev pub course_set : TickReply W → Course
  course_set Begin = Seeking
  course_set Dropped = Departing
  course_set _ = Waiting

  -- the replies that end a course: one that seeks ends with its task, and one that departs once its notices are spent
  abbrev pub ends : Course → TickReply W → Bool
  ends Seeking reply = is_ran reply
  ends Departing reply = is_last reply
  ends Waiting _ = false

  -- a first reply sets the course, and the course is kept to its end
  abbrev pub KeepsCourse : Course → TickReply W → TickNext W → Type 0
  KeepsCourse Waiting reply (Act machine action) = course machine ≡ course_set reply
  KeepsCourse Waiting reply (Rest rest end) = Unit {0}
  KeepsCourse Seeking reply (Act machine action) = (course machine ≡ Seeking) × (ends Seeking reply ≡ false)
  KeepsCourse Seeking reply (Rest rest end) = is_return end ≡ ends Seeking reply
  KeepsCourse Departing reply (Act machine action) = (course machine ≡ Departing) × (ends Departing reply ≡ false)
  KeepsCourse Departing reply (Rest rest end) = (rest ≡ record { number = 0; ended = true }) × (ends Departing reply ≡ true)
