-- What a machine makes of what comes of a reply to a step.
use Rattle.std.proofs.Common.{◌≡◌, ℕ, true, false, Option, arith}
use Rattle.async_executor.specs.Ticks.{IsAsked}
use Rattle.async_executor.specs.Ticks.Courses.{course_in, KeepsCourse}
use Rattle.async_executor.specs.Ticks.Courses as course
use Rattle.async_executor.specs.Ticks.Replies as replies
use Rattle.async_executor.specs.Ticks.Replies.{has_left, is_last, is_ran, is_seeking, EndsLast, Waits}
use Rattle.async_executor.specs.Ticks.Rows.{next_of, next_to, kept_after, kept_by}
use Rattle.async_executor.specs.Ticks.Tickers.{ticker_after}
use Rattle.async_executor.specs.declared.machine.tick.Alone.{Alone}
use Rattle.async_executor.specs.declared.machine.tick.TickState.TheVariants as state
use Rattle.async_executor.specs.declared.machine.waiting.Came.{Came}
use Rattle.async_executor.specs.declared.machine.waiting.TickReply.{TickReply}
use Rattle.async_executor.specs.declared.machine.waiting.Waiting.{Waiting}

module _ {W : Type 0} where
  -- the machine of a tick says what came
  pub tick_seen : (runner : Option ℕ) (came : Came Alone W) → ticker_after runner (replies.decision came) ≡ replies.ticker_after runner came
  tick_seen runner came = grind arith

  pub tick_next : (came : Came Alone W) → next_of (replies.decision came) ≡ next_to came
  tick_next came = grind arith

  pub tick_kept : (came : Came Alone W) → kept_after (replies.decision came) ≡ kept_by came
  tick_kept came = grind arith

  pub tick_asked : (came : Came Alone W) → Waits came → IsAsked (replies.decision came)
  tick_asked came is = grind arith

  -- and keeps the course of the step
  seeking_course : (reply : TickReply W) (came : Came Alone W) → is_ran reply ≡ false → Waits came → replies.KeepsCourse true came → KeepsCourse course.Seeking reply (replies.decision came)
  seeking_course reply came goes waits kept = grind arith

  departing_course : (reply : TickReply W) (came : Came Alone W) → replies.KeepsCourse false came → has_left came ≡ is_last reply → KeepsCourse course.Departing reply (replies.decision came)
  departing_course reply came kept last = grind arith

  pub tick_course : (w : Waiting Alone) (reply : TickReply W) (came : Came Alone W) → is_ran reply ≡ false → Waits came → replies.KeepsCourse (is_seeking w) came → EndsLast w reply came → KeepsCourse (course_in (state.Waiting w)) reply (replies.decision came)
  tick_course w reply came goes waits kept last = grind (arith, seeking_course, departing_course)
