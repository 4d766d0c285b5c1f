-- What the table of a run sees of its machine, and that a decision is a row of it.
use Rattle.std.specs.Prelude.{◌≡◌, ℕ, Bool, true, false, Option, Some, None}
use Rattle.async_executor.specs.Ticks.Replies.{actor_of, is_seeking}
use Rattle.async_executor.specs.Ticks.Rows as ticks
use Rattle.async_executor.specs.Ticks.Table as tick
use Rattle.async_executor.specs.Runs.{asked_in}
use Rattle.async_executor.specs.Runs.Table.{Kept, Next, Ask, End, Row, table}
use Rattle.async_executor.specs.declared.machine.run_steps.Runner.{Runner}
use Rattle.async_executor.specs.declared.machine.run.RunMachine.{RunMachine}
use Rattle.async_executor.specs.declared.machine.run.RunNext.{RunNext}
use Rattle.async_executor.specs.declared.machine.run.RunNext.TheVariants.{Act, Rest}
use Rattle.async_executor.specs.declared.machine.run.RunReply.{RunReply}
use Rattle.async_executor.specs.declared.machine.run_steps.Stage.{Stage}
use Rattle.async_executor.specs.declared.machine.run_steps.Stage.TheVariants as stage
use Rattle.async_executor.specs.declared.machine.run.RunState.{RunState}
use Rattle.async_executor.specs.declared.machine.run.RunState.TheVariants as state
use Rattle.async_executor.specs.declared.machine.run_steps.Begun.{Begun}
use Rattle.async_executor.specs.declared.machine.run_steps.Begun.TheVariants as begun

-- what a runner keeps beside its tick, by whether it is registered and what number it removes later
abbrev pub keeps : Runner → Bool → Option ℕ → tick.Kept → Kept
keeps runner registered later kept = record { tick = kept; count = runner.count; found = runner.found; registered = registered; later = later }

abbrev pub kept_begun : Begun → Kept
kept_begun (begun.Register registering) = keeps registering.runner false None tick.nothing
kept_begun (begun.PollOwn polling) = keeps polling.runner true None (tick.keeps polling.number)

abbrev pub kept_in : RunState → Kept
kept_in (state.Resting begun) = kept_begun begun
kept_in (state.Registering registering) = keeps registering.runner false None tick.nothing
kept_in (state.PollingOwn polling) = keeps polling.runner true None (tick.keeps polling.number)
kept_in (state.Waiting waiting) = keeps (actor_of waiting) (is_seeking waiting) None (ticks.kept_of waiting)
kept_in (state.Sharing sharing) = keeps sharing.runner true None (record tick.nothing { task = Some sharing.taken })
kept_in (state.Running under_way) = keeps under_way.runner true None tick.nothing
kept_in (state.Unregistering unregistering) = keeps unregistering.runner true None (tick.keeps unregistering.number)
kept_in (state.PassingOn spending left) = keeps left.runner false (Some left.number) tick.nothing
kept_in (state.Releasing releasing) = keeps releasing.runner false None tick.nothing

abbrev pub kept_at : Runner → Stage → Kept
kept_at runner stage.New = keeps runner false None tick.nothing
kept_at runner (stage.Joined number) = keeps runner true None (tick.keeps number)
kept_at runner stage.Ended = keeps runner false None tick.nothing

module _ {W : Type 0} where
  abbrev pub next_of : RunNext W → Next W
  next_of (Act machine action) = Ask action
  next_of (Rest rest end) = End end

  abbrev pub kept_after : RunNext W → Kept
  kept_after (Act machine action) = kept_in machine.state
  kept_after (Rest rest end) = kept_at rest.runner rest.stage

  -- the reply answers what the row says, and what is asked next and kept is the row's
  abbrev pub IsRow : RunMachine → RunReply W → RunNext W → Type 0
  IsRow machine reply next =
      let row : Row W = table (asked_in machine.state) (kept_in machine.state) reply in
      (asked_in machine.state ≡ row.answers) × (next_of next ≡ row.next) × (kept_after next ≡ row.kept)
