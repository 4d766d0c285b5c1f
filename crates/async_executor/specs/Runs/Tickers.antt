-- What a world of tickers sees of a run's machine: which of its steps comes next, and its number.
use Rattle.std.specs.Prelude.{◌≡◌, ℕ, Bool, false, Option, Some, Result, Ok, Err}
use Rattle.executor_core.specs.World.Phases.{at_rest}
use Rattle.executor_core.specs.World.Tickers.{polled}
use Rattle.executor_core.specs.declared.interleave.ticker.Phase.{Phase}
use Rattle.executor_core.specs.declared.interleave.ticker.Phase.TheVariants as phase
use Rattle.executor_core.specs.declared.interleave.ticker.Ticker.{Ticker}
use Rattle.async_executor.specs.Steps.Tickers.{MakesAt, of_searching, ticker_at}
use Rattle.async_executor.specs.Ticks.Replies.{actor_of}
use Rattle.async_executor.specs.Ticks.Tickers as ticks
use Rattle.async_executor.specs.declared.machine.run_steps.Runner.{Runner}
use Rattle.async_executor.specs.declared.machine.run_steps.Stage.{Stage}
use Rattle.async_executor.specs.declared.machine.run_steps.Stage.TheVariants as stage
use Rattle.async_executor.specs.declared.machine.run.RunState.{RunState}
use Rattle.async_executor.specs.declared.machine.run.RunState.TheVariants as state
use Rattle.async_executor.specs.declared.machine.run.RunAction.{RunAction}
use Rattle.async_executor.specs.declared.machine.run.RunAction.TheVariants as asks
use Rattle.async_executor.specs.declared.machine.run.RunMachine.{RunMachine}
use Rattle.async_executor.specs.declared.machine.run.RunNext.{RunNext}
use Rattle.async_executor.specs.declared.machine.run.RunNext.TheVariants.{Act, Rest}
use Rattle.async_executor.specs.declared.machine.run_steps.RunRest.{RunRest}
use Rattle.async_executor.specs.declared.machine.run_steps.Begun.{Begun}
use Rattle.async_executor.specs.declared.machine.run_steps.Begun.TheVariants as begun
use Rattle.async_executor.specs.declared.machine.run_steps.Dropped.{Dropped}
use Rattle.async_executor.specs.declared.machine.run_steps.Dropped.TheVariants as dropped
use Rattle.async_executor.specs.declared.machine.run_steps.Left.{Left}
use Rattle.async_executor.specs.declared.machine.run_steps.NotRegistered.{NotRegistered}
use Rattle.async_executor.specs.declared.machine.run_steps.OwnPolled.{OwnPolled}
use Rattle.async_executor.specs.declared.machine.run_steps.OwnPolled.TheVariants as own
use Rattle.async_executor.specs.declared.machine.run_steps.PollingOwn.{PollingOwn}
use Rattle.async_executor.specs.declared.machine.run_steps.Registering.{Registering}
use Rattle.async_executor.specs.declared.machine.run_steps.Releasing.{Releasing}
use Rattle.async_executor.specs.declared.machine.run_steps.Sharing.{Sharing}
use Rattle.async_executor.specs.declared.machine.run_steps.Started.{Started}
use Rattle.async_executor.specs.declared.machine.run_steps.Started.TheVariants as started
use Rattle.async_executor.specs.declared.machine.run_steps.TurnOver.{TurnOver}
use Rattle.async_executor.specs.declared.machine.run_steps.UnderWay.{UnderWay}
use Rattle.async_executor.specs.declared.machine.run_steps.Unregistering.{Unregistering}
use Rattle.async_executor.specs.declared.machine.steps.Searching.{Searching}

-- the number of its runner
abbrev pub runner_in : Runner → Option ℕ
runner_in runner = Some runner.key.number

abbrev pub run_at : Runner → Phase → ℕ → Ticker
run_at runner phase number = ticker_at (runner_in runner) phase number

-- the ticker of the run that goes a step
abbrev pub of_registering : Registering → Ticker
of_registering registering = run_at registering.runner phase.Rest 0

abbrev pub of_not_registered : NotRegistered → Ticker
of_not_registered refused = run_at refused.runner phase.Rest 0

abbrev pub of_polling : PollingOwn → Ticker
of_polling polling = run_at polling.runner phase.Rest polling.number

abbrev pub of_begun : Begun → Ticker
of_begun (begun.Register registering) = of_registering registering
of_begun (begun.PollOwn polling) = of_polling polling

abbrev pub of_registered : {E : Type 0} → Result PollingOwn (NotRegistered × E) → Ticker
of_registered (Ok polling) = of_polling polling
of_registered (Err (refused, ring)) = of_not_registered refused

abbrev pub of_sharing : Sharing → Ticker
of_sharing sharing = run_at sharing.runner phase.Rest 0

abbrev pub of_under_way : UnderWay → Ticker
of_under_way under_way = run_at under_way.runner phase.Rest 0

abbrev pub of_started : Started → Ticker
of_started (started.Share sharing) = of_sharing sharing
of_started (started.Run under_way taken) = of_under_way under_way

abbrev pub of_turn_over : TurnOver → Ticker
of_turn_over over = run_at over.runner phase.Rest 0

abbrev pub of_unregistering : Unregistering → Ticker
of_unregistering unregistering = run_at unregistering.runner phase.Rest unregistering.number

abbrev pub of_left : Left → Ticker
of_left left = run_at left.runner phase.Leaving left.number

abbrev pub of_releasing : Releasing → Ticker
of_releasing releasing = run_at releasing.runner phase.Rest 0

abbrev pub of_dropped : Dropped → Ticker
of_dropped (dropped.Release releasing) = of_releasing releasing
of_dropped (dropped.Unregister unregistering) = of_unregistering unregistering

-- a step of a world is enabled where it begins, and leads to what comes after it, of the run of this runner
abbrev pub LeadsRun : Runner → (Phase → Bool) → (Ticker → Ticker) → Ticker → (Option ℕ → Ticker) → Type 0
LeadsRun runner enabled step before after = MakesAt enabled step before (after (runner_in runner))

-- the run is polled, and searches: if its own future is pending, and again after a task, but for the last one of a turn
abbrev pub Searches : Ticker → Searching Runner → Type 0
Searches before searching = MakesAt at_rest polled before (of_searching searching (runner_in searching.actor))

abbrev pub PollsOwn : {T : Type 0} → Ticker → OwnPolled T → Type 0
PollsOwn before (own.Pending searching) = Searches before searching
PollsOwn before (own.Ready output unregistering) = of_unregistering unregistering ≡ before

abbrev pub GoesOn : Ticker → Result (Searching Runner) TurnOver → Type 0
GoesOn before (Ok searching) = Searches before searching
GoesOn before (Err over) = of_turn_over over ≡ before

-- the ticker of a machine, by the action that it asked for last; after the removal of its number, by whether that was notified
abbrev pub ticker_in : Bool → RunState → Ticker
ticker_in notified (state.Resting begun) = of_begun begun
ticker_in notified (state.Registering registering) = of_registering registering
ticker_in notified (state.PollingOwn polling) = of_polling polling
ticker_in notified (state.Waiting waiting) = ticks.ticker_of_waiting (runner_in (actor_of waiting)) notified waiting
ticker_in notified (state.Sharing sharing) = of_sharing sharing
ticker_in notified (state.Running under_way) = of_under_way under_way
ticker_in notified (state.Unregistering unregistering) = of_unregistering unregistering
ticker_in notified (state.PassingOn spending left) = of_left left
ticker_in notified (state.Releasing releasing) = of_releasing releasing

abbrev pub ticker_of : Bool → RunMachine → Ticker
ticker_of notified machine = ticker_in notified machine.state

-- the ticker of a run between its polls
abbrev pub stage_ticker : Runner → Stage → Ticker
stage_ticker runner stage.New = run_at runner phase.Rest 0
stage_ticker runner (stage.Joined number) = run_at runner phase.Rest number
stage_ticker runner stage.Ended = run_at runner phase.Ended 0

abbrev pub rest_ticker : RunRest → Ticker
rest_ticker rest = stage_ticker rest.runner rest.stage

module _ {W : Type 0} where
  -- the change that is to be stored says whether the number that was removed was notified
  abbrev pub removed_notified : RunAction W → Bool
  removed_notified (asks.Tick action) = ticks.removed_notified action
  removed_notified _ = false

  -- the ticker after a decision
  abbrev pub ticker_after : RunNext W → Ticker
  ticker_after (Act machine action) = ticker_of (removed_notified action) machine
  ticker_after (Rest rest end) = rest_ticker rest
