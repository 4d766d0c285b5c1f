-- What comes of a reply to a step of a run that waits for it.
use Rattle.std.specs.Prelude.{cond, None, Result, Ok, Err}
use Rattle.executor_core.specs.declared.task.polling.Taken.{Taken}
use Rattle.async_executor.specs.Runs.Counts.{goes_on, more, anew}
use Rattle.async_executor.specs.Steps.{departing}
use Rattle.async_executor.specs.Ticks.Replies as ticks
use Rattle.async_executor.specs.declared.machine.run.RunAction.{RunAction}
use Rattle.async_executor.specs.declared.machine.run.RunAction.TheVariants as asks
use Rattle.async_executor.specs.declared.machine.run.RunNext.{RunNext}
use Rattle.async_executor.specs.declared.machine.run.RunNext.TheVariants.{Act, Rest}
use Rattle.async_executor.specs.declared.machine.run_steps.RunRest.{RunRest}
use Rattle.async_executor.specs.declared.machine.run.RunState.{RunState}
use Rattle.async_executor.specs.declared.machine.run.RunState.TheVariants as state
use Rattle.async_executor.specs.declared.machine.run_steps.Runner.{Runner}
use Rattle.async_executor.specs.declared.machine.run_steps.Stage.{Stage}
use Rattle.async_executor.specs.declared.machine.run_steps.Stage.TheVariants as stage
use Rattle.async_executor.specs.declared.machine.run_steps.Begun.{Begun}
use Rattle.async_executor.specs.declared.machine.run_steps.Begun.TheVariants.{Register, PollOwn}
use Rattle.async_executor.specs.declared.machine.run_steps.Dropped.{Dropped}
use Rattle.async_executor.specs.declared.machine.run_steps.Dropped.TheVariants.{Release, Unregister}
use Rattle.async_executor.specs.declared.machine.run_steps.Left.{Left}
use Rattle.async_executor.specs.declared.machine.run_steps.Started.{Started}
use Rattle.async_executor.specs.declared.machine.run_steps.Started.TheVariants as start
use Rattle.async_executor.specs.declared.machine.run_steps.TurnOver.{TurnOver}
use Rattle.async_executor.specs.declared.machine.run_steps.UnderWay.{UnderWay}
use Rattle.async_executor.specs.declared.machine.steps.Running.{Running}
use Rattle.async_executor.specs.declared.machine.steps.Searching.{Searching}
use Rattle.async_executor.specs.declared.machine.waiting.Came.{Came}
use Rattle.async_executor.specs.declared.machine.waiting.Came.TheVariants as came
use Rattle.async_executor.specs.declared.machine.waiting.TickAction.TheVariants.{Search, Run}
use Rattle.async_executor.specs.declared.machine.waiting.TickEnd.TheVariants.{Return}
use Rattle.async_executor.specs.declared.machine.waiting.Waiting.TheVariants.{Searching as WaitsForSearch}

-- a poll begins: a run that has ended is not polled
abbrev pub begun_at : Runner → Stage → Begun
begun_at runner stage.New = Register (record { runner = runner })
begun_at runner (stage.Joined number) = PollOwn (record { runner = runner; number = number })
begun_at runner stage.Ended = Register (record { runner = runner })

abbrev pub begun : RunRest → Begun
begun rest = begun_at rest.runner rest.stage

-- a run that is dropped ends its queue, if its runner was registered
abbrev pub dropped : Begun → Dropped
dropped (Register registering) = Release (record { runner = registering.runner })
dropped (PollOwn polling) = Unregister (record { runner = polling.runner; number = polling.number })

-- a task that was found is counted: with the last one of so many a fair part is taken first
abbrev pub started : Running Runner → Started
started running =
    let runner = running.actor in
    cond (goes_on runner.found)
    (start.Run (record { runner = record runner { found = more runner.found } }) running.taken)
    (start.Share (record { runner = record runner { found = anew runner.found }; taken = running.taken }))

-- a task was run: after the last one of a turn the run yields
abbrev pub turned : UnderWay → Result (Searching Runner) TurnOver
turned under_way =
    let runner = under_way.runner in
    cond (goes_on runner.count)
    (Ok (record { actor = record runner { count = more runner.count }; number = 0 }))
    (Err (record { runner = record runner { count = anew runner.count } }))

module _ {W : Type 0} where
  abbrev pub ask : RunState → RunAction W → RunNext W
  ask state action = Act (record { state = state }) action

  abbrev pub polls : Begun → RunNext W
  polls (Register registering) = ask (state.Registering registering) asks.Register
  polls (PollOwn polling) = ask (state.PollingOwn polling) asks.PollOwn

  abbrev pub drops : Dropped → RunNext W
  drops (Release releasing) = ask (state.Releasing releasing) asks.Release
  drops (Unregister unregistering) = ask (state.Unregistering unregistering) asks.Unregister

  abbrev pub searches : Searching Runner → RunNext W
  searches searching = ask (state.Waiting (WaitsForSearch searching)) (asks.Tick (Search None))

  abbrev pub runs : UnderWay → Taken (Unit {0}) → RunNext W
  runs under_way taken = ask (state.Running under_way) (asks.Tick (Run taken))

  abbrev pub starts : Started → RunNext W
  starts (start.Share sharing) = ask (state.Sharing sharing) asks.Fair
  starts (start.Run under_way taken) = runs under_way taken

  -- what comes of a reply to a step of a tick, as the machine says it
  abbrev pub decision : Came Runner W → RunNext W
  decision (came.Act waiting action) = ask (state.Waiting waiting) (asks.Tick action)
  decision (came.Rest at_rest end) = Rest (record { runner = at_rest.actor; stage = stage.Joined at_rest.number }) end
  decision (came.Run running) = starts (started running)
  decision (came.End departed) = Rest (record { runner = departed.actor; stage = stage.Ended }) Return

  -- a run whose queue has ended leaves the sleepers
  abbrev pub leaves : Left → RunNext W
  leaves left = decision (ticks.departs (departing left.runner left.number))
