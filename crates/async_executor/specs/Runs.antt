-- What a run asks for, and what answers it.
pub mod Counts
pub mod Decisions
pub mod Fairs
pub mod Fixed
pub mod Replies
pub mod Rows
pub mod Steps
pub mod Table
pub mod Tickers
pub mod Turns
use Rattle.std.specs.Prelude.{◌≡◌, ℕ, Bool, true, false, List, [], Option, Some, None}
use Rattle.executor_core.specs.Ring.{IdRing}
use Rattle.executor_core.specs.declared.limits.Limits.{Limits}
use Rattle.executor_core.specs.declared.queue.runner.RunnerKey.{RunnerKey}
use Rattle.executor_core.specs.declared.task.cell.TaskId.{TaskId}
use Rattle.async_executor.specs.Runs.Counts.{up_to}
use Rattle.async_executor.specs.Ticks.{Asked, is_return}
use Rattle.async_executor.specs.Ticks as ticks
use Rattle.async_executor.specs.Ticks.Replies.{actor_of}
use Rattle.async_executor.specs.declared.machine.run.RunState.{RunState}
use Rattle.async_executor.specs.declared.machine.run.RunState.TheVariants as state
use Rattle.async_executor.specs.declared.machine.run_steps.Runner.{Runner}
use Rattle.async_executor.specs.declared.machine.run_steps.Stage.{Stage}
use Rattle.async_executor.specs.declared.machine.run_steps.Stage.TheVariants as stage
use Rattle.async_executor.specs.declared.machine.run.RunAction.{RunAction}
use Rattle.async_executor.specs.declared.machine.run.RunAction.TheVariants as asks
use Rattle.async_executor.specs.declared.machine.run.RunMachine.{RunMachine}
use Rattle.async_executor.specs.declared.machine.run.RunNext.{RunNext}
use Rattle.async_executor.specs.declared.machine.run.RunNext.TheVariants.{Act, Rest}
use Rattle.async_executor.specs.declared.machine.run.RunReply.{RunReply}
use Rattle.async_executor.specs.declared.machine.run.RunReply.TheVariants.{Begin, Dropped, Registered, NotRegistered, OwnPending, OwnReady, Tick, Moved, Unregistered, Released}
use Rattle.async_executor.specs.declared.machine.run_steps.RunRest.{RunRest}
use Rattle.async_executor.specs.declared.machine.run_steps.Begun.{Begun}
use Rattle.async_executor.specs.declared.machine.run_steps.Begun.TheVariants as begun

-- what is asked: to begin or to be dropped, one of the actions, or what is asked of a tick
pub data RunAsked : Type 0 where
  AskFirst : RunAsked
  AskRegister : RunAsked
  AskOwn : RunAsked
  AskTick : Asked → RunAsked
  AskFair : Asked → RunAsked
  AskUnregister : RunAsked
  AskRelease : RunAsked

-- what a machine waits for
abbrev pub asked_in : RunState → RunAsked
asked_in (state.Resting begun) = AskFirst
asked_in (state.Registering registering) = AskRegister
asked_in (state.PollingOwn polling) = AskOwn
asked_in (state.Waiting waiting) = AskTick (ticks.asked_of waiting)
asked_in (state.Sharing sharing) = AskFair ticks.AskRun
asked_in (state.Running under_way) = AskTick ticks.AskRun
asked_in (state.Unregistering unregistering) = AskUnregister
asked_in (state.PassingOn spending left) = AskTick (ticks.asked_of_spending spending)
asked_in (state.Releasing releasing) = AskRelease

abbrev pub asked : RunMachine → RunAsked
asked machine = asked_in machine.state

-- the runner of a machine
abbrev pub runner_begun : Begun → Runner
runner_begun (begun.Register registering) = registering.runner
runner_begun (begun.PollOwn polling) = polling.runner

abbrev pub runner_at : RunState → Runner
runner_at (state.Resting begun) = runner_begun begun
runner_at (state.Registering registering) = registering.runner
runner_at (state.PollingOwn polling) = polling.runner
runner_at (state.Waiting waiting) = actor_of waiting
runner_at (state.Sharing sharing) = sharing.runner
runner_at (state.Running under_way) = under_way.runner
runner_at (state.Unregistering unregistering) = unregistering.runner
runner_at (state.PassingOn spending left) = left.runner
runner_at (state.Releasing releasing) = releasing.runner

abbrev pub runner_of : RunMachine → Runner
runner_of machine = runner_at machine.state

-- a rest has ended
abbrev pub is_end : Stage → Bool
is_end stage.Ended = true
is_end _ = false

abbrev pub has_ended : RunRest → Bool
has_ended rest = is_end rest.stage

-- a run that was never polled, with these limits
abbrev pub new_rest : RunnerKey → Limits → RunRest
new_rest key limits = record { runner = record { key = key; count = up_to limits.turn; found = up_to limits.fair }; stage = stage.New }

-- it is asked of a tick
abbrev pub is_tick : RunAsked → Bool
is_tick (AskTick asked) = true
is_tick _ = false

module _ {W : Type 0} where
  -- what an action asks
  abbrev pub asked_by : RunAction W → RunAsked
  asked_by asks.Register = AskRegister
  asked_by asks.PollOwn = AskOwn
  asked_by (asks.Tick action) = AskTick (ticks.asked_by action)
  asked_by asks.Fair = AskFair ticks.AskRun
  asked_by asks.Unregister = AskUnregister
  asked_by asks.Release = AskRelease

  -- which replies answer what is asked
  abbrev pub answers : RunAsked → RunReply W → Bool
  answers AskFirst Begin = true
  answers AskFirst Dropped = true
  answers AskFirst _ = false
  answers AskRegister Registered = true
  answers AskRegister NotRegistered = true
  answers AskRegister _ = false
  answers AskOwn OwnPending = true
  answers AskOwn OwnReady = true
  answers AskOwn _ = false
  answers (AskTick asked) (Tick reply) = ticks.answers asked reply
  answers (AskTick asked) _ = false
  answers (AskFair ticks.AskRun) Moved = true
  answers (AskFair _) _ = false
  answers AskUnregister (Unregistered notice) = true
  answers AskUnregister _ = false
  answers AskRelease Released = true
  answers AskRelease _ = false

  -- the store that a change of the list is followed by
  abbrev pub store_after : RunReply W → Option Asked
  store_after (Tick reply) = ticks.store_after reply
  store_after _ = None

  -- the store that is asked for
  abbrev pub store_in : RunAction W → Option Asked
  store_in (asks.Tick action) = ticks.store_in action
  store_in _ = None

  abbrev pub store_asked : RunNext W → Option Asked
  store_asked (Act machine action) = store_in action
  store_asked (Rest rest end) = None

-- the machine waits for what its action asks, and a rest has ended exactly if the run returns
abbrev pub IsAsked : {W : Type 0} → RunNext W → Type 0
IsAsked (Act machine action) = asked machine ≡ asked_by action
IsAsked (Rest rest end) = has_ended rest ≡ is_return end

-- a run that was never polled, of an executor with these limits, and its ring
abbrev pub IsNewRun : Limits → RunRest → Option IdRing → Type 0
IsNewRun limits rest ring = (rest ≡ new_rest rest.runner.key limits) × (ring ≡ Some (record { ids = []; capacity = limits.local }))

-- what stands in the queue of a runner that is not registered
abbrev pub ids_in : Option IdRing → List TaskId
ids_in None = []
ids_in (Some ring) = ring.ids
