-- What comes of a reply to a step that waits for it.
use Rattle.std.specs.Prelude.{◌≡◌, ℕ, Bool, true, false, Option, Some, None, is_none}
use Rattle.executor_core.specs.declared.interleave.ticker.Ticker.{Ticker}
use Rattle.executor_core.specs.declared.task.values.Notice.{Notice}
use Rattle.async_executor.specs.Steps.Tickers.{of_departed, of_rested, of_running}
use Rattle.async_executor.specs.Ticks.{Asked, asked_by, asked_of, is_return, store_in}
use Rattle.async_executor.specs.Ticks.Tickers.{removed_notified, ticker_of_waiting}
use Rattle.async_executor.specs.declared.machine.steps.Departed.{Departed}
use Rattle.async_executor.specs.declared.machine.steps.Departing.{Departing}
use Rattle.async_executor.specs.declared.machine.steps.Departing.TheVariants as departing
use Rattle.async_executor.specs.declared.machine.steps.Found.{Found}
use Rattle.async_executor.specs.declared.machine.steps.Found.TheVariants as found
use Rattle.async_executor.specs.declared.machine.steps.GoingToSleep.{GoingToSleep}
use Rattle.async_executor.specs.declared.machine.steps.GoingToSleep.TheVariants as going
use Rattle.async_executor.specs.declared.machine.steps.Yielding.{Yielding}
use Rattle.async_executor.specs.declared.machine.tick.Alone.{Alone}
use Rattle.async_executor.specs.declared.machine.tick.TickNext.{TickNext}
use Rattle.async_executor.specs.declared.machine.tick.TickNext.TheVariants as next
use Rattle.async_executor.specs.declared.machine.tick.TickState.TheVariants as state
use Rattle.async_executor.specs.declared.machine.waiting.Came.{Came}
use Rattle.async_executor.specs.declared.machine.waiting.Came.TheVariants.{Act, Rest, Run, End}
use Rattle.async_executor.specs.declared.machine.waiting.Spending.{Spending}
use Rattle.async_executor.specs.declared.machine.waiting.Spending.TheVariants.{Exchanging, Notifying, Waking}
use Rattle.async_executor.specs.declared.machine.waiting.TickAction.{TickAction}
use Rattle.async_executor.specs.declared.machine.waiting.TickAction.TheVariants as asks
use Rattle.async_executor.specs.declared.machine.waiting.TickEnd.TheVariants.{Yield, Return}
use Rattle.async_executor.specs.declared.machine.waiting.TickReply.{TickReply}
use Rattle.async_executor.specs.declared.machine.waiting.TickReply.TheVariants.{StoredRemoved, Exchanged, Notified, Woken, Ran}
use Rattle.async_executor.specs.declared.machine.waiting.Waiting.{Waiting}
use Rattle.async_executor.specs.declared.machine.waiting.Waiting.TheVariants.{Searching, Inserting, Updating, Storing, Removing, StoringRemoved, Announcing, Leaving, StoringLeft, PassingOn}

-- who goes the step
abbrev pub actor_of : {A : Type 0} → Waiting A → A
actor_of (Searching s) = s.actor
actor_of (Inserting s) = s.actor
actor_of (Updating s) = s.actor
actor_of (Storing s) = s.actor
actor_of (Removing s) = s.actor
actor_of (StoringRemoved s) = s.actor
actor_of (Announcing spending s) = s.actor
actor_of (Leaving s) = s.actor
actor_of (StoringLeft s) = s.actor
actor_of (PassingOn spending s) = s.actor

-- it seeks a task, or has one to run; else it was dropped
abbrev pub is_seeking : {A : Type 0} → Waiting A → Bool
is_seeking (Leaving s) = false
is_seeking (StoringLeft s) = false
is_seeking (PassingOn spending s) = false
is_seeking _ = true

-- a task was run
abbrev pub is_ran : {W : Type 0} → TickReply W → Bool
is_ran Ran = true
is_ran _ = false

-- one that was dropped has nothing left to spend
abbrev pub is_last : {W : Type 0} → TickReply W → Bool
is_last (StoredRemoved notified) = is_none notified
is_last (Exchanged pick) = is_none pick
is_last (Notified wakeup) = is_none wakeup
is_last Woken = true
is_last _ = false

-- a notice is spent by the flag, its pick by the list, and the wakeup of that by a wake
abbrev pub spends : {W : Type 0} → TickReply W → Option (Spending × TickAction W)
spends (Exchanged (Some pick)) = Some (Notifying, asks.Notify pick)
spends (Notified (Some wakeup)) = Some (Waking, asks.Wake wakeup)
spends _ = None

abbrev pub runs : {W : Type 0} → TickAction W → Bool
runs (asks.Run taken) = true
runs _ = false

module _ {A W : Type 0} where
  -- what a search, a drop and the store after a drop come to
  abbrev pub finds : Found A → Came A W
  finds (found.Awake announcing notice) = Act (Announcing Exchanging announcing) (asks.Exchange notice)
  finds (found.Asleep removing) = Act (Removing removing) (asks.Remove removing.number)

  abbrev pub sleeps : GoingToSleep A → Came A W
  sleeps (going.Insert inserting) = Act (Inserting inserting) asks.Insert
  sleeps (going.Update updating) = Act (Updating updating) (asks.Update updating.number)

  -- one that could not go to sleep yields
  abbrev pub yields : Yielding A → Came A W
  yields yielding = Rest (record { actor = yielding.actor; number = yielding.number }) Yield

  abbrev pub departs : Departing A → Came A W
  departs (departing.Awake departed) = End departed
  departs (departing.Asleep leaving) = Act (Leaving leaving) (asks.Remove leaving.number)

  abbrev pub passes_on : Departed A → Option Notice → Came A W
  passes_on departed (Some notice) = Act (PassingOn Exchanging departed) (asks.Exchange notice)
  passes_on departed None = End departed

  abbrev pub actor_after : Came A W → A
  actor_after (Act waiting action) = actor_of waiting
  actor_after (Rest at_rest end) = at_rest.actor
  actor_after (Run running) = running.actor
  actor_after (End departed) = departed.actor

  -- the step waits for what its action asks, and no poll that answers pending is a return
  abbrev pub Waits : Came A W → Type 0
  Waits (Act waiting action) = asked_of waiting ≡ asked_by action
  Waits (Rest at_rest end) = is_return end ≡ false
  Waits _ = Unit {0}

  -- and no action of it runs a task
  abbrev pub RunsNone : Came A W → Type 0
  RunsNone (Act waiting action) = runs action ≡ false
  RunsNone _ = Unit {0}

  -- one that seeks ends with a rest or with its task, and one that was dropped has left in the end
  abbrev pub KeepsCourse : Bool → Came A W → Type 0
  KeepsCourse seeking (Act waiting action) = is_seeking waiting ≡ seeking
  KeepsCourse seeking (Rest at_rest end) = seeking ≡ true
  KeepsCourse seeking (Run running) = seeking ≡ true
  KeepsCourse seeking (End departed) = seeking ≡ false

  -- one that was dropped ends with the last of its replies
  abbrev pub has_left : Came A W → Bool
  has_left (End departed) = true
  has_left _ = false

  abbrev pub EndsLast : Waiting A → TickReply W → Came A W → Type 0
  EndsLast (Leaving s) reply came = has_left came ≡ is_last reply
  EndsLast (StoringLeft s) reply came = has_left came ≡ is_last reply
  EndsLast (PassingOn spending s) reply came = has_left came ≡ is_last reply
  EndsLast _ reply came = Unit {0}

  -- the store that is asked for
  abbrev pub store_asked : Came A W → Option Asked
  store_asked (Act waiting action) = store_in action
  store_asked _ = None

  -- the ticker after it
  abbrev pub ticker_after : Option ℕ → Came A W → Ticker
  ticker_after runner (Act waiting action) = ticker_of_waiting runner (removed_notified action) waiting
  ticker_after runner (Rest at_rest end) = of_rested at_rest runner
  ticker_after runner (Run running) = of_running running runner
  ticker_after runner (End departed) = of_departed departed runner

module _ {W : Type 0} where
  -- a tick that is polled searches, and one that has ended returns
  abbrev pub polls : ℕ → TickNext W
  polls number = next.Act (record { state = state.Waiting (Searching (record { actor = record {}; number = number })) }) (asks.Search None)

  abbrev pub returns : TickNext W
  returns = next.Rest (record { number = 0; ended = true }) Return

  -- as the machine of a tick says it
  abbrev pub decision : Came Alone W → TickNext W
  decision (Act waiting action) = next.Act (record { state = state.Waiting waiting }) action
  decision (Rest at_rest end) = next.Rest (record { number = at_rest.number; ended = false }) end
  decision (Run running) = next.Act (record { state = state.Running (record { actor = running.actor }) }) (asks.Run running.taken)
  decision (End departed) = returns
