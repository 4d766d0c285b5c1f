-- What a tick asks for, and what answers it.
pub mod Courses
pub mod Decisions
pub mod Replies
pub mod Rows
pub mod Steps
pub mod Table
pub mod Tickers
use Rattle.std.specs.Prelude.{◌≡◌, ℕ, Bool, true, false, Option, Some, None}
use Rattle.async_executor.specs.declared.machine.tick.TickState.{TickState}
use Rattle.async_executor.specs.declared.machine.tick.TickState.TheVariants as state
use Rattle.async_executor.specs.declared.machine.waiting.TickAction.{TickAction}
use Rattle.async_executor.specs.declared.machine.waiting.TickAction.TheVariants.{Search, Insert, Update, Store, Remove, StoreRemoved, Exchange, Notify, Wake, Run}
use Rattle.async_executor.specs.declared.machine.waiting.TickEnd.{TickEnd}
use Rattle.async_executor.specs.declared.machine.waiting.TickEnd.TheVariants.{Park, Yield, Return}
use Rattle.async_executor.specs.declared.machine.tick.TickMachine.{TickMachine}
use Rattle.async_executor.specs.declared.machine.tick.TickNext.{TickNext}
use Rattle.async_executor.specs.declared.machine.tick.TickNext.TheVariants.{Act, Rest}
use Rattle.async_executor.specs.declared.machine.waiting.Spending.{Spending}
use Rattle.async_executor.specs.declared.machine.waiting.Spending.TheVariants.{Exchanging, Notifying, Waking}
use Rattle.async_executor.specs.declared.machine.waiting.TickReply.{TickReply}
use Rattle.async_executor.specs.declared.machine.waiting.TickReply.TheVariants.{Begin, Dropped, Found, Empty, NoWaker, NoPlace, Inserted, Asleep, WasNotified, Unknown, Stored, RemovedIt, StoredRemoved, Exchanged, Notified, Woken, Ran}
use Rattle.async_executor.specs.declared.machine.waiting.Waiting.{Waiting}
use Rattle.async_executor.specs.declared.machine.waiting.Waiting.TheVariants.{Searching, Inserting, Updating, Storing, Removing, StoringRemoved, Announcing, Leaving, StoringLeft, PassingOn}

-- what is asked: to begin or to be dropped, or one of the actions, of the sleeper of a number
pub data Asked : Type 0 where
  AskStart : Asked
  AskSearch : Asked
  AskInsert : Asked
  AskUpdate : ℕ → Asked
  AskStore : Asked
  AskRemove : ℕ → Asked
  AskStoreRemoved : Asked
  AskExchange : Asked
  AskNotify : Asked
  AskWake : Asked
  AskRun : Asked

-- what a step waits for
abbrev pub asked_of_spending : Spending → Asked
asked_of_spending Exchanging = AskExchange
asked_of_spending Notifying = AskNotify
asked_of_spending Waking = AskWake

abbrev pub asked_of : {A : Type 0} → Waiting A → Asked
asked_of (Searching searching) = AskSearch
asked_of (Inserting inserting) = AskInsert
asked_of (Updating updating) = AskUpdate updating.number
asked_of (Storing storing) = AskStore
asked_of (Removing removing) = AskRemove removing.number
asked_of (StoringRemoved storing) = AskStoreRemoved
asked_of (Announcing spending announcing) = asked_of_spending spending
asked_of (Leaving leaving) = AskRemove leaving.number
asked_of (StoringLeft storing) = AskStoreRemoved
asked_of (PassingOn spending departed) = asked_of_spending spending

-- what a machine waits for
abbrev pub asked_in : TickState → Asked
asked_in (state.Resting number) = AskStart
asked_in (state.Waiting waiting) = asked_of waiting
asked_in (state.Running departed) = AskRun

abbrev pub asked : TickMachine → Asked
asked machine = asked_in machine.state

module _ {W : Type 0} where
  -- what an action asks
  abbrev pub asked_by : TickAction W → Asked
  asked_by (Search again) = AskSearch
  asked_by Insert = AskInsert
  asked_by (Update number) = AskUpdate number
  asked_by (Store change) = AskStore
  asked_by (Remove number) = AskRemove number
  asked_by (StoreRemoved change) = AskStoreRemoved
  asked_by (Exchange notice) = AskExchange
  asked_by (Notify pick) = AskNotify
  asked_by (Wake wakeup) = AskWake
  asked_by (Run taken) = AskRun

  -- which replies answer what is asked
  abbrev pub answers : Asked → TickReply W → Bool
  answers AskStart Begin = true
  answers AskStart Dropped = true
  answers AskStart _ = false
  answers AskSearch (Found taken notice) = true
  answers AskSearch Empty = true
  answers AskSearch _ = false
  answers AskInsert NoWaker = true
  answers AskInsert NoPlace = true
  answers AskInsert (Inserted number change) = true
  answers AskInsert _ = false
  answers (AskUpdate number) NoWaker = true
  answers (AskUpdate number) Asleep = true
  answers (AskUpdate number) (WasNotified change) = true
  answers (AskUpdate number) Unknown = true
  answers (AskUpdate number) _ = false
  answers AskStore (Stored again) = true
  answers AskStore _ = false
  answers (AskRemove number) (RemovedIt change) = true
  answers (AskRemove number) _ = false
  answers AskStoreRemoved (StoredRemoved notice) = true
  answers AskStoreRemoved _ = false
  answers AskExchange (Exchanged pick) = true
  answers AskExchange _ = false
  answers AskNotify (Notified wakeup) = true
  answers AskNotify _ = false
  answers AskWake Woken = true
  answers AskWake _ = false
  answers AskRun Ran = true
  answers AskRun _ = false

  -- the store that a change of the list is followed by
  abbrev pub store_after : TickReply W → Option Asked
  store_after (Inserted number change) = Some AskStore
  store_after (WasNotified change) = Some AskStore
  store_after (RemovedIt change) = Some AskStoreRemoved
  store_after _ = None

  -- the store that is asked for
  abbrev pub store_in : TickAction W → Option Asked
  store_in (Store change) = Some AskStore
  store_in (StoreRemoved change) = Some AskStoreRemoved
  store_in _ = None

  abbrev pub store_asked : TickNext W → Option Asked
  store_asked (Act machine action) = store_in action
  store_asked (Rest rest end) = None

-- a tick that returns has ended
abbrev pub is_return : TickEnd → Bool
is_return Return = true
is_return _ = false

-- the machine waits for what its action asks, and a rest has ended exactly if the tick returns
abbrev pub IsAsked : {W : Type 0} → TickNext W → Type 0
IsAsked (Act machine action) = asked machine ≡ asked_by action
IsAsked (Rest rest end) = rest.ended ≡ is_return end
