-- The table of a tick, keyed by the reply: what that answers, what is asked next or how the poll ends, what is kept then, and what
-- the steps of a world make of the ticker meanwhile.
use Rattle.std.specs.Prelude.{ℕ, ◌==◌, Bool, true, false, Option, Some, None, is_some, cond}
use Rattle.executor_core.specs.World.Phases.{is_run}
use Rattle.executor_core.specs.World.Tickers.{polled, searched, slept, rested, woke, dropped, ended, stored, left}
use Rattle.executor_core.specs.declared.interleave.ticker.Ticker.{Ticker}
use Rattle.executor_core.specs.declared.task.values.Notice.{Notice}
use Rattle.executor_core.specs.declared.task.polling.Taken.{Taken}
use Rattle.async_executor.specs.Ticks.{Asked, AskStart, AskSearch, AskInsert, AskUpdate, AskStore, AskRemove, AskStoreRemoved, AskExchange, AskNotify, AskWake, AskRun}
use Rattle.async_executor.specs.declared.machine.waiting.TickAction.{TickAction}
use Rattle.async_executor.specs.declared.machine.waiting.TickAction.TheVariants.{Search, Insert, Update, Store, Remove, StoreRemoved, Exchange, Notify, Wake, Run}
use Rattle.async_executor.specs.declared.machine.waiting.TickEnd.{TickEnd}
use Rattle.async_executor.specs.declared.machine.waiting.TickEnd.TheVariants.{Park, Yield, Return}
use Rattle.async_executor.specs.declared.machine.waiting.TickReply.{TickReply}
use Rattle.async_executor.specs.declared.machine.waiting.TickReply.TheVariants.{Begin, Dropped, Found, Empty, NoWaker, NoPlace, Inserted, Asleep, WasNotified, Unknown, Stored, RemovedIt, StoredRemoved, Exchanged, Notified, Woken, Ran}

-- what a machine keeps: its number, or 0 while it is awake; a task that it took; and the notice of that take
pub record Kept : Type 0 where
  pub number : ℕ
  pub task : Option (Taken (Unit {0}))
  pub notice : Option Notice

abbrev pub keeps : ℕ → Kept
keeps number = record { number = number; task = None; notice = None }

abbrev pub nothing : Kept
nothing = keeps 0

abbrev pub is_awake : Kept → Bool
is_awake k = k.number == 0

pub data Next (W : Type 0) : Type 0 where
  Ask : TickAction W → Next W
  End : TickEnd → Next W

pub record Row (W : Type 0) : Type 0 where
  pub answers : Asked
  pub next : Next W
  pub kept : Kept
  pub step : Ticker → Ticker

-- a run that is dropped has left before
abbrev pub departed : Ticker → Ticker
departed t = cond (is_run t) (left t) t

module _ {W : Type 0} where
  abbrev pub row : Asked → Next W → Kept → (Ticker → Ticker) → Row W
  row asked next kept step = record { answers = asked; next = next; kept = kept; step = step }

  -- a task that was taken is run, and a tick that was dropped returns
  abbrev pub run_or_return : Asked → Option (Taken (Unit {0})) → (Ticker → Ticker) → Row W
  run_or_return asked (Some taken) step = row asked (Ask (Run taken)) nothing step
  run_or_return asked None step = row asked (End Return) nothing step

  -- but the notices of its take and of the removal are spent before, as one
  abbrev pub spend : Kept → Option Notice → Option Notice → Row W
  spend k (Some notice) removed = row AskStoreRemoved (Ask (Exchange notice)) (record k { notice = None }) stored
  spend k None (Some notice) = row AskStoreRemoved (Ask (Exchange notice)) k stored
  spend k None None = run_or_return AskStoreRemoved k.task stored

  -- by what was asked, what is kept and the reply; `departed` changes nothing of a tick
  abbrev pub table : Asked → Kept → TickReply W → Row W
  table asked k Begin = row AskStart (Ask (Search None)) k polled
  table asked k Dropped =
      cond (is_awake k)
      (row AskStart (End Return) nothing ended)
      (row AskStart (Ask (Remove k.number)) k departed)
  table asked k (Found taken notice) =
      cond (is_awake k)
      (row AskSearch (Ask (Exchange notice)) (record nothing { task = Some taken }) (searched true))
      (row AskSearch (Ask (Remove k.number)) (record k { task = Some taken; notice = Some notice }) (searched true))
  table asked k Empty =
      cond (is_awake k)
      (row AskSearch (Ask Insert) nothing (searched false))
      (row AskSearch (Ask (Update k.number)) k (searched false))
  table asked k NoWaker = row asked (End Yield) k rested
  table asked k NoPlace = row AskInsert (End Yield) k rested
  table asked k (Inserted number change) = row AskInsert (Ask (Store change)) (record k { number = number }) (slept number)
  table asked k Asleep = row (AskUpdate k.number) (End Park) k rested
  table asked k (WasNotified change) = row (AskUpdate k.number) (Ask (Store change)) k (slept k.number)
  table asked k Unknown = row (AskUpdate k.number) (End Yield) k rested
  table asked k (Stored again) = row AskStore (Ask (Search (Some again))) k stored
  table asked k (RemovedIt change) = row (AskRemove k.number) (Ask (StoreRemoved change)) (record k { number = 0 }) (cond (is_some k.task) woke dropped (is_some change.carried.notice))
  table asked k (StoredRemoved notice) = spend k k.notice notice
  table asked k (Exchanged (Some pick)) = row AskExchange (Ask (Notify pick)) k (λ t. t)
  table asked k (Exchanged None) = run_or_return AskExchange k.task (λ t. t)
  table asked k (Notified (Some wakeup)) = row AskNotify (Ask (Wake wakeup)) k (λ t. t)
  table asked k (Notified None) = run_or_return AskNotify k.task (λ t. t)
  table asked k Woken = run_or_return AskWake k.task (λ t. t)
  table asked k Ran = row AskRun (End Return) nothing ended
