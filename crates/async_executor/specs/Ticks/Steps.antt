-- Which steps of a ticker a reply stands for.
use Rattle.std.specs.Prelude.{Bool, true, ◌&&◌, cond, is_some}
use Rattle.executor_core.specs.World.Phases.{at_rest, in_search, in_sleep, in_wake, in_store, is_awake}
use Rattle.executor_core.specs.declared.interleave.ticker.Ticker.{Ticker}
use Rattle.async_executor.specs.Steps.Tickers.{may_leave}
use Rattle.async_executor.specs.Ticks.{asked_in, asked_of}
use Rattle.async_executor.specs.Ticks.Rows.{kept_in, kept_of}
use Rattle.async_executor.specs.Ticks.Table.{Kept, table}
use Rattle.async_executor.specs.declared.machine.tick.TickState.{TickState}
use Rattle.async_executor.specs.declared.machine.waiting.TickReply.{TickReply}
use Rattle.async_executor.specs.declared.machine.waiting.TickReply.TheVariants.{Begin, Dropped, Found, Empty, NoWaker, NoPlace, Inserted, Asleep, WasNotified, Unknown, Stored, RemovedIt, StoredRemoved, Exchanged, Notified, Woken, Ran}
use Rattle.async_executor.specs.declared.machine.waiting.Waiting.{Waiting}

-- the ticker is where these steps are enabled, but for who holds the sleepers' lock
abbrev pub enabled : {W : Type 0} → Kept → TickReply W → Ticker → Bool
enabled k Begin t = at_rest t.phase
enabled k Dropped t = at_rest t.phase
enabled k (Found taken notice) t = in_search t.phase
enabled k Empty t = in_search t.phase
enabled k NoWaker t = in_sleep t.phase
enabled k NoPlace t = in_sleep t.phase
enabled k (Inserted number change) t = in_sleep t.phase && is_awake t
enabled k Asleep t = in_sleep t.phase
enabled k (WasNotified change) t = in_sleep t.phase
enabled k Unknown t = in_sleep t.phase
enabled k (Stored again) t = in_store t.phase
enabled k (RemovedIt change) t = cond (is_some k.task) (in_wake t.phase) (may_leave t)
enabled k (StoredRemoved notice) t = in_store t.phase
enabled k (Exchanged pick) t = true
enabled k (Notified wakeup) t = true
enabled k Woken t = true
enabled k Ran t = true

module _ {W : Type 0} where
  -- what the steps make of the ticker is the table's; the values that a reply gives out to be spent are spent by no step of the
  -- ticker's own
  abbrev pub leads : TickState → TickReply W → Ticker → Ticker
  leads state reply = (table (asked_in state) (kept_in state) reply).step

  abbrev pub may_lead : TickState → TickReply W → Ticker → Bool
  may_lead state reply = enabled (kept_in state) reply

  -- the same of a step that waits for the reply
  abbrev pub leads_from : {A : Type 0} → Waiting A → TickReply W → Ticker → Ticker
  leads_from waiting reply = (table (asked_of waiting) (kept_of waiting) reply).step

  abbrev pub may_lead_from : {A : Type 0} → Waiting A → TickReply W → Ticker → Bool
  may_lead_from waiting reply = enabled (kept_of waiting) reply
