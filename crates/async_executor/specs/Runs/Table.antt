-- The table of a run, keyed by the reply, over that of a tick: what the reply answers, what is asked
-- next or how the poll ends, what is kept then, and what the steps of a world make of the ticker.
use Rattle.std.specs.Prelude.{ℕ, ◌==◌, Bool, true, false, Option, Some, None, cond, is_some, unwrap_or}
use Rattle.executor_core.specs.World.Tickers.{polled, ended, left}
use Rattle.executor_core.specs.declared.interleave.ticker.Ticker.{Ticker}
use Rattle.executor_core.specs.declared.task.polling.Taken.{Taken}
use Rattle.async_executor.specs.Ticks.{Asked, AskStart, AskRun}
use Rattle.async_executor.specs.Ticks.Table as tick
use Rattle.async_executor.specs.Runs.{RunAsked, AskFirst, AskRegister, AskOwn, AskTick, AskFair, AskUnregister, AskRelease}
use Rattle.async_executor.specs.Runs.Counts.{Counted, goes_on, more, anew}
use Rattle.async_executor.specs.declared.machine.run.RunAction.{RunAction}
use Rattle.async_executor.specs.declared.machine.run.RunAction.TheVariants as asks
use Rattle.async_executor.specs.declared.machine.run.RunReply.{RunReply}
use Rattle.async_executor.specs.declared.machine.run.RunReply.TheVariants.{Begin, Dropped, Registered, NotRegistered, OwnPending, OwnReady, Tick, Moved, Unregistered, Released}
use Rattle.async_executor.specs.declared.machine.waiting.TickAction.TheVariants.{Search, Remove, Exchange, Run}
use Rattle.async_executor.specs.declared.machine.waiting.TickEnd.{TickEnd}
use Rattle.async_executor.specs.declared.machine.waiting.TickEnd.TheVariants.{Yield, Return}
use Rattle.async_executor.specs.declared.machine.waiting.TickReply.TheVariants.{Ran}

-- what a machine keeps: what its tick keeps, or its number; how many tasks it ran in this turn, and how many it found since its last fair part, each with its limit; whether
-- its runner is registered; and, while the notice of its ended queue is spent, the number that it removes after that
pub record Kept : Type 0 where
  pub tick : tick.Kept
  pub count : Counted
  pub found : Counted
  pub registered : Bool
  pub later : Option ℕ

pub data Next (W : Type 0) : Type 0 where
  Ask : RunAction W → Next W
  End : TickEnd → Next W

pub record Row (W : Type 0) : Type 0 where
  pub answers : RunAsked
  pub next : Next W
  pub kept : Kept
  pub step : Ticker → Ticker

-- its queue has ended, and so has the run if it has no number
abbrev pub left_with : Kept → ℕ → Kept
left_with k number = record k { tick = tick.keeps number; registered = false; later = None }

-- what its tick was asked
abbrev pub of_tick : RunAsked → Asked
of_tick (AskTick asked) = asked
of_tick _ = AskStart

module _ {W : Type 0} where
  abbrev pub row : RunAsked → Next W → Kept → (Ticker → Ticker) → Row W
  row asked next kept step = record { answers = asked; next = next; kept = kept; step = step }

  -- its number is removed, and one that is awake returns
  abbrev pub leave : RunAsked → Kept → ℕ → (Ticker → Ticker) → Row W
  leave asked k number step =
      cond (number == 0)
      (row asked (End Return) (left_with k 0) (λ t. ended (step t)))
      (row asked (Ask (asks.Tick (Remove number))) (left_with k number) step)

  -- a task that was found is run, and with the last one of so many a fair part is taken before
  abbrev pub find : RunAsked → Kept → Taken (Unit {0}) → (Ticker → Ticker) → Row W
  find asked k taken step =
      cond (goes_on k.found)
      (row asked (Ask (asks.Tick (Run taken))) (record k { found = more k.found }) step)
      (row asked (Ask asks.Fair) (record k { tick = record k.tick { task = Some taken }; found = anew k.found }) step)

  abbrev pub run_shared : Kept → Option (Taken (Unit {0})) → Row W
  run_shared k (Some taken) = row (AskFair AskRun) (Ask (asks.Tick (Run taken))) (record k { tick = tick.nothing }) (λ t. t)
  run_shared k None = row (AskFair AskRun) (End Return) k (λ t. t)

  -- its tick's row goes on as it is, but for a task to run and for its return
  abbrev pub go_on : RunAsked → Kept → tick.Next W → tick.Kept → (Ticker → Ticker) → Row W
  go_on asked k (tick.Ask (Run taken)) kept step = find asked (record k { tick = kept }) taken step
  go_on asked k (tick.Ask action) kept step = row asked (Ask (asks.Tick action)) (record k { tick = kept }) step
  go_on asked k (tick.End Return) kept step = leave asked k (unwrap_or k.later 0) step
  go_on asked k (tick.End end) kept step = row asked (End end) (record k { tick = kept }) step

  -- and the run's ticker stands still while the notice of its queue is spent
  abbrev pub of_row : Kept → tick.Row W → Row W
  of_row k r = go_on (AskTick r.answers) k r.next r.kept (cond (is_some k.later) (λ t. t) r.step)

  -- by what was asked, what is kept and the reply
  abbrev pub table : RunAsked → Kept → RunReply W → Row W
  table asked k Begin = row AskFirst (Ask (cond k.registered asks.PollOwn asks.Register)) k (λ t. t)
  table asked k Dropped = row AskFirst (Ask (cond k.registered asks.Unregister asks.Release)) k (λ t. t)
  table asked k Registered = row AskRegister (Ask asks.PollOwn) (record k { registered = true }) (λ t. t)
  table asked k NotRegistered = row AskRegister (End Yield) k (λ t. t)
  table asked k OwnPending = row AskOwn (Ask (asks.Tick (Search None))) k polled
  table asked k OwnReady = row AskOwn (Ask asks.Unregister) k (λ t. t)
  table asked k (Tick Ran) =
      cond (goes_on k.count)
      (row (AskTick AskRun) (Ask (asks.Tick (Search None))) (record k { tick = tick.nothing; count = more k.count }) polled)
      (row (AskTick AskRun) (End Yield) (record k { tick = tick.nothing; count = anew k.count }) (λ t. t))
  table asked k (Tick reply) = of_row k (tick.table (of_tick asked) k.tick reply)
  table asked k Moved = run_shared k k.tick.task
  table asked k (Unregistered (Some notice)) = row AskUnregister (Ask (asks.Tick (Exchange notice))) (record (left_with k 0) { later = Some k.tick.number }) left
  table asked k (Unregistered None) = leave AskUnregister k k.tick.number left
  table asked k Released = row AskRelease (End Return) (left_with k 0) ended
