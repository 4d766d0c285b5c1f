-- What a contract sees of a `World`.
pub mod Agreement
pub mod AllPromises
pub mod Closing
pub mod Coding
pub mod Entries
pub mod Log
pub mod Order
pub mod Phases
pub mod Promises
pub mod Runners
pub mod Steps
pub mod Takes
pub mod Tickers
pub mod View
use Rattle.std.specs.Prelude.{ℕ, Bool, List, Option}
use Rattle.executor_core.specs.Queues.{RunnerQueue}
use Rattle.executor_core.specs.Sleepers.{SleeperList}
use Rattle.executor_core.specs.declared.interleave.entry.TaskInfo.{TaskInfo}
use Rattle.executor_core.specs.declared.interleave.ticker.Ticker.{Ticker}
use Rattle.executor_core.specs.declared.interleave.event.Event.{Event}

-- the log, how many steps were accepted and may be, for how many tasks a run's own queue has room, the global queue,
-- those of the registered runners in order of registration, how many notices and picks float, the flag and the sleepers,
-- by number what the log does not say of a task and of a ticker, the ticker that holds the sleepers' lock, and whether
-- the executor was closed, and whether it was leaked
pub record Execution (T : Type 0) : Type 0 where
  pub log : List (Event T)
  pub accepted : ℕ
  pub limit : ℕ
  pub local : ℕ
  pub global : List ℕ
  pub locals : List (RunnerQueue ℕ)
  pub notices : ℕ
  pub picks : ℕ
  pub flag : Bool
  pub sleepers : SleeperList (Unit {0})
  pub tasks : List TaskInfo
  pub tickers : List Ticker
  pub holder : Option ℕ
  pub closed : Bool
  pub leaked : Bool
