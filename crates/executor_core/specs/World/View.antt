-- How the fields of a `World` are seen, and what holds of them.
use Rattle.std.specs.Prelude.{◌≡◌, ℕ, ◌+◌, ◌*◌, ◌≤◌, true, false, List, length, Option}
use Rattle.executor_core.specs.Cells.{Table}
use Rattle.executor_core.specs.Ring.{IdRing}
use Rattle.executor_core.specs.World.{Execution}
use Rattle.executor_core.specs.World.Agreement.{Agree}
use Rattle.executor_core.specs.World.Closing.{IsClosed}
use Rattle.executor_core.specs.World.Entries.{infos}
use Rattle.executor_core.specs.World.Promises.{NoNoticeLost, TickersTied, notices_out}
use Rattle.executor_core.specs.World.Runners.{RunnersTied}
use Rattle.executor_core.specs.declared.interleave.entry.TaskEntry.{TaskEntry}
use Rattle.executor_core.specs.declared.interleave.World.TheInside.{Inside}

module _ {T : Type 0} where
  -- there is room for the events that the steps to come add, and for what they leave to be spent
  pub record HasRoom (w : Execution T) (capacity : ℕ) : Type 0 where
    pub within : w.accepted ≤ w.limit
    pub bounded : w.limit ≤ 1000000
    pub few_unspent : w.picks + notices_out w ≤ w.accepted
    pub few_tasks : length w.tasks ≤ w.accepted
    -- a close or a leak adds an event for each task, once
    pub few_events : length w.log ≤ 2 * w.accepted + w.limit
    pub few_before : w.closed ≡ false → w.leaked ≡ false → length w.log ≤ 2 * w.accepted
    pub few_tickers : length w.tickers ≤ w.accepted
    pub enough : 3 * w.limit ≤ capacity

module _ {P T : Type 0} where
  abbrev pub execution_of : Inside P T → Execution T
  execution_of a = record { log = a.log.items; accepted = a.accepted; limit = a.limit; local = a.local; global = a.core.cells.global; locals = a.core.cells.locals; notices = a.notices; picks = a.picks; flag = a.core.flag; sleepers = a.core.sleepers; tasks = infos a.entries.items; tickers = a.tickers.items; holder = a.holder; closed = a.core.cells.closed; leaked = a.leaked }

  -- what is seen, the cells, what is kept of the tasks, the rings of new runs, and the room of the log fit together
  pub record IsWorld (w : Execution T) (table : Table P T (Unit {0})) (entries : List (TaskEntry P)) (rings : List (Option IdRing)) (capacity : ℕ) : Type 0 where
    pub agree : Agree table w.log entries
    pub notices : NoNoticeLost w
    pub tickers : TickersTied w.tickers w.holder w.sleepers
    pub runners : RunnersTied w.local w.tickers table rings
    pub closing : w.closed ≡ true → IsClosed w
    pub room : HasRoom w capacity
