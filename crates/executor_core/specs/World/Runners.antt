-- What ties the runs to their runners: those of the table, and the rings that wait for them.
use Rattle.std.specs.Prelude.{◌≡◌, ℕ, ◌<◌, true, List, [], length, Option, Some, count_by, slice_get}
use Rattle.executor_core.specs.Cells.{Table}
use Rattle.executor_core.specs.Queues.{RunnerQueue, is_registered}
use Rattle.executor_core.specs.Ring.{IdRing}
use Rattle.executor_core.specs.World.Phases.{is_run, needs_queue}
use Rattle.executor_core.specs.World.Tickers.{is_new_run}
use Rattle.executor_core.specs.declared.interleave.ticker.Ticker.{Ticker}

-- an empty ring with a run's places
abbrev pub new_ring : ℕ → IdRing
new_ring local = record { ids = []; capacity = local }

-- by the places of a run's own queue
module _ {P T W : Type 0} (local : ℕ) where
  -- what holds of the run of this runner
  pub record RunTied (t : Ticker) (runner : ℕ) (table : Table P T W) (rings : List (Option IdRing)) : Type 0 where
    pub made : runner < table.next_runner
    -- if it goes on with its queue, it is registered
    pub registered : needs_queue t.phase ≡ true → is_registered runner table.locals ≡ true
    -- a new run is awake, and its ring waits
    pub awake : is_new_run table.locals t ≡ true → t.number ≡ 0
    pub ring : is_new_run table.locals t ≡ true → slice_get rings runner ≡ Some (Some (new_ring local))

  -- what holds of a registered queue
  pub record QueueTied (q : RunnerQueue ℕ) (table : Table P T W) : Type 0 where
    pub made : q.runner < table.next_runner
    pub places : q.capacity ≡ local

  pub record RunnersTied (tickers : List Ticker) (table : Table P T W) (rings : List (Option IdRing)) : Type 0 where
    pub roomy : 0 < local
    -- as many runners were made as there are runs, with a ring for each
    pub runners : table.next_runner ≡ count_by is_run tickers
    pub kept : length rings ≡ table.next_runner
    pub runs : (k : ℕ) (t : Ticker) (runner : ℕ) → slice_get tickers k ≡ Some t → t.runner ≡ Some runner → RunTied t runner table rings
    -- a runner is one run's
    pub once : (j k : ℕ) (t u : Ticker) (runner : ℕ) → slice_get tickers j ≡ Some t → slice_get tickers k ≡ Some u → t.runner ≡ Some runner → u.runner ≡ Some runner → j ≡ k
    pub queues : (i : ℕ) (q : RunnerQueue ℕ) → slice_get table.locals i ≡ Some q → QueueTied q table
    -- a place is free for each new run
    pub places : table.free_places ≡ count_by (is_new_run table.locals) tickers
