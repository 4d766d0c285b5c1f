-- What holds of the log of every world, and of the queues, the flag and the sleepers beside it.
use Rattle.std.specs.Prelude.{◌≡◌, ◌≢◌, ℕ, ◌+◌, ◌==◌, ◌<◌, ◌≤◌, nat_lt, Bool, true, false, not, ◌||◌, List, [], ◌∷◌, ◌++◌, length, map, sum_by, count_by, Option, Some, None, is_some, slice_get, cond}
use Rattle.std.specs.List.{list_any}
use Rattle.std.specs.FinSet as set
use Rattle.executor_core.specs.Numbers.{times}
use Rattle.executor_core.specs.Queues.{QueueLists, all_entries}
use Rattle.executor_core.specs.Sleepers.{SleeperList, is_notified}
use Rattle.executor_core.specs.World.{Execution}
use Rattle.executor_core.specs.World.Phases.{is_awake, is_run, in_wake, in_store, has_ended, gave_up, notices_in, has_to_search, has_to_spend, ticker_or}
use Rattle.executor_core.specs.World.Log.{cancelled, held, dropped, owed, outputs, given, polls, wakes}
use Rattle.executor_core.specs.declared.interleave.ticker.Ticker.{Ticker}
use Rattle.executor_core.specs.declared.interleave.event.Purpose.TheVariants.{ToPoll, ToDrop}
use Rattle.executor_core.specs.declared.interleave.event.Event.{Event}
use Rattle.executor_core.specs.declared.interleave.event.Event.TheVariants.{Took, Finished, Dropped, Got}

module _ {T : Type 0} where
  -- a task stands once in the queue if it is owed a poll or a drop, and else it does not
  abbrev pub OnePlace : List (Event T) → List ℕ → Type 0
  OnePlace log queue = (n : ℕ) → times n queue ≡ cond (owed n log) 1 0

  -- the event may stand right after these
  abbrev pub MayFollow : List (Event T) → Event T → Type 0
  -- a task is taken while it is neither held nor dropped: to be polled if it was not cancelled, else to be dropped
  MayFollow before (Took n ToPoll) = (cancelled n before ≡ false) × (held n before ≡ false) × (dropped n before ≡ false)
  MayFollow before (Took n ToDrop) = (cancelled n before ≡ true) × (held n before ≡ false) × (dropped n before ≡ false)
  -- a future is dropped once
  MayFollow before (Dropped n) = dropped n before ≡ false
  -- a cancelled task does not finish
  MayFollow before (Finished n t) = cancelled n before ≡ false
  -- a handle gives the one output of its own task, once
  MayFollow before (Got n t) = (outputs n before ≡ t ∷ []) × (given n before ≡ [])
  MayFollow before _ = Unit {0}

  -- right use and outputs: each event may stand where it stands
  abbrev pub InOrder : List (Event T) → Type 0
  InOrder log = (before : List (Event T)) (e : Event T) (after : List (Event T)) → log ≡ before ++ e ∷ after → MayFollow before e

  -- a task is polled at most once more than it was woken
  abbrev pub FewPolls : List (Event T) → Type 0
  FewPolls log = (n : ℕ) → polls n log ≤ 1 + wakes n log

module _ {W : Type 0} where
  -- more numbers are in use than stand in the list
  abbrev pub some_notified : SleeperList W → Bool
  some_notified sleepers = nat_lt (length sleepers.unnotified) (set.len sleepers.used)

-- the one who holds the sleepers' lock, if there is one, has a notice or a search to make
abbrev pub holder_spends : Option ℕ → List Ticker → Bool
holder_spends None tickers = false
holder_spends (Some k) tickers = has_to_spend (ticker_or (slice_get tickers k)).phase

-- every ticker is a run
abbrev pub only_runs : List Ticker → Bool
only_runs tickers = not (list_any (λ t. not (is_run t)) tickers)

module _ {T : Type 0} where
  -- the queues of the world
  abbrev pub queues : Execution T → QueueLists ℕ
  queues w = record { global = w.global; locals = w.locals }

  -- the numbers of all queues together
  abbrev pub all_queues : Execution T → List ℕ
  all_queues w = all_entries (queues w)

  -- the notices that any party may spend
  abbrev pub floating_notices : Execution T → ℕ
  floating_notices w = w.notices

  -- the notices that tickers keep, and those in their changes
  abbrev pub kept_notices : Execution T → ℕ
  kept_notices w = sum_by (λ t. notices_in t.phase) w.tickers

  -- the notices that are out, whoever has them
  abbrev pub notices_out : Execution T → ℕ
  notices_out w = floating_notices w + kept_notices w

  -- a ticker has still to search
  abbrev pub some_search : Execution T → Bool
  some_search w = list_any (λ t. has_to_search t.phase) w.tickers

  -- somebody has still to exchange the flag, to notify a sleeper or to search: a notice or a pick is out, or a search to be
  -- made
  abbrev pub is_obliged : Execution T → Bool
  is_obliged w = nat_lt 0 (notices_out w) || nat_lt 0 w.picks || some_search w

  -- a flag that is true has a cause: nobody sleeps, a sleeper is notified, a pick is out, or the lock's
  -- holder has something left to spend
  abbrev pub FlagLaw : Execution T → Type 0
  FlagLaw w = w.flag ≡ true → is_notified w.sleepers || nat_lt 0 w.picks || holder_spends w.holder w.tickers ≡ true

  -- if there is a task among these while somebody sleeps, a sleeper is notified, or an obligation is out
  abbrev pub CoversQueued : List ℕ → Execution T → Type 0
  CoversQueued queued w = queued ≢ [] → 0 < set.len w.sleepers.used → some_notified w.sleepers || is_obliged w ≡ true

  -- this holds of the global queue
  abbrev pub Covered : Execution T → Type 0
  Covered w = CoversQueued w.global w

  -- and of all queues together if every ticker is a run, since a run searches all of them
  abbrev pub RunsCovered : Execution T → Type 0
  RunsCovered w = only_runs w.tickers ≡ true → CoversQueued (all_queues w) w

  -- no notice is lost
  pub record NoNoticeLost (w : Execution T) : Type 0 where
    pub flag_law : FlagLaw w
    pub covered : Covered w
    pub runs_covered : RunsCovered w

-- the tie between the tickers and the list of sleepers
-- the numbers of the tickers, 0 being that of one that is awake
abbrev pub numbers_of : List Ticker → List ℕ
numbers_of tickers = map (λ t. t.number) tickers

-- this ticker holds the sleepers' lock
abbrev pub holds : ℕ → Option ℕ → Bool
holds k None = false
holds k (Some holder) = holder == k

module _ {W : Type 0} where
  -- each number in use is one ticker's, and each place that of one which has not ended
  pub record NumbersTied (tickers : List Ticker) (s : SleeperList W) : Type 0 where
    pub numbers : (i : ℕ) → 0 < i → times i (numbers_of tickers) ≡ cond (set.contains s.used i) 1 0
    pub sleeping : set.len s.used ≡ count_by (λ t. not (is_awake t)) tickers
    pub places : s.places ≡ count_by (λ t. not (has_ended t.phase)) tickers
    pub awake : (k : ℕ) (t : Ticker) → slice_get tickers k ≡ Some t → gave_up t.phase ≡ true → t.number ≡ 0
    pub asleep : (k : ℕ) (t : Ticker) → slice_get tickers k ≡ Some t → in_wake t.phase ≡ true → is_awake t ≡ false

-- a ticker holds the lock if and only if it has the flag to store
abbrev pub HolderStores : Option ℕ → List Ticker → Type 0
HolderStores holder tickers = (k : ℕ) → in_store (ticker_or (slice_get tickers k)).phase ≡ holds k holder

module _ {W : Type 0} where
  pub record TickersTied (tickers : List Ticker) (holder : Option ℕ) (s : SleeperList W) : Type 0 where
    pub tied : NumbersTied tickers s
    pub stores : HolderStores holder tickers
    -- the list is open if and only if somebody holds the lock
    pub opened : s.is_open ≡ is_some holder
