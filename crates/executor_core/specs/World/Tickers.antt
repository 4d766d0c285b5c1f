-- A ticker's own part of each of its steps, and what its runner's queue lets it do.
use Rattle.std.specs.Prelude.{ℕ, Bool, not, ◌||◌, ◌&&◌, List, Option, Some, None, cond}
use Rattle.executor_core.specs.Queues.{RunnerQueue, is_registered}
use Rattle.executor_core.specs.World.Phases.{at_rest, in_leaving, waits, is_run, is_awake}
use Rattle.executor_core.specs.declared.interleave.ticker.ListChange.TheVariants.{Slept, Woke, Dropped}
use Rattle.executor_core.specs.declared.interleave.ticker.Phase.{Phase}
use Rattle.executor_core.specs.declared.interleave.ticker.Phase.TheVariants.{Rest, Search, Sleep, Wake, Store, Leaving, Forgotten, Ended}
use Rattle.executor_core.specs.declared.interleave.ticker.Ticker.{Ticker}

-- poll: it has to search
abbrev pub polled : Ticker → Ticker
polled t = record t { phase = Search }

-- once its task runs: a tick has ended, and a run is at rest
abbrev pub after_task : Ticker → Phase
after_task t = cond (is_run t) Rest Ended

-- search, by whether a task was found: one that is awake runs it then, another one has to remove its number
abbrev pub searched : Bool → Ticker → Ticker
searched found t = record t { phase = cond found (cond (is_awake t) (after_task t) Wake) Sleep }

-- sleep: it stands at the list's end under this number
abbrev pub slept : ℕ → Ticker → Ticker
slept number t = record t { phase = Store Slept; number = number }

-- sleep, if it stands in the list already, or yield
abbrev pub rested : Ticker → Ticker
rested t = record t { phase = Rest }

-- remove, by whether the number was notified
abbrev pub woke : Bool → Ticker → Ticker
woke notified t = record t { phase = Store (Woke notified); number = 0 }

-- drop of one that has a number, by whether the number was notified
abbrev pub dropped : Bool → Ticker → Ticker
dropped notified t = record t { phase = Store (Dropped notified); number = 0 }

-- drop of one that is awake
abbrev pub ended : Ticker → Ticker
ended t = record t { phase = Ended }

-- store: one that went to sleep searches once more, one that found a task runs it, and another one has ended
abbrev pub after_store : Ticker → Phase → Phase
after_store t (Store Slept) = Search
after_store t (Store (Woke notified)) = after_task t
after_store t _ = Ended

abbrev pub stored : Ticker → Ticker
stored t = record t { phase = after_store t t.phase }

-- unregister: its runner's queue is gone, and its drop is to come
abbrev pub left : Ticker → Ticker
left t = record t { phase = Leaving }

-- close or leak: one that is at rest is forgotten
abbrev pub forgotten : Ticker → Ticker
forgotten t = record t { phase = cond (at_rest t.phase) Forgotten t.phase }

-- the runner of a run, and its queue
abbrev pub runner_or : Option ℕ → ℕ
runner_or None = 0
runner_or (Some r) = r

abbrev pub runner_of : Ticker → ℕ
runner_of t = runner_or t.runner

module _ {X : Type 0} where
  -- its runner is registered
  abbrev pub has_queue : List (RunnerQueue X) → Ticker → Bool
  has_queue locals t = is_run t && is_registered (runner_of t) locals

  -- a run whose runner was not registered yet, at rest or forgotten
  abbrev pub is_new_run : List (RunnerQueue X) → Ticker → Bool
  is_new_run locals t = is_run t && waits t.phase && not (is_registered (runner_of t) locals)

  -- it may register its runner: it is a new run at rest
  abbrev pub may_register : List (RunnerQueue X) → Ticker → Bool
  may_register locals t = at_rest t.phase && is_new_run locals t

  -- it may search: a tick always may, and a run whose runner is registered
  abbrev pub may_search : List (RunnerQueue X) → Ticker → Bool
  may_search locals t = not (is_run t) || has_queue locals t

  -- it may be dropped: a tick or a new run at rest, or a run that left
  abbrev pub may_go : List (RunnerQueue X) → Ticker → Bool
  may_go locals t = (at_rest t.phase && not (has_queue locals t)) || in_leaving t.phase
