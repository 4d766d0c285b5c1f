-- The phases of a ticker, what it has to spend in each, and what is kept of it.
use Rattle.std.specs.Prelude.{ℕ, ◌+◌, ◌==◌, nat_lt, Bool, true, false, ◌||◌, Option, Some, None, is_some, cond}
use Rattle.executor_core.specs.declared.interleave.ticker.ListChange.TheVariants.{Slept, Woke, Dropped}
use Rattle.executor_core.specs.declared.interleave.ticker.Phase.{Phase}
use Rattle.executor_core.specs.declared.interleave.ticker.Phase.TheVariants.{Rest, Search, Sleep, Wake, Store, Leaving, Forgotten, Ended}
use Rattle.executor_core.specs.declared.interleave.ticker.Ticker.{Ticker}

-- the phases
abbrev pub at_rest : Phase → Bool
at_rest Rest = true
at_rest _ = false

abbrev pub in_search : Phase → Bool
in_search Search = true
in_search _ = false

abbrev pub in_sleep : Phase → Bool
in_sleep Sleep = true
in_sleep _ = false

abbrev pub in_wake : Phase → Bool
in_wake Wake = true
in_wake _ = false

abbrev pub in_store : Phase → Bool
in_store (Store _) = true
in_store _ = false

abbrev pub in_leaving : Phase → Bool
in_leaving Leaving = true
in_leaving _ = false

abbrev pub has_ended : Phase → Bool
has_ended Ended = true
has_ended _ = false

-- it takes no step any more: it has ended, or it was forgotten
abbrev pub is_over : Phase → Bool
is_over Forgotten = true
is_over Ended = true
is_over _ = false

-- it is at rest, or it was when it was forgotten
abbrev pub waits : Phase → Bool
waits Rest = true
waits Forgotten = true
waits _ = false

-- its number was removed for good
abbrev pub gave_up : Phase → Bool
gave_up (Store (Woke _)) = true
gave_up (Store (Dropped _)) = true
gave_up Ended = true
gave_up _ = false

-- the notices that it keeps, and those in its change
abbrev pub notices_in : Phase → ℕ
notices_in Wake = 1
notices_in (Store (Woke notified)) = 1 + cond notified 1 0
notices_in (Store (Dropped notified)) = cond notified 1 0
notices_in _ = 0

-- it has still to search: an `Again` stands in its change, or is out of it
abbrev pub has_to_search : Phase → Bool
has_to_search Search = true
has_to_search (Store Slept) = true
has_to_search _ = false

-- it has a notice, or a search to make
abbrev pub has_to_spend : Phase → Bool
has_to_spend phase = nat_lt 0 (notices_in phase) || has_to_search phase

-- a run goes on with its runner's queue
abbrev pub needs_queue : Phase → Bool
needs_queue Search = true
needs_queue Sleep = true
needs_queue Wake = true
needs_queue (Store Slept) = true
needs_queue (Store (Woke _)) = true
needs_queue _ = false

-- what is kept of a ticker, and of one that was not made
abbrev pub ticker_or : Option Ticker → Ticker
ticker_or None = record { phase = Ended; number = 0; runner = None }
ticker_or (Some t) = t

-- one that was just made: a tick, or a run, whose runner has this number
abbrev pub new_ticker : Option ℕ → Ticker
new_ticker runner = record { phase = Rest; number = 0; runner = runner }

-- it is a run
abbrev pub is_run : Ticker → Bool
is_run t = is_some t.runner

-- it has no number
abbrev pub is_awake : Ticker → Bool
is_awake t = t.number == 0
