-- The ticker of a world that a step stands for, be it a tick or the run of a runner, and that a step
-- leads where the world's own step does, which is enabled there.
use Rattle.std.specs.Prelude.{◌≡◌, ℕ, Bool, true, Option, None, Result, Ok, Err, cond, is_some}
use Rattle.executor_core.specs.World.Phases.{at_rest, in_leaving, in_sleep, in_wake, is_awake, is_run}
use Rattle.executor_core.specs.World.Tickers.{ended, rested, slept}
use Rattle.executor_core.specs.declared.interleave.ticker.ListChange.TheVariants.{Slept, Woke, Dropped}
use Rattle.executor_core.specs.declared.interleave.ticker.Phase.{Phase}
use Rattle.executor_core.specs.declared.interleave.ticker.Phase.TheVariants as phase
use Rattle.executor_core.specs.declared.interleave.ticker.Ticker.{Ticker}
use Rattle.async_executor.specs.declared.machine.steps.Announcing.{Announcing}
use Rattle.async_executor.specs.declared.machine.steps.Departed.{Departed}
use Rattle.async_executor.specs.declared.machine.steps.Departing.{Departing}
use Rattle.async_executor.specs.declared.machine.steps.Departing.TheVariants as departing
use Rattle.async_executor.specs.declared.machine.steps.Found.{Found}
use Rattle.async_executor.specs.declared.machine.steps.Found.TheVariants as found
use Rattle.async_executor.specs.declared.machine.steps.GoingToSleep.{GoingToSleep}
use Rattle.async_executor.specs.declared.machine.steps.GoingToSleep.TheVariants.{Insert, Update}
use Rattle.async_executor.specs.declared.machine.steps.Inserting.{Inserting}
use Rattle.async_executor.specs.declared.machine.steps.Leaving.{Leaving}
use Rattle.async_executor.specs.declared.machine.steps.Removing.{Removing}
use Rattle.async_executor.specs.declared.machine.steps.Rested.{Rested}
use Rattle.async_executor.specs.declared.machine.steps.Running.{Running}
use Rattle.async_executor.specs.declared.machine.steps.Searching.{Searching}
use Rattle.async_executor.specs.declared.machine.steps.Storing.{Storing}
use Rattle.async_executor.specs.declared.machine.steps.StoringLeft.{StoringLeft}
use Rattle.async_executor.specs.declared.machine.steps.StoringRemoved.{StoringRemoved}
use Rattle.async_executor.specs.declared.machine.steps.Updating.{Updating}
use Rattle.async_executor.specs.declared.machine.steps.Went.{Went}
use Rattle.async_executor.specs.declared.machine.steps.Went.TheVariants as went
use Rattle.async_executor.specs.declared.machine.steps.Yielding.{Yielding}

-- the ticker of a tick, or of the run of this runner
abbrev pub ticker_at : Option ℕ → Phase → ℕ → Ticker
ticker_at runner phase number = record { phase = phase; number = number; runner = runner }

-- one that has found a task: a tick has ended, and a run is at rest
abbrev pub found_phase : Option ℕ → Phase
found_phase runner = cond (is_some runner) phase.Rest phase.Ended

-- one that is dropped and has a number: a run has left before
abbrev pub dropped_phase : Option ℕ → Phase
dropped_phase runner = cond (is_some runner) phase.Leaving phase.Rest

-- by its phase alone
abbrev pub by_phase : (Phase → Bool) → Ticker → Bool
by_phase enabled t = enabled t.phase

-- removal of the number of one that has found a task
abbrev pub may_wake : Ticker → Bool
may_wake t = in_wake t.phase

-- drop of one that has a number
abbrev pub may_leave : Ticker → Bool
may_leave t = cond (is_run t) (in_leaving t.phase) (at_rest t.phase)

-- drop of one that is awake: it ends, and another one has still to remove its number
abbrev pub left_awake : Ticker → Ticker
left_awake t = cond (is_awake t) (ended t) t

-- a step of a world is enabled where it begins, and leads to what comes after it
abbrev pub Makes : (Ticker → Bool) → (Ticker → Ticker) → Ticker → Ticker → Type 0
Makes enabled step before after = (enabled before ≡ true) × (after ≡ step before)

abbrev pub MakesAt : (Phase → Bool) → (Ticker → Ticker) → Ticker → Ticker → Type 0
MakesAt enabled step before after = Makes (by_phase enabled) step before after

-- so it does of a tick, and of the run of any runner
abbrev pub Leads : (Phase → Bool) → (Ticker → Ticker) → (Option ℕ → Ticker) → (Option ℕ → Ticker) → Type 0
Leads enabled step before after = (runner : Option ℕ) → MakesAt enabled step (before runner) (after runner)

-- the same of a removal, whether the number was notified or not
abbrev pub LeadsBy : (Ticker → Bool) → (Bool → Ticker → Ticker) → (Option ℕ → Ticker) → (Bool → Option ℕ → Ticker) → Type 0
LeadsBy enabled step before after = (notified : Bool) (runner : Option ℕ) → Makes enabled (step notified) (before runner) (after notified runner)

-- a step of a world that changes nothing of the ticker
abbrev pub stays : Ticker → Ticker
stays t = t

-- and of the store after it
abbrev pub LeadsOn : (Phase → Bool) → (Ticker → Ticker) → (Bool → Option ℕ → Ticker) → (Option ℕ → Ticker) → Type 0
LeadsOn enabled step before after = (notified : Bool) → Leads enabled step (before notified) after

-- so it does of a tick alone
abbrev pub LeadsTick : (Phase → Bool) → (Ticker → Ticker) → Ticker → (Option ℕ → Ticker) → Type 0
LeadsTick enabled step before after = MakesAt enabled step before (after None)

-- no step of a world comes between
abbrev pub Stays : (Option ℕ → Ticker) → (Option ℕ → Ticker) → Type 0
Stays before after = (runner : Option ℕ) → after runner ≡ before runner

module _ {A : Type 0} where
  -- it searches, and if it has found a task it removes its number and stores the flag
  abbrev pub of_searching : Searching A → Option ℕ → Ticker
  of_searching searching runner = ticker_at runner phase.Search searching.number

  abbrev pub of_removing : Removing A → Option ℕ → Ticker
  of_removing removing runner = ticker_at runner phase.Wake removing.number

  abbrev pub of_storing_removed : StoringRemoved A → Bool → Option ℕ → Ticker
  of_storing_removed storing notified runner = ticker_at runner (phase.Store (Woke notified)) 0

  -- its task is announced and run
  abbrev pub of_announcing : Announcing A → Option ℕ → Ticker
  of_announcing announcing runner = ticker_at runner (found_phase runner) 0

  abbrev pub of_running : Running A → Option ℕ → Ticker
  of_running running runner = ticker_at runner (found_phase runner) 0

  abbrev pub of_found : Found A → Option ℕ → Ticker
  of_found (found.Awake announcing notice) runner = of_announcing announcing runner
  of_found (found.Asleep removing) runner = of_removing removing runner

  -- it goes to sleep, under a new number or the one that it has, and stores the flag
  abbrev pub of_inserting : Inserting A → Option ℕ → Ticker
  of_inserting inserting runner = ticker_at runner phase.Sleep 0

  abbrev pub of_updating : Updating A → Option ℕ → Ticker
  of_updating updating runner = ticker_at runner phase.Sleep updating.number

  abbrev pub of_going : GoingToSleep A → Option ℕ → Ticker
  of_going (Insert inserting) runner = of_inserting inserting runner
  of_going (Update updating) runner = of_updating updating runner

  abbrev pub of_storing : Storing A → Option ℕ → Ticker
  of_storing storing runner = ticker_at runner (phase.Store Slept) storing.number

  -- it could not, and rests
  abbrev pub of_yielding : Yielding A → Option ℕ → Ticker
  of_yielding yielding runner = ticker_at runner phase.Sleep yielding.number

  abbrev pub of_rested : Rested A → Option ℕ → Ticker
  of_rested at_rest runner = ticker_at runner phase.Rest at_rest.number

  -- it is dropped
  abbrev pub of_leaving : Leaving A → Option ℕ → Ticker
  of_leaving leaving runner = ticker_at runner (dropped_phase runner) leaving.number

  abbrev pub of_storing_left : StoringLeft A → Bool → Option ℕ → Ticker
  of_storing_left storing notified runner = ticker_at runner (phase.Store (Dropped notified)) 0

  abbrev pub of_departed : Departed A → Option ℕ → Ticker
  of_departed departed runner = ticker_at runner phase.Ended 0

  abbrev pub of_departing : Departing A → Option ℕ → Ticker
  of_departing (departing.Awake departed) runner = of_departed departed runner
  of_departing (departing.Asleep leaving) runner = of_leaving leaving runner

  -- it sleeps on unnotified, or is as it was
  abbrev pub SleepsOn : Updating A → Result (Rested A) (Updating A) → Type 0
  SleepsOn updating (Ok at_rest) = Leads in_sleep rested (of_updating updating) (of_rested at_rest)
  SleepsOn before (Err updating) = updating ≡ before

  -- the step of going to sleep, by what came of it
  abbrev pub GoesToSleep : {W : Type 0} → (Option ℕ → Ticker) → Went A W → Type 0
  GoesToSleep before (went.Storing storing change) = Leads in_sleep (slept storing.number) before (of_storing storing)
  GoesToSleep before (went.Rested at_rest waker) = Leads in_sleep rested before (of_rested at_rest)
  GoesToSleep before (went.Yielding yielding waker) = Stays before (of_yielding yielding)
