-- What a search leads to, and what comes of going to sleep and of a drop.
pub mod Tickers
use Rattle.std.specs.Prelude.{◌≡◌, ◌<◌, ℕ, ◌==◌, cond, Result, Ok, Err}
use Rattle.executor_core.specs.Sleepers.{SleeperList}
use Rattle.executor_core.specs.Sleepers.Calls.{after_insert, after_update, insert_answer, update_answer}
use Rattle.executor_core.specs.declared.sleepers.list.Update as list
use Rattle.executor_core.specs.declared.task.values.Again as values
use Rattle.executor_core.specs.declared.task.values.Change.{Change}
use Rattle.executor_core.specs.declared.task.values.Notice.{Notice}
use Rattle.executor_core.specs.declared.task.polling.Taken.{Taken}
use Rattle.async_executor.specs.declared.machine.steps.Departing.{Departing}
use Rattle.async_executor.specs.declared.machine.steps.Departing.TheVariants as departs
use Rattle.async_executor.specs.declared.machine.steps.Found.{Found}
use Rattle.async_executor.specs.declared.machine.steps.Found.TheVariants.{Awake, Asleep}
use Rattle.async_executor.specs.declared.machine.steps.GoingToSleep.{GoingToSleep}
use Rattle.async_executor.specs.declared.machine.steps.GoingToSleep.TheVariants.{Insert, Update}
use Rattle.async_executor.specs.declared.machine.steps.Inserting.{Inserting}
use Rattle.async_executor.specs.declared.machine.steps.Removing.{Removing}
use Rattle.async_executor.specs.declared.machine.steps.Rested.{Rested as At}
use Rattle.async_executor.specs.declared.machine.steps.Searching.{Searching}
use Rattle.async_executor.specs.declared.machine.steps.StoringRemoved.{StoringRemoved}
use Rattle.async_executor.specs.declared.machine.steps.Updating.{Updating}
use Rattle.async_executor.specs.declared.machine.steps.Went.{Went}
use Rattle.async_executor.specs.declared.machine.steps.Went.TheVariants as goes
use Rattle.async_executor.specs.declared.sleeping.Slept.{Slept}
use Rattle.async_executor.specs.declared.sleeping.Slept.TheVariants.{Again, Rested}

module _ {A : Type 0} where
  -- one that is awake spends the task's notice, and another one keeps it and removes its number first
  abbrev pub IsFound : Searching A → Taken (Unit {0}) → Notice → Found A → Type 0
  IsFound searching taken notice (Awake announcing given) =
      (searching.number ≡ 0) × (announcing ≡ record { actor = searching.actor; taken = taken }) × (given ≡ notice)
  IsFound searching taken notice (Asleep removing) =
      (0 < searching.number) × (removing ≡ record { actor = searching.actor; number = searching.number; taken = taken; notice = notice })

  -- who goes the step, of one that found a task
  abbrev pub actor_found : Found A → A
  actor_found (Awake announcing given) = announcing.actor
  actor_found (Asleep removing) = removing.actor

  -- of one that goes to sleep
  abbrev pub actor_going : GoingToSleep A → A
  actor_going (Insert inserting) = inserting.actor
  actor_going (Update updating) = updating.actor

  -- and of one that went
  abbrev pub actor_slept : Slept A → A
  actor_slept (Again searching again) = searching.actor
  actor_slept (Rested rested) = rested.actor

  -- and of one that leaves the sleepers
  abbrev pub actor_departing : Departing A → A
  actor_departing (departs.Awake departed) = departed.actor
  actor_departing (departs.Asleep leaving) = leaving.actor

  -- one that is awake gets a number, and another one keeps its own
  abbrev pub IsGoingToSleep : Searching A → GoingToSleep A → Type 0
  IsGoingToSleep searching (Insert inserting) = (searching.number ≡ 0) × (inserting.actor ≡ searching.actor)
  IsGoingToSleep searching (Update updating) =
      (0 < searching.number) × (updating ≡ record { actor = searching.actor; number = searching.number })

  -- one that is awake has left, and another one has its number to remove
  abbrev pub departing : A → ℕ → Departing A
  departing actor number = cond (number == 0) (departs.Awake (record { actor = actor })) (departs.Asleep (record { actor = actor; number = number }))

  abbrev pub IsDeparting : ℕ → Departing A → Type 0
  IsDeparting number d = (actor : A) × (d ≡ departing actor number)

  -- one that sleeps keeps its number
  abbrev pub rested : Updating A → At A
  rested updating = record { actor = updating.actor; number = updating.number }

  -- a removal takes the number alone away
  abbrev pub removed : Removing A → StoringRemoved A
  removed removing = record { actor = removing.actor; taken = removing.taken; notice = removing.notice }

  -- parked if it is not the one that is notified
  abbrev pub sleeps_on : ℕ → Updating A → Result (At A) (Updating A)
  sleeps_on notified updating = cond (notified == updating.number) (Err updating) (Ok (rested updating))

module _ {A W : Type 0} where
  -- the list of sleepers after it, and what comes of it, by what the list answers
  abbrev pub after_going : GoingToSleep A → SleeperList W → W → SleeperList W
  after_going (Insert inserting) s w = after_insert s w
  after_going (Update updating) s w = after_update s updating.number w

  abbrev pub went_inserting : Inserting A → Result (ℕ × Change values.Again) W → Went A W
  went_inserting inserting (Ok (number, change)) = goes.Storing (record { actor = inserting.actor; number = number }) change
  went_inserting inserting (Err w) = goes.Yielding (record { actor = inserting.actor; number = 0 }) w

  abbrev pub went_updating : Updating A → list.Update W → Went A W
  went_updating updating (list.TheVariants.WasNotified change) = goes.Storing (record { actor = updating.actor; number = updating.number }) change
  went_updating updating (list.TheVariants.Asleep w) = goes.Rested (record { actor = updating.actor; number = updating.number }) w
  went_updating updating (list.TheVariants.Unknown w) = goes.Yielding (record { actor = updating.actor; number = updating.number }) w

  abbrev pub went : GoingToSleep A → SleeperList W → W → Went A W
  went (Insert inserting) s w = went_inserting inserting (insert_answer s w)
  went (Update updating) s w = went_updating updating (update_answer s updating.number w)
