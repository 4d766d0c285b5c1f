-- The decision of a tick, read off the row of its table: the machine waits for what is asked, with what is kept.
use Rattle.std.specs.Prelude.{ℕ, Option, Some, None}
use Rattle.executor_core.specs.declared.task.values.Notice.{Notice}
use Rattle.executor_core.specs.declared.task.polling.Taken.{Taken}
use Rattle.async_executor.specs.Ticks.{Asked, AskStart, AskSearch, AskUpdate, AskStore, AskRemove, AskStoreRemoved, AskExchange, AskNotify, AskWake, AskRun, asked_by, asked_in, is_return}
use Rattle.async_executor.specs.Ticks.Rows.{kept_in}
use Rattle.async_executor.specs.Ticks.Table.{Kept, Next, Ask, End, Row, table}
use Rattle.async_executor.specs.declared.machine.tick.TickMachine.{TickMachine}
use Rattle.async_executor.specs.declared.machine.tick.TickNext.{TickNext}
use Rattle.async_executor.specs.declared.machine.tick.TickNext.TheVariants.{Act, Rest}
use Rattle.async_executor.specs.declared.machine.tick.TickState.{TickState}
use Rattle.async_executor.specs.declared.machine.tick.TickState.TheVariants as state
use Rattle.async_executor.specs.declared.machine.waiting.Spending.{Spending}
use Rattle.async_executor.specs.declared.machine.waiting.Spending.TheVariants.{Exchanging, Notifying, Waking}
use Rattle.async_executor.specs.declared.machine.waiting.TickReply.{TickReply}
use Rattle.async_executor.specs.declared.machine.waiting.Waiting.{Waiting}
use Rattle.async_executor.specs.declared.machine.waiting.Waiting.TheVariants.{Searching, Inserting, Updating, Storing, Removing, StoringRemoved, Announcing, Leaving, StoringLeft, PassingOn}

module _ {A : Type 0} where
  -- one that keeps a task goes on to run it, and another one leaves
  abbrev pub spending_for : A → Spending → Option (Taken (Unit {0})) → Waiting A
  spending_for actor spending (Some taken) = Announcing spending (record { actor = actor; taken = taken })
  spending_for actor spending None = PassingOn spending (record { actor = actor })

  abbrev pub removing_for : A → ℕ → Option (Taken (Unit {0})) → Option Notice → Waiting A
  removing_for actor number (Some taken) (Some notice) = Removing (record { actor = actor; number = number; taken = taken; notice = notice })
  removing_for actor number _ _ = Leaving (record { actor = actor; number = number })

  abbrev pub storing_for : A → Option (Taken (Unit {0})) → Option Notice → Waiting A
  storing_for actor (Some taken) (Some notice) = StoringRemoved (record { actor = actor; taken = taken; notice = notice })
  storing_for actor _ _ = StoringLeft (record { actor = actor })

  -- the step that waits for what was asked; a start and a run are asked of no step
  abbrev pub waiting_for : A → Asked → Kept → Waiting A
  waiting_for actor AskSearch k = Searching (record { actor = actor; number = k.number })
  waiting_for actor (AskUpdate number) k = Updating (record { actor = actor; number = number })
  waiting_for actor AskStore k = Storing (record { actor = actor; number = k.number })
  waiting_for actor (AskRemove number) k = removing_for actor number k.task k.notice
  waiting_for actor AskStoreRemoved k = storing_for actor k.task k.notice
  waiting_for actor AskExchange k = spending_for actor Exchanging k.task
  waiting_for actor AskNotify k = spending_for actor Notifying k.task
  waiting_for actor AskWake k = spending_for actor Waking k.task
  waiting_for actor _ k = Inserting (record { actor = actor })

abbrev pub state_for : Asked → Kept → TickState
state_for AskStart k = state.Resting k.number
state_for AskRun k = state.Running (record { actor = record {} })
state_for asked k = state.Waiting (waiting_for (record {}) asked k)

module _ {W : Type 0} where
  abbrev pub decision_to : Next W → Kept → TickNext W
  decision_to (Ask action) k = Act (record { state = state_for (asked_by action) k }) action
  decision_to (End end) k = Rest (record { number = k.number; ended = is_return end }) end

  -- what comes after a reply is the row's
  abbrev pub decided : TickMachine → TickReply W → TickNext W
  decided machine reply =
      let row : Row W = table (asked_in machine.state) (kept_in machine.state) reply in
      decision_to row.next row.kept
