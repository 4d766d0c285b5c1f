-- What the table of a tick sees of its machine, and that a decision is a row of it.
use Rattle.std.specs.Prelude.{◌≡◌, ℕ, false, Some}
use Rattle.executor_core.specs.declared.task.values.Notice.{Notice}
use Rattle.executor_core.specs.declared.task.polling.Taken.{Taken}
use Rattle.async_executor.specs.Ticks.{Asked, asked_in}
use Rattle.async_executor.specs.Ticks.Replies.{runs}
use Rattle.async_executor.specs.Ticks.Table.{Kept, keeps, nothing, Next, Ask, End, Row, table}
use Rattle.async_executor.specs.declared.machine.tick.TickState.{TickState}
use Rattle.async_executor.specs.declared.machine.tick.TickState.TheVariants as state
use Rattle.async_executor.specs.declared.machine.tick.TickMachine.{TickMachine}
use Rattle.async_executor.specs.declared.machine.tick.TickNext.{TickNext}
use Rattle.async_executor.specs.declared.machine.tick.TickNext.TheVariants.{Act, Rest}
use Rattle.async_executor.specs.declared.machine.waiting.Came.{Came}
use Rattle.async_executor.specs.declared.machine.waiting.Came.TheVariants as came
use Rattle.async_executor.specs.declared.machine.waiting.TickAction.{TickAction}
use Rattle.async_executor.specs.declared.machine.waiting.TickAction.TheVariants as asks
use Rattle.async_executor.specs.declared.machine.waiting.TickEnd.TheVariants.{Return}
use Rattle.async_executor.specs.declared.machine.waiting.TickReply.{TickReply}
use Rattle.async_executor.specs.declared.machine.waiting.Waiting.{Waiting}
use Rattle.async_executor.specs.declared.machine.waiting.Waiting.TheVariants.{Searching, Inserting, Updating, Storing, Removing, StoringRemoved, Announcing, Leaving, StoringLeft, PassingOn}

abbrev pub keeps_found : ℕ → Taken (Unit {0}) → Notice → Kept
keeps_found number taken notice = record { number = number; task = Some taken; notice = Some notice }

abbrev pub kept_of : {A : Type 0} → Waiting A → Kept
kept_of (Searching searching) = keeps searching.number
kept_of (Inserting inserting) = nothing
kept_of (Updating updating) = keeps updating.number
kept_of (Storing storing) = keeps storing.number
kept_of (Removing removing) = keeps_found removing.number removing.taken removing.notice
kept_of (StoringRemoved storing) = keeps_found 0 storing.taken storing.notice
kept_of (Announcing spending announcing) = record nothing { task = Some announcing.taken }
kept_of (Leaving leaving) = keeps leaving.number
kept_of (StoringLeft storing) = nothing
kept_of (PassingOn spending departed) = nothing

abbrev pub kept_in : TickState → Kept
kept_in (state.Resting number) = keeps number
kept_in (state.Waiting waiting) = kept_of waiting
kept_in (state.Running departed) = nothing

module _ {W : Type 0} where
  abbrev pub next_of : TickNext W → Next W
  next_of (Act machine action) = Ask action
  next_of (Rest rest end) = End end

  abbrev pub kept_after : TickNext W → Kept
  kept_after (Act machine action) = kept_in machine.state
  kept_after (Rest rest end) = keeps rest.number

  -- the reply answers what the row says, and what is asked next and kept is the row's
  abbrev pub IsRow : TickMachine → TickReply W → TickNext W → Type 0
  IsRow machine reply next =
      let row : Row W = table (asked_in machine.state) (kept_in machine.state) reply in
      (asked_in machine.state ≡ row.answers) × (next_of next ≡ row.next) × (kept_after next ≡ row.kept)

  -- while a notice is spent no task runs and nothing else changes, and once it is spent one that keeps no task returns
  abbrev pub IsSpent : Asked → TickReply W → TickAction W → Type 0
  IsSpent asked reply action =
      (runs action ≡ false) × ((k : Kept) → let row : Row W = table asked k reply in (asked ≡ row.answers) × (Ask action ≡ row.next) × (k ≡ row.kept))

  abbrev pub IsOver : Asked → TickReply W → Type 0
  IsOver asked reply = let row : Row W = table asked nothing reply in (asked ≡ row.answers) × (End Return ≡ row.next)

-- the same of what comes of a reply to a step
module _ {A W : Type 0} where
  abbrev pub next_to : Came A W → Next W
  next_to (came.Act waiting action) = Ask action
  next_to (came.Rest at_rest end) = End end
  next_to (came.Run running) = Ask (asks.Run running.taken)
  next_to (came.End departed) = End Return

  abbrev pub kept_by : Came A W → Kept
  kept_by (came.Act waiting action) = kept_of waiting
  kept_by (came.Rest at_rest end) = keeps at_rest.number
  kept_by _ = nothing

  abbrev pub IsRowOf : Asked → Kept → TickReply W → Came A W → Type 0
  IsRowOf asked k reply came =
      let row : Row W = table asked k reply in
      (asked ≡ row.answers) × (next_to came ≡ row.next) × (kept_by came ≡ row.kept)
