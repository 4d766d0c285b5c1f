-- The law of the queues.
use Rattle.std.specs.Prelude.{◌≡◌, ℕ, Bool, false, List, Option, Some, None, cond}
use Rattle.std.specs.Ordering.{nat_cmp}
use Rattle.std.specs.FinMap as map
use Rattle.executor_core.specs.Numbers.{times}
use Rattle.executor_core.specs.Queues.{QueueLists, all_entries}
use Rattle.executor_core.specs.Cell.{is_scheduled}
use Rattle.executor_core.specs.Cells.{Slotted, Table}

module _ {P T W : Type 0} where
  -- there is such a cell, and it is scheduled
  abbrev pub scheduled_in : Option (Slotted P T W) → Bool
  scheduled_in None = false
  scheduled_in (Some s) = is_scheduled s.cell.state

  -- a number stands once among these if its cell is scheduled, and else it does not
  abbrev pub ScheduledOnce : map.FinMap nat_cmp (Slotted P T W) → List ℕ → Type 0
  ScheduledOnce cells numbers = (n : ℕ) → times n numbers ≡ cond (scheduled_in (map.get cells n)) 1 0

  -- the queues of the table
  abbrev pub queues_of : Table P T W → QueueLists ℕ
  queues_of table = record { global = table.global; locals = table.locals }

  -- the numbers of all queues together
  abbrev pub queued_of : Table P T W → List ℕ
  queued_of table = all_entries (queues_of table)

  -- the law of the queues, which every call keeps
  abbrev pub LockLaw : Table P T W → Type 0
  LockLaw table = ScheduledOnce table.cells (queued_of table)
