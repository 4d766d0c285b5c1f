-- How the fields of `Cells` are seen, and what holds of them.
use Rattle.std.specs.Prelude.{◌≡◌, ℕ, ◌+◌, ◌<◌, ◌≤◌, Bool, true, false, ◌||◌, List, [], ◌∷◌, length, map, Option, Some, None, cond, count_by, slice_index_or, slice_set}
use Rattle.std.specs.Ordering.{nat_cmp}
use Rattle.std.specs.FinMap as fin_map
use Rattle.std.specs.List.{All, cons_option}
use Rattle.executor_core.specs.Queues.{map_local}
use Rattle.executor_core.specs.Queues.State.{QueueState}
use Rattle.executor_core.specs.Cells.{Slotted, Table}
use Rattle.executor_core.specs.Cell.{is_idle, is_held, is_scheduled, is_undropped}
use Rattle.executor_core.specs.Cell.Changes.{taken, woken, cancelled_cell}
use Rattle.executor_core.specs.Cells.Law.{ScheduledOnce}
use Rattle.executor_core.specs.declared.task.cell.Cell.{Cell}
use Rattle.executor_core.specs.declared.task.cell.Numbered.{Numbered}
use Rattle.executor_core.specs.declared.task.cell.CellState.TheVariants.{Scheduled}
use Rattle.executor_core.specs.declared.task.cell.TaskId.{TaskId}
use Rattle.executor_core.specs.declared.task.polling.Taken.{Taken}

abbrev pub numbers_of : List TaskId → List ℕ
numbers_of ids = map (λ id. id.number) ids

module _ {P T W : Type 0} where
  -- a cell of this slot
  abbrev pub seen : ℕ → Cell P T W → Slotted P T W
  seen slot c = record { slot = slot; cell = c }

  -- the cells of these slots with their numbers, the first slot being this one
  abbrev pub by_number : ℕ → List (Option (Numbered (Cell P T W))) → List (ℕ × Slotted P T W)
  by_number slot [] = []
  by_number slot (None ∷ rest) = by_number (slot + 1) rest
  by_number slot (Some e ∷ rest) = (e.number, seen slot e.cell) ∷ by_number (slot + 1) rest

  unfoldable pub cells_of : List (Option (Numbered (Cell P T W))) → fin_map.FinMap nat_cmp (Slotted P T W)
  cells_of slots = fin_map.from_entries (by_number 0 slots)

  abbrev pub table_of : ℕ → List (Option (Numbered (Cell P T W))) → QueueState → Bool → Table P T W
  table_of next slots q closed =
      record {
        next = next;
        cells = cells_of slots;
        global = numbers_of q.lists.global;
        locals = map (map_local (λ id. id.number)) q.lists.locals;
        next_runner = q.next_runner;
        free_places = q.free_places;
        closed = closed;
      }

  -- the future is there and not queued, or out: so it may be queued later
  abbrev pub is_queueable : Option (Numbered (Cell P T W)) → Bool
  is_queueable None = false
  is_queueable (Some e) = is_idle e.cell.state || is_held e.cell.state

  -- what becomes of a cell when every task is cancelled, or woken
  abbrev pub change_by : Bool → Cell P T W → Cell P T W
  change_by true c = cancelled_cell c
  change_by false c = woken c

  abbrev pub changed_slot : (Cell P T W → Cell P T W) → Option (Numbered (Cell P T W)) → Option (Numbered (Cell P T W))
  changed_slot change None = None
  changed_slot change (Some e) = Some (record { number = e.number; cell = change e.cell })

  -- the id of the task in this slot, if it is idle
  abbrev pub idle_id : ℕ → Option (Numbered (Cell P T W)) → Option TaskId
  idle_id slot None = None
  idle_id slot (Some e) = cond (is_idle e.cell.state) (Some (record { number = e.number; slot = slot })) None

  -- the ids of the idle tasks in these slots, the first of which is this one
  abbrev pub idle_ids : ℕ → List (Option (Numbered (Cell P T W))) → List TaskId
  idle_ids slot [] = []
  idle_ids slot (s ∷ rest) = cons_option (idle_id slot s) (idle_ids (slot + 1) rest)

  -- the number of the task in this slot, if its future is not dropped
  abbrev pub undropped_number : Option (Numbered (Cell P T W)) → Option ℕ
  undropped_number None = None
  undropped_number (Some e) = cond (is_undropped e.cell.state) (Some e.number) None

  -- there is such a cell, and it is scheduled
  abbrev pub scheduled_slot : Option (Numbered (Cell P T W)) → Bool
  scheduled_slot None = false
  scheduled_slot (Some e) = is_scheduled e.cell.state

  -- the slots after the task was taken out of the cell in the id's slot
  pub record TakesOut (slots later : List (Option (Numbered (Cell P T W)))) (id : TaskId) (task : Taken P) : Type 0 where
    pub entry : Numbered (Cell P T W)
    pub there : slice_index_or slots id.slot None ≡ Some entry
    pub written : later ≡ slice_set slots id.slot (Some (record { number = entry.number; cell = taken entry.cell }))
    pub same_id : task.id ≡ id
    pub future : entry.cell.state ≡ Scheduled task.future
    pub cancelled : task.cancelled ≡ entry.cell.cancelled

  -- each number has one slot
  abbrev pub Distinct : List (Option (Numbered (Cell P T W))) → Type 0
  Distinct slots = (i j : ℕ) (c d : Numbered (Cell P T W)) → slice_index_or slots i None ≡ Some c → slice_index_or slots j None ≡ Some d → c.number ≡ d.number → i ≡ j

  -- the id's number has a cell, in the id's slot
  abbrev pub Placed : fin_map.FinMap nat_cmp (Slotted P T W) → TaskId → Type 0
  Placed cells id = (t : Slotted P T W) × (fin_map.get cells id.number ≡ Some t) × (t.slot ≡ id.slot)

  -- a cell whose future was dropped has its handle, and no awaiter
  abbrev pub Settled : Cell P T W → Type 0
  Settled c = is_undropped c.state ≡ false → (c.awaiter ≡ None) × (c.has_handle ≡ true)

  -- the slots, the ids of all queues, and the count of undropped futures fit together
  pub record IsSound (next : ℕ) (slots : List (Option (Numbered (Cell P T W)))) (ids : List TaskId) (undropped : ℕ) : Type 0 where
    pub below : (i : ℕ) (c : Numbered (Cell P T W)) → slice_index_or slots i None ≡ Some c → c.number < next
    pub distinct : Distinct slots
    pub placed : All (Placed (cells_of slots)) ids
    pub law : ScheduledOnce (cells_of slots) (numbers_of ids)
    pub settled : (i : ℕ) (c : Numbered (Cell P T W)) → slice_index_or slots i None ≡ Some c → Settled c.cell
    pub counted : undropped ≡ length ids + count_by is_queueable slots
    pub numbered : undropped ≤ next
