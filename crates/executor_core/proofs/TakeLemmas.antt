-- What a take keeps and gives.
use Rattle.std.proofs.Common.{◌≡◌, ℕ, Bool, true, List, [], ◌∷◌, get_or, Option, Some, None, refl, sym, ap, subst, ◌∙◌, arith}
use Rattle.std.specs.FinMap as map
use Rattle.executor_core.specs.Cell.{is_scheduled}
use Rattle.executor_core.specs.Cells.{Slotted, Table}
use Rattle.executor_core.specs.Cells.Law.{queues_of}
use Rattle.executor_core.specs.Cells.View.{seen, cells_of, numbers_of, scheduled_slot, table_of, IsSound, TakesOut}
use Rattle.executor_core.specs.Cell.Changes.{taken}
use Rattle.executor_core.specs.Cells.Calls.{with_cell, with_taken_at, with_queues, search_to, after_take, IsTaken}
use Rattle.executor_core.specs.Queues.{QueueLists, map_queues, search_global}
use Rattle.executor_core.specs.Queues.State.{QueueState, with_lists}
use Rattle.executor_core.specs.Slots.{HasCell}
use Rattle.executor_core.proofs.TableLemmas.{table_set}
use Rattle.executor_core.proofs.SlotLemmas.{sees_get}
use Rattle.executor_core.proofs.WriteLemmas.{unqueued_sound, front_cell}
use Rattle.executor_core.proofs.StateLemmas.{scheduled_state}
use Rattle.executor_core.specs.declared.task.cell.Cell.{Cell}
use Rattle.executor_core.specs.declared.task.cell.Numbered.{Numbered}
use Rattle.executor_core.specs.declared.task.cell.TaskId.{TaskId}
use Rattle.executor_core.specs.declared.task.polling.Taken.{Taken}

module _ {P T W : Type 0} where
  -- the cell of the first queued id is scheduled
  pub first_scheduled : {next undropped : ℕ} {slots : List (Option (Numbered (Cell P T W)))} {later : List TaskId} {id : TaskId}
      → IsSound next slots (id ∷ later) undropped → scheduled_slot (get_or slots id.slot None) ≡ true
  first_scheduled {id = id} sound = let at = front_cell sound id refl in ap scheduled_slot at.1 ∙ at.3

  -- and its number is the id's
  pub first_there : {next undropped : ℕ} {slots : List (Option (Numbered (Cell P T W)))} {later : List TaskId} {id : TaskId}
      → IsSound next slots (id ∷ later) undropped → HasCell slots id
  first_there {id = id} sound = let at = front_cell sound id refl in (at.0, at.1, at.2)

  taken_number : {next undropped : ℕ} {slots new : List (Option (Numbered (Cell P T W)))} {later : List TaskId} {id : TaskId} {task : Taken P}
      → IsSound next slots (id ∷ later) undropped → (takes : TakesOut slots new id task) → takes.entry.number ≡ id.number
  taken_number {id = id} sound takes = grind (arith, front_cell sound id refl)

  taken_get : {next undropped : ℕ} {slots new : List (Option (Numbered (Cell P T W)))} {later : List TaskId} {id : TaskId} {task : Taken P}
      → IsSound next slots (id ∷ later) undropped → (takes : TakesOut slots new id task) → map.get (cells_of slots) id.number ≡ Some (seen id.slot takes.entry.cell)
  taken_get {slots = slots} {id = id} sound takes =
      ap (map.get (cells_of slots)) (sym (taken_number sound takes)) ∙ sees_get slots sound.distinct id.slot takes.entry takes.there

  pub take_sound : {next undropped : ℕ} {slots new : List (Option (Numbered (Cell P T W)))} {later : List TaskId} {id : TaskId} {task : Taken P}
      → IsSound next slots (id ∷ later) undropped → TakesOut slots new id task → IsSound next new later undropped
  take_sound {next} {undropped} {later = later} {id = id} sound takes =
      let e = takes.entry in
      let scheduled : is_scheduled e.cell.state ≡ true = ap scheduled_slot (sym takes.there) ∙ first_scheduled sound in
      subst (λ l. IsSound next l later undropped) (sym takes.written)
      (unqueued_sound sound id e (taken e.cell) takes.there (taken_number sound takes) scheduled refl (scheduled_state e.cell.state scheduled) refl (λ dropped. absurd (cc (dropped))) refl)

  -- what is seen after a take, if these are the queues then
  take_table : {closed : Bool} {next undropped : ℕ} {slots new : List (Option (Numbered (Cell P T W)))} {later : List TaskId} {id : TaskId} {task : Taken P}
      → IsSound next slots (id ∷ later) undropped → (takes : TakesOut slots new id task) → (q : QueueState)
      → table_of next new q closed ≡ with_cell (table_of next slots q closed) id (taken takes.entry.cell)
  take_table {closed} {next} {slots = slots} {id = id} sound takes q =
      ap (λ l. table_of next l q closed) takes.written
      ∙ table_set next slots q id takes.entry (taken takes.entry.cell) (numbers_of q.lists.global) sound.distinct takes.there (taken_number sound takes) refl

  -- a search found the task, and left these queues
  pub found_table : {closed : Bool} {next undropped : ℕ} {slots new : List (Option (Numbered (Cell P T W)))} {later : List TaskId} {id : TaskId} {task : Taken P}
      → IsSound next slots (id ∷ later) undropped → (takes : TakesOut slots new id task)
      → (q : QueueState) (lists : QueueLists TaskId) (found : Option ℕ × QueueLists ℕ) → found.0 ≡ Some id.number → found.1 ≡ map_queues (λ i. i.number) lists
      → table_of next new (with_lists lists q) closed ≡ search_to found (table_of next slots q closed)
  found_table {closed} {next} {slots = slots} {id = id} sound takes q lists found number left =
      take_table sound takes (with_lists lists q)
      ∙ sym (ap (λ o. search_to (o, found.1) (table_of next slots q closed)) number
      ∙ ap (λ l. search_to (Some id.number, l) (table_of next slots q closed)) left
      ∙ ap (λ (o : Option (Slotted P T W)). with_queues (map_queues (λ i. i.number) lists) (with_taken_at (table_of next slots q closed) id.number o)) (taken_get sound takes))

  -- it found none
  pub none_table : (table : Table P T W) (found : Option ℕ × QueueLists ℕ) → found.0 ≡ None → found.1 ≡ queues_of table → table ≡ search_to found table
  none_table table found none left = sym (ap (λ o. search_to (o, found.1) table) none ∙ ap (λ l. with_queues l table) left)

  -- a take of the global front is a search there
  pub after_take-search : (table : Table P T W) → search_to (search_global (queues_of table)) table ≡ after_take table
  after_take-search table = grind arith

  pub is_taken : {closed : Bool} {next undropped : ℕ} {slots new : List (Option (Numbered (Cell P T W)))} {later : List TaskId} {id : TaskId} {task : Taken P}
      → IsSound next slots (id ∷ later) undropped → (takes : TakesOut slots new id task) → (q : QueueState) → IsTaken (table_of next slots q closed) task
  is_taken {slots = slots} sound takes q =
      record {
        cell = takes.entry.cell;
        found = subst (λ i. map.get (cells_of slots) i.number ≡ Some (seen i.slot takes.entry.cell)) (sym takes.same_id) (taken_get sound takes);
        future = takes.future;
        cancelled = takes.cancelled;
      }

-- what is found at the global front stood there
pub front_found : {X : Type 0} (q : QueueLists X) (x : X) → (search_global q).0 ≡ Some x → q.global ≡ x ∷ (search_global q).1.global
front_found {X = X} q x found = grind arith
