-- What a wake keeps and gives.
use Rattle.std.proofs.Common.{◌≡◌, ℕ, ◌||◌, Bool, true, false, List, [], ◌∷◌, ◌++◌, set, get_or, Option, Some, None, is_some, cond, refl, sym, ap, ◌∙◌, arith}
use Rattle.executor_core.specs.Cells.{Table}
use Rattle.executor_core.specs.Cell.{is_idle, is_held, is_scheduled}
use Rattle.executor_core.specs.Cells.View.{numbers_of, table_of, IsSound, Settled}
use Rattle.executor_core.specs.Cells.Calls.{wake_at, after_wake, idle_in}
use Rattle.executor_core.specs.Queues.State.{QueueState}
use Rattle.executor_core.specs.Cell.Changes.{woken, state_woken}
use Rattle.executor_core.proofs.WriteLemmas.{kept_sound, queued_sound}
use Rattle.executor_core.proofs.TableLemmas.{table_set, with_global}
use Rattle.executor_core.proofs.FindLemmas.{cell_of, cell_at_entry}
use Rattle.executor_core.proofs.StateLemmas.{woken_quiet-scheduled, woken_quiet-queueable, woken_idle, undropped-state_woken}
use Rattle.executor_core.specs.declared.task.cell.Cell.{Cell}
use Rattle.executor_core.specs.declared.task.cell.Numbered.{Numbered}
use Rattle.executor_core.specs.declared.task.cell.TaskId.{TaskId}

module _ {P T W : Type 0} where
  pub settled_woken : (c : Cell P T W) → Settled c → Settled (woken c)
  settled_woken c settled dropped = settled (sym (undropped-state_woken c.state) ∙ dropped)

  -- a write of the state after a wake, which changes no queue
  pub quiet_write : {next undropped : ℕ} {slots : List (Option (Numbered (Cell P T W)))} {ids : List TaskId}
      → IsSound next slots ids undropped
      → (id : TaskId) (e : Numbered (Cell P T W)) (c : Cell P T W) → get_or slots id.slot None ≡ Some e → c.state ≡ state_woken e.cell.state → Settled c → is_idle e.cell.state ≡ false
      → IsSound next (set slots id.slot (Some (record { number = e.number; cell = c }))) ids undropped
  quiet_write sound id e c there state settled quiet =
      kept_sound sound id e c there (ap is_scheduled state ∙ woken_quiet-scheduled e.cell.state quiet) (ap (λ s. is_idle s || is_held s) state ∙ woken_quiet-queueable e.cell.state quiet) settled

  -- a write of the state after a wake, which queues the cell
  pub loud_write : {next undropped : ℕ} {slots : List (Option (Numbered (Cell P T W)))} {ids later : List TaskId}
      → IsSound next slots ids undropped
      → (id : TaskId) (e : Numbered (Cell P T W)) (c : Cell P T W) → get_or slots id.slot None ≡ Some e → e.number ≡ id.number → c.state ≡ state_woken e.cell.state → Settled c → is_idle e.cell.state ≡ true
      → later ≡ ids ++ id ∷ []
      → IsSound next (set slots id.slot (Some (record { number = e.number; cell = c }))) later undropped
  loud_write sound id e c there number state settled idle longer =
      let facts = woken_idle e.cell.state idle in
      queued_sound sound id e c there number facts.0 (ap is_scheduled state ∙ facts.1) facts.2 (ap (λ s. is_idle s || is_held s) state ∙ facts.3) settled longer

  -- the id's cell, whose wake changes no queue
  pub quiet_sound : {next undropped : ℕ} {slots : List (Option (Numbered (Cell P T W)))} {ids : List TaskId}
      → IsSound next slots ids undropped
      → (id : TaskId) (e : Numbered (Cell P T W)) → get_or slots id.slot None ≡ Some e → is_idle e.cell.state ≡ false
      → IsSound next (set slots id.slot (Some (record { number = e.number; cell = woken e.cell }))) ids undropped
  quiet_sound sound id e there quiet = quiet_write sound id e (woken e.cell) there refl (settled_woken e.cell (sound.settled id.slot e there)) quiet

  -- the id's cell, whose wake queues it
  pub loud_sound : {next undropped : ℕ} {slots : List (Option (Numbered (Cell P T W)))} {ids later : List TaskId}
      → IsSound next slots ids undropped
      → (id : TaskId) (e : Numbered (Cell P T W)) → get_or slots id.slot None ≡ Some e → e.number ≡ id.number → is_idle e.cell.state ≡ true
      → later ≡ ids ++ id ∷ []
      → IsSound next (set slots id.slot (Some (record { number = e.number; cell = woken e.cell }))) later undropped
  loud_sound sound id e there number idle longer =
      loud_write sound id e (woken e.cell) there number refl (settled_woken e.cell (sound.settled id.slot e there)) idle longer

  -- what a wake gives
  pub wake_table : {closed : Bool} {next undropped : ℕ} {slots : List (Option (Numbered (Cell P T W)))} {ids : List TaskId}
      → IsSound next slots ids undropped
      → (q : QueueState) (later : List TaskId) (id : TaskId) (e : Numbered (Cell P T W)) → get_or slots id.slot None ≡ Some e → e.number ≡ id.number
      → numbers_of later ≡ cond (is_idle e.cell.state) (numbers_of q.lists.global ++ id.number ∷ []) (numbers_of q.lists.global)
      → table_of next (set slots id.slot (Some (record { number = e.number; cell = woken e.cell }))) (with_global later q) closed ≡ after_wake (table_of next slots q closed) id
  wake_table {closed} {next} {slots = slots} sound q later id e there number lists =
      table_set next slots (with_global later q) id e (woken e.cell) _ sound.distinct there number lists
      ∙ sym (ap (wake_at (table_of next slots q closed) id) (cell_at_entry sound id e there number))

  pub wakes_at : {next undropped : ℕ} {slots : List (Option (Numbered (Cell P T W)))} {ids : List TaskId}
      → IsSound next slots ids undropped → (id : TaskId) (e : Numbered (Cell P T W)) {b : Bool}
      → get_or slots id.slot None ≡ Some e → e.number ≡ id.number → is_idle e.cell.state ≡ b → idle_in (cell_of slots id) ≡ b
  wakes_at sound id e there number is = ap idle_in (cell_at_entry sound id e there number) ∙ is

  -- there is no cell
  pub after_wake-absent : (table : Table P T W) (id : TaskId) (o : Option (Cell P T W)) → is_some o ≡ false → wake_at table id o ≡ table
  after_wake-absent table id o h = grind arith

  pub wakes-absent : (o : Option (Cell P T W)) → is_some o ≡ false → idle_in o ≡ false
  wakes-absent o h = grind arith
