-- What a cancel, and the end of a task that was cancelled, keep and give.
use Rattle.std.proofs.Common.{◌≡◌, ℕ, ◌-◌, ◌&&◌, Bool, true, false, List, [], ◌∷◌, ◌++◌, set, get_or, Option, Some, None, cond, refl, sym, ap, ◌∙◌, arith}
use Rattle.executor_core.specs.Cells.{Table}
use Rattle.executor_core.specs.Cell.{is_idle, is_held}
use Rattle.executor_core.specs.Cells.View.{numbers_of, table_of, IsSound, Settled}
use Rattle.executor_core.specs.Cells.Calls.{with_cell, without_cell, queued_if, passes, handle_in, held_in, cancel_at, after_cancel, end_dropped_at, dropped_answer}
use Rattle.executor_core.specs.Queues.State.{QueueState}
use Rattle.executor_core.specs.Cell.Changes.{cancelled_cell, disposed, wakeup_of}
use Rattle.executor_core.proofs.TableLemmas.{table_set, with_global}
use Rattle.executor_core.proofs.WakeLemmas.{quiet_write, loud_write}
use Rattle.executor_core.proofs.EndReadyLemmas.{ended_sound}
use Rattle.executor_core.proofs.FindLemmas.{cell_of, cell_at_entry}
use Rattle.executor_core.proofs.StateLemmas.{undropped-state_woken}
use Rattle.executor_core.specs.declared.task.cell.Cell.{Cell}
use Rattle.executor_core.specs.declared.task.cell.Numbered.{Numbered}
use Rattle.executor_core.specs.declared.task.cell.TaskId.{TaskId}

module _ {P T W : Type 0} where
  pub settled_cancelled : (c : Cell P T W) → Settled c → Settled (cancelled_cell c)
  settled_cancelled c settled dropped = settled (sym (undropped-state_woken c.state) ∙ dropped)

  -- the id's cell, whose cancel changes no queue
  pub cancel_quiet : {next undropped : ℕ} {slots : List (Option (Numbered (Cell P T W)))} {ids : List TaskId}
      → IsSound next slots ids undropped
      → (id : TaskId) (e : Numbered (Cell P T W)) → get_or slots id.slot None ≡ Some e → is_idle e.cell.state ≡ false
      → IsSound next (set slots id.slot (Some (record { number = e.number; cell = cancelled_cell e.cell }))) ids undropped
  cancel_quiet sound id e there quiet = quiet_write sound id e (cancelled_cell e.cell) there refl (settled_cancelled e.cell (sound.settled id.slot e there)) quiet

  -- the id's cell, whose cancel queues it
  pub cancel_loud : {next undropped : ℕ} {slots : List (Option (Numbered (Cell P T W)))} {ids later : List TaskId}
      → IsSound next slots ids undropped
      → (id : TaskId) (e : Numbered (Cell P T W)) → get_or slots id.slot None ≡ Some e → e.number ≡ id.number → is_idle e.cell.state ≡ true
      → later ≡ ids ++ id ∷ []
      → IsSound next (set slots id.slot (Some (record { number = e.number; cell = cancelled_cell e.cell }))) later undropped
  cancel_loud sound id e there number idle longer =
      loud_write sound id e (cancelled_cell e.cell) there number refl (settled_cancelled e.cell (sound.settled id.slot e there)) idle longer

  -- what a cancel gives
  pub cancel_table : {closed : Bool} {next undropped : ℕ} {slots : List (Option (Numbered (Cell P T W)))} {ids : List TaskId}
      → IsSound next slots ids undropped
      → (q : QueueState) (id : TaskId) (e : Numbered (Cell P T W)) (later : List TaskId) → get_or slots id.slot None ≡ Some e → e.number ≡ id.number → e.cell.has_handle ≡ true
      → numbers_of later ≡ cond (is_idle e.cell.state) (numbers_of q.lists.global ++ id.number ∷ []) (numbers_of q.lists.global)
      → table_of next (set slots id.slot (Some (record { number = e.number; cell = cancelled_cell e.cell }))) (with_global later q) closed ≡ after_cancel (table_of next slots q closed) id
  cancel_table {closed} {next} {slots = slots} sound q id e later there number handle lists =
      table_set next slots (with_global later q) id e (cancelled_cell e.cell) _ sound.distinct there number lists
      ∙ sym (ap (cancel_at (table_of next slots q closed) id) (cell_at_entry sound id e there number)
      ∙ ap (λ b. cond b (queued_if (is_idle e.cell.state) (with_cell (table_of next slots q closed) id (cancelled_cell e.cell)) id) (table_of next slots q closed)) handle)

  pub cancel_queues_is : {next undropped : ℕ} {slots : List (Option (Numbered (Cell P T W)))} {ids : List TaskId}
      → IsSound next slots ids undropped → (id : TaskId) (e : Numbered (Cell P T W)) {b : Bool}
      → get_or slots id.slot None ≡ Some e → e.number ≡ id.number → e.cell.has_handle ≡ true → is_idle e.cell.state ≡ b → passes (λ c. c.has_handle && is_idle c.state) (cell_of slots id) ≡ b
  cancel_queues_is sound id e there number handle idle =
      ap (passes (λ c. c.has_handle && is_idle c.state)) (cell_at_entry sound id e there number)
      ∙ ap (λ b. b && is_idle e.cell.state) handle ∙ idle

  -- the handle is not there
  pub after_cancel-absent : (table : Table P T W) (id : TaskId) (o : Option (Cell P T W)) → handle_in o ≡ false → cancel_at table id o ≡ table
  after_cancel-absent table id o h = grind arith

  pub cancel_queues-absent : (o : Option (Cell P T W)) → handle_in o ≡ false → passes (λ c. c.has_handle && is_idle c.state) o ≡ false
  cancel_queues-absent o h = grind arith

  pub disposed_sound : {next undropped : ℕ} {slots : List (Option (Numbered (Cell P T W)))} {ids : List TaskId}
      → IsSound next slots ids undropped
      → (key : ℕ) (e : Numbered (Cell P T W)) → get_or slots key None ≡ Some e → is_held e.cell.state ≡ true → e.cell.has_handle ≡ true
      → IsSound next (set slots key (Some (record { number = e.number; cell = disposed e.cell }))) ids (undropped - 1)
  disposed_sound sound key e there held handle = ended_sound sound key e (disposed e.cell) there held refl refl (λ dropped. (refl, handle))

  pub disposed_some : (table : Table P T W) (id : TaskId) (c : Cell P T W) {b : Bool} → is_held c.state ≡ true → c.has_handle ≡ b → end_dropped_at table id (Some c) ≡ cond b (with_cell table id (disposed c)) (without_cell table id)
  disposed_some table id c held handle = rw (held, handle) refl

  pub awaiter_some : (c : Cell P T W) → is_held c.state ≡ true → dropped_answer (Some c) ≡ wakeup_of c.awaiter
  awaiter_some c held = ap (λ b. cond b (wakeup_of c.awaiter) None) held

  -- nothing is out for the id
  pub after_end_dropped-absent : (table : Table P T W) (id : TaskId) (o : Option (Cell P T W)) → held_in o ≡ false → end_dropped_at table id o ≡ table
  after_end_dropped-absent table id o h = grind arith

  pub dropped_answer-absent : (o : Option (Cell P T W)) → held_in o ≡ false → dropped_answer o ≡ None
  dropped_answer-absent o h = grind arith
