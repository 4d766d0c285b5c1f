-- What the end of a ready task and a poll of a handle keep and give.
use Rattle.std.proofs.Common.{◌≡◌, ℕ, ◌+◌, ◌||◌, ◌&&◌, Bool, true, false, not, List, length, set, get_or, Option, Some, None, cond, refl, sym, ap, ◌∙◌, arith}
use Rattle.executor_core.specs.Cells.{Table}
use Rattle.executor_core.specs.Cell.{is_idle, is_held, is_scheduled, is_undropped}
use Rattle.executor_core.specs.Cells.View.{numbers_of, table_of, IsSound, Settled}
use Rattle.executor_core.specs.Cells.Calls.{with_cell, without_cell, end_ready_at, ready_answer, held_in, handle_in, poll_handle_at, poll_answer, ended_answer}
use Rattle.executor_core.specs.Queues.State.{QueueState}
use Rattle.executor_core.specs.Cell.Changes.{readied, awaited, output_of, wakeup_of}
use Rattle.executor_core.proofs.TableLemmas.{table_set}
use Rattle.executor_core.proofs.WriteLemmas.{kept_sound}
use Rattle.executor_core.proofs.StateLemmas.{held_state, ended_state}
use Rattle.executor_core.specs.declared.task.cell.Cell.{Cell}
use Rattle.executor_core.specs.declared.task.cell.Numbered.{Numbered}
use Rattle.executor_core.specs.declared.task.cell.TaskId.{TaskId}
use Rattle.executor_core.specs.declared.task.cell.CellState.{CellState}
use Rattle.executor_core.specs.declared.task.cell.CellState.TheVariants.{Finished, Gone}
use Rattle.std.proofs.Common.{◌-◌, add-zero}
use Rattle.executor_core.specs.declared.task.table.EndReady.{EndReady}
use Rattle.executor_core.specs.declared.task.values.Wakeup.{Wakeup}
use Rattle.executor_core.specs.declared.task.handles.PollHandle.TheVariants.{Cancelled, Pending}
use Rattle.executor_core.specs.Slots.{Changes}
use Rattle.executor_core.proofs.TableLemmas.{put_sound}
use Rattle.executor_core.proofs.WriteLemmas.{law_at}
use Rattle.executor_core.proofs.RemoveLemmas.{remove_sound, counted_one}

module _ {P T : Type 0} where
  readied_state : (b : Bool) (s : CellState P T) (t : T) → s ≡ cond b Gone (Finished t) → (is_scheduled s ≡ false) × ((is_idle s || is_held s) ≡ false)
  readied_state b s t e = grind arith

arith_end : (u l : ℕ) {a b : Bool} → (u - 1) + 1 ≡ u → a ≡ true → b ≡ false → (u - 1) + (l + cond a 1 0) ≡ u + (l + cond b 1 0)
arith_end u l e f g = rw (f, g) (omega arith)

module _ {P T W : Type 0} where
  -- a write of a cell whose future was out and is dropped now, and whose handle is there
  pub ended_sound : {next undropped : ℕ} {slots : List (Option (Numbered (Cell P T W)))} {ids : List TaskId}
      → IsSound next slots ids undropped
      → (key : ℕ) (e : Numbered (Cell P T W)) (c : Cell P T W) → get_or slots key None ≡ Some e → is_held e.cell.state ≡ true
      → is_scheduled c.state ≡ false → (is_idle c.state || is_held c.state) ≡ false → Settled c
      → IsSound next (set slots key (Some (record { number = e.number; cell = c }))) ids (undropped - 1)
  ended_sound {undropped = undropped} {ids = ids} sound key e c there held unqueued unqueueable settled =
      let facts = held_state e.cell.state held in
      let one = counted_one sound key e there facts.1 in
      put_sound sound key e c there ids (undropped - 1) (omega arith) settled sound.placed
      (law_at sound key e there ∙ ap (λ b. cond b 1 0) (facts.0 ∙ sym unqueued))
      (λ q far. refl)
      (arith_end undropped (length ids) one facts.1 unqueueable)

  pub ready_sound : {next undropped : ℕ} {slots : List (Option (Numbered (Cell P T W)))} {ids : List TaskId}
      → IsSound next slots ids undropped
      → (key : ℕ) (e : Numbered (Cell P T W)) (t : T) → get_or slots key None ≡ Some e → is_held e.cell.state ≡ true → e.cell.has_handle ≡ true
      → IsSound next (set slots key (Some (record { number = e.number; cell = readied e.cell t }))) ids (undropped - 1)
  ready_sound sound key e t there held handle =
      let after = readied_state e.cell.cancelled (readied e.cell t).state t refl in
      ended_sound sound key e (readied e.cell t) there held after.0 after.1 (λ dropped. (refl, handle))

  pub leave_sound : {next undropped : ℕ} {slots : List (Option (Numbered (Cell P T W)))} {ids : List TaskId}
      → IsSound next slots ids undropped
      → (key : ℕ) (e : Numbered (Cell P T W)) → get_or slots key None ≡ Some e → is_held e.cell.state ≡ true
      → (new : List (Option (Numbered (Cell P T W)))) → Changes slots new key None
      → IsSound next new ids (undropped - 1)
  leave_sound {undropped = undropped} sound key e there held new changes =
      let facts = held_state e.cell.state held in
      remove_sound sound key e there facts.0 new changes (undropped - 1) (ap (λ b. (undropped - 1) + cond b 1 0) facts.1 ∙ counted_one sound key e there facts.1)

  pub after_end_ready-absent : (table : Table P T W) (id : TaskId) (t : T) (o : Option (Cell P T W)) → held_in o ≡ false → end_ready_at table id t o ≡ table
  after_end_ready-absent table id t o h = grind arith

  pub ready_answer-absent : (t : T) (o : Option (Cell P T W)) → held_in o ≡ false → ready_answer t o ≡ record { awaiter = None; unwanted = Some t }
  ready_answer-absent t o h = grind arith

  pub readied_some : (table : Table P T W) (id : TaskId) (t : T) (c : Cell P T W) {b : Bool} → is_held c.state ≡ true → c.has_handle ≡ b → end_ready_at table id t (Some c) ≡ cond b (with_cell table id (readied c t)) (without_cell table id)
  readied_some table id t c held handle = rw (held, handle) refl

  pub answer_some : (t : T) (c : Cell P T W) {b : Bool} → is_held c.state ≡ true → c.has_handle ≡ b → ready_answer t (Some c) ≡ record { awaiter = wakeup_of c.awaiter; unwanted = cond (b && not c.cancelled) None (Some t) }
  answer_some t c held handle = rw (held, handle) refl

  pub await_sound : {next undropped : ℕ} {slots : List (Option (Numbered (Cell P T W)))} {ids : List TaskId}
      → IsSound next slots ids undropped
      → (id : TaskId) (e : Numbered (Cell P T W)) (w : W) → get_or slots id.slot None ≡ Some e → is_undropped e.cell.state ≡ true
      → IsSound next (set slots id.slot (Some (record { number = e.number; cell = awaited e.cell w }))) ids undropped
  await_sound sound id e w there undropped =
      kept_sound sound id e (awaited e.cell w) there refl refl (λ dropped. absurd (cc (undropped, dropped)))

  pub end_handle_sound : {next undropped : ℕ} {slots : List (Option (Numbered (Cell P T W)))} {ids : List TaskId}
      → IsSound next slots ids undropped
      → (key : ℕ) (e : Numbered (Cell P T W)) → get_or slots key None ≡ Some e → is_undropped e.cell.state ≡ false
      → (new : List (Option (Numbered (Cell P T W)))) → Changes slots new key None
      → IsSound next new ids undropped
  end_handle_sound {undropped = undropped} sound key e there dropped new changes =
      let facts = ended_state e.cell.state dropped in
      remove_sound sound key e there facts.0 new changes undropped (ap (λ b. undropped + cond b 1 0) facts.1 ∙ add-zero undropped)

  pub after_poll_handle-absent : (table : Table P T W) (id : TaskId) (w : W) (o : Option (Cell P T W)) → handle_in o ≡ false → poll_handle_at table id w o ≡ table
  after_poll_handle-absent table id w o h = grind arith

  pub poll_answer-absent : (w : W) (o : Option (Cell P T W)) → handle_in o ≡ false → poll_answer w o ≡ Cancelled w
  poll_answer-absent w o h = grind arith

  pub polled_some : (table : Table P T W) (id : TaskId) (w : W) (c : Cell P T W) {b : Bool} → c.has_handle ≡ true → is_undropped c.state ≡ b → poll_handle_at table id w (Some c) ≡ cond b (with_cell table id (awaited c w)) (without_cell table id)
  polled_some table id w c handle undropped = rw (handle, undropped) refl

  pub poll_some : (w : W) (c : Cell P T W) {b : Bool} → c.has_handle ≡ true → is_undropped c.state ≡ b → poll_answer w (Some c) ≡ cond b (Pending c.awaiter) (ended_answer w (output_of c.state))
  poll_some w c handle undropped = rw (handle, undropped) refl

  pub set_table : {closed : Bool} {next undropped : ℕ} {slots : List (Option (Numbered (Cell P T W)))} {ids : List TaskId}
      → IsSound next slots ids undropped
      → (q : QueueState) (id : TaskId) (e : Numbered (Cell P T W)) (c : Cell P T W) → get_or slots id.slot None ≡ Some e → e.number ≡ id.number
      → table_of next (set slots id.slot (Some (record { number = e.number; cell = c }))) q closed ≡ with_cell (table_of next slots q closed) id c
  set_table {closed} {next} {slots = slots} sound q id e c there number = table_set next slots q id e c (numbers_of q.lists.global) sound.distinct there number refl

  pub answer_kept : (t : T) (c : Cell P T W) → is_held c.state ≡ true → c.has_handle ≡ true → ready_answer t (Some c) ≡ record { awaiter = wakeup_of c.awaiter; unwanted = cond c.cancelled (Some t) None }
  answer_kept t c held handle = grind (arith, answer_some)

abbrev pub end_ready_of : {T W : Type 0} → Option (Wakeup W) → Option T → EndReady T W
end_ready_of a u = record { awaiter = a; unwanted = u }
