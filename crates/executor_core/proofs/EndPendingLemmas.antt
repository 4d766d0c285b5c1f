-- What the end of a poll that was pending keeps and gives.
use Rattle.std.proofs.Common.{◌≡◌, ℕ, Bool, ◌||◌, true, false, List, [], ◌∷◌, ◌++◌, set, get_or, Option, Some, None, cond, sym, ap, ◌∙◌, arith}
use Rattle.executor_core.specs.Cells.{Table}
use Rattle.executor_core.specs.Cell.{is_idle, is_held, is_scheduled, is_undropped}
use Rattle.executor_core.specs.Cells.View.{numbers_of, table_of, IsSound}
use Rattle.executor_core.specs.Cells.Calls.{with_cell, takes_back_in, end_pending_at, after_end_pending, queued_if, woken_in}
use Rattle.executor_core.specs.Queues.State.{QueueState}
use Rattle.executor_core.specs.Cell.Changes.{takes_back, pended}
use Rattle.executor_core.proofs.TableLemmas.{table_set, with_global}
use Rattle.executor_core.proofs.WriteLemmas.{kept_sound, queued_sound}
use Rattle.executor_core.proofs.FindLemmas.{cell_of, cell_at_entry}
use Rattle.executor_core.proofs.StateLemmas.{held_state}
use Rattle.executor_core.specs.declared.task.cell.Cell.{Cell}
use Rattle.executor_core.specs.declared.task.cell.Numbered.{Numbered}
use Rattle.executor_core.specs.declared.task.cell.TaskId.{TaskId}
use Rattle.executor_core.specs.declared.task.cell.CellState.TheVariants.{Idle, Scheduled}

module _ {P T W : Type 0} where
  pub end_pending_idle : {next undropped : ℕ} {slots : List (Option (Numbered (Cell P T W)))} {ids : List TaskId}
      → IsSound next slots ids undropped
      → (id : TaskId) (e : Numbered (Cell P T W)) (p : P) → get_or slots id.slot None ≡ Some e → is_held e.cell.state ≡ true → e.cell.woken ≡ false
      → IsSound next (set slots id.slot (Some (record { number = e.number; cell = pended e.cell p }))) ids undropped
  end_pending_idle sound id e p there held quiet =
      let facts = held_state e.cell.state held in
      kept_sound sound id e (pended e.cell p) there
      (ap (λ b. is_scheduled {P = P} {T = T} (cond b (Scheduled p) (Idle p))) quiet ∙ sym facts.0)
      (ap (λ b. is_idle {P = P} {T = T} (cond b (Scheduled p) (Idle p)) || is_held {P = P} {T = T} (cond b (Scheduled p) (Idle p))) quiet ∙ sym facts.1)
      (λ dropped. absurd (cc (ap (λ b. is_undropped {P = P} {T = T} (cond b (Scheduled p) (Idle p))) quiet, dropped)))

  pub end_pending_queued : {next undropped : ℕ} {slots : List (Option (Numbered (Cell P T W)))} {ids later : List TaskId}
      → IsSound next slots ids undropped
      → (id : TaskId) (e : Numbered (Cell P T W)) (p : P) → get_or slots id.slot None ≡ Some e → e.number ≡ id.number → is_held e.cell.state ≡ true → e.cell.woken ≡ true
      → later ≡ ids ++ id ∷ []
      → IsSound next (set slots id.slot (Some (record { number = e.number; cell = pended e.cell p }))) later undropped
  end_pending_queued sound id e p there number held woken longer =
      let facts = held_state e.cell.state held in
      queued_sound sound id e (pended e.cell p) there number facts.0
      (ap (λ b. is_scheduled {P = P} {T = T} (cond b (Scheduled p) (Idle p))) woken)
      facts.1
      (ap (λ b. is_idle {P = P} {T = T} (cond b (Scheduled p) (Idle p)) || is_held {P = P} {T = T} (cond b (Scheduled p) (Idle p))) woken)
      (λ dropped. absurd (cc (ap (λ b. is_undropped {P = P} {T = T} (cond b (Scheduled p) (Idle p))) woken, dropped)))
      longer

  pub end_pending_table : {closed : Bool} {next undropped : ℕ} {slots : List (Option (Numbered (Cell P T W)))} {ids : List TaskId}
      → IsSound next slots ids undropped
      → (q : QueueState) (id : TaskId) (e : Numbered (Cell P T W)) (p : P) (later : List TaskId) → get_or slots id.slot None ≡ Some e → e.number ≡ id.number → takes_back e.cell ≡ true
      → numbers_of later ≡ cond e.cell.woken (numbers_of q.lists.global ++ id.number ∷ []) (numbers_of q.lists.global)
      → table_of next (set slots id.slot (Some (record { number = e.number; cell = pended e.cell p }))) (with_global later q) closed ≡ after_end_pending (table_of next slots q closed) id p
  end_pending_table {closed} {next} {slots = slots} sound q id e p later there number out lists =
      table_set next slots (with_global later q) id e (pended e.cell p) _ sound.distinct there number lists
      ∙ sym (ap (end_pending_at (table_of next slots q closed) id p) (cell_at_entry sound id e there number)
      ∙ ap (λ b. cond b (queued_if e.cell.woken (with_cell (table_of next slots q closed) id (pended e.cell p)) id) (table_of next slots q closed)) out)

  -- nothing is out for the id
  pub after_end_pending-absent : (table : Table P T W) (id : TaskId) (p : P) (o : Option (Cell P T W)) → takes_back_in o ≡ false → end_pending_at table id p o ≡ table
  after_end_pending-absent table id p o h = grind arith

  pub woken_in_is : {next undropped : ℕ} {slots : List (Option (Numbered (Cell P T W)))} {ids : List TaskId}
      → IsSound next slots ids undropped → (id : TaskId) (e : Numbered (Cell P T W)) → get_or slots id.slot None ≡ Some e → e.number ≡ id.number
      → woken_in (cell_of slots id) ≡ e.cell.woken
  woken_in_is sound id e there number = ap woken_in (cell_at_entry sound id e there number)
