-- What the end of a handle keeps and gives.
use Rattle.std.proofs.Common.{◌≡◌, ℕ, Bool, true, false, List, set, get_or, Option, Some, None, cond, refl, arith}
use Rattle.std.proofs.lemmas.Bool.{eq-eqb}
use Rattle.executor_core.specs.Cells.{Table}
use Rattle.executor_core.specs.Cell.{is_undropped}
use Rattle.executor_core.specs.Cells.View.{IsSound}
use Rattle.executor_core.specs.Cells.Calls.{cell_at, with_cell, without_cell, handle_in, after_cancel, detach_at, detach_answer}
use Rattle.executor_core.specs.Cell.Changes.{detached, output_of}
use Rattle.executor_core.proofs.SlotLemmas.{insert_same}
use Rattle.executor_core.proofs.WriteLemmas.{kept_sound}
use Rattle.executor_core.proofs.StateLemmas.{output_of-state_woken}
use Rattle.executor_core.specs.declared.task.cell.Cell.{Cell}
use Rattle.executor_core.specs.declared.task.cell.Numbered.{Numbered}
use Rattle.executor_core.specs.declared.task.cell.TaskId.{TaskId}

abbrev pub pair_of : {T W : Type 0} → Option T → Option W → Option T × Option W
pair_of t w = (t, w)

module _ {P T W : Type 0} where
  pub detach_sound : {next undropped : ℕ} {slots : List (Option (Numbered (Cell P T W)))} {ids : List TaskId}
      → IsSound next slots ids undropped
      → (id : TaskId) (e : Numbered (Cell P T W)) → get_or slots id.slot None ≡ Some e → is_undropped e.cell.state ≡ true
      → IsSound next (set slots id.slot (Some (record { number = e.number; cell = detached e.cell }))) ids undropped
  detach_sound sound id e there undropped =
      kept_sound sound id e (detached e.cell) there refl refl (λ dropped. absurd (cc (undropped, dropped)))

  pub detached_some : (table : Table P T W) (id : TaskId) (c : Cell P T W) {b : Bool} → c.has_handle ≡ true → is_undropped c.state ≡ b → detach_at table id (Some c) ≡ cond b (with_cell table id (detached c)) (without_cell table id)
  detached_some table id c handle undropped = rw (handle, undropped) refl

  pub detach_some : (c : Cell P T W) → c.has_handle ≡ true → detach_answer (Some c) ≡ (output_of c.state, c.awaiter)
  detach_some c handle = rw handle refl

  -- the handle is not there
  pub after_detach-absent : (table : Table P T W) (id : TaskId) (o : Option (Cell P T W)) → handle_in o ≡ false → detach_at table id o ≡ table
  after_detach-absent table id o h = grind arith

  pub detach_answer-absent : (o : Option (Cell P T W)) → handle_in o ≡ false → detach_answer o ≡ (None, None)
  detach_answer-absent o h = grind arith

  pub cell_at-with_cell : (table : Table P T W) (id : TaskId) (c : Cell P T W) → cell_at (with_cell table id c) id ≡ Some c
  cell_at-with_cell table id c = grind (arith, insert_same, eq-eqb)

  -- a cancel changes nothing of what a detach gives
  pub detach_answer-after_cancel : (table : Table P T W) (id : TaskId) → detach_answer (cell_at (after_cancel table id) id) ≡ detach_answer (cell_at table id)
  detach_answer-after_cancel table id = grind (arith, output_of-state_woken, cell_at-with_cell)
