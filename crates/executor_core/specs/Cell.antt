-- The states of a task.
pub mod Changes
use Rattle.std.specs.Prelude.{Bool, true, false}
use Rattle.executor_core.specs.declared.task.cell.CellState.{CellState}
use Rattle.executor_core.specs.declared.task.cell.CellState.TheVariants.{Idle, Scheduled, Held, Finished, Gone}

module _ {P T : Type 0} where
  abbrev pub is_idle : CellState P T → Bool
  is_idle (Idle p) = true
  is_idle (Scheduled p) = false
  is_idle Held = false
  is_idle (Finished t) = false
  is_idle Gone = false

  abbrev pub is_scheduled : CellState P T → Bool
  is_scheduled (Idle p) = false
  is_scheduled (Scheduled p) = true
  is_scheduled Held = false
  is_scheduled (Finished t) = false
  is_scheduled Gone = false

  abbrev pub is_held : CellState P T → Bool
  is_held (Idle p) = false
  is_held (Scheduled p) = false
  is_held Held = true
  is_held (Finished t) = false
  is_held Gone = false

  -- the future is in the cell, or out
  abbrev pub is_undropped : CellState P T → Bool
  is_undropped (Idle p) = true
  is_undropped (Scheduled p) = true
  is_undropped Held = true
  is_undropped (Finished t) = false
  is_undropped Gone = false
