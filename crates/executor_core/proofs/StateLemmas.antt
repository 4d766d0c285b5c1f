-- The states of a task: which is which, before and after a wake.
use Rattle.std.proofs.Common.{◌≡◌, ◌||◌, true, false, None, arith}
use Rattle.executor_core.specs.Cell.{is_idle, is_held, is_scheduled, is_undropped}
use Rattle.executor_core.specs.Cell.Changes.{state_woken, output_of}
use Rattle.executor_core.specs.declared.task.cell.CellState.{CellState}

module _ {P T : Type 0} where
  pub held_state : (s : CellState P T) → is_held s ≡ true → (is_scheduled s ≡ false) × ((is_idle s || is_held s) ≡ true)
  held_state s h = grind arith

  pub ended_state : (s : CellState P T) → is_undropped s ≡ false → (is_scheduled s ≡ false) × ((is_idle s || is_held s) ≡ false)
  ended_state s h = grind arith

  pub scheduled_state : (s : CellState P T) → is_scheduled s ≡ true → (is_idle s || is_held s) ≡ false
  scheduled_state s h = grind arith

  pub undropped_by : (s : CellState P T) → (is_idle s || is_held s) ≡ false → is_scheduled s ≡ false → is_undropped s ≡ false
  undropped_by s h k = grind arith

  pub woken_quiet-scheduled : (s : CellState P T) → is_idle s ≡ false → is_scheduled (state_woken s) ≡ is_scheduled s
  woken_quiet-scheduled s h = grind arith

  pub woken_quiet-queueable : (s : CellState P T) → is_idle s ≡ false → (is_idle (state_woken s) || is_held (state_woken s)) ≡ (is_idle s || is_held s)
  woken_quiet-queueable s h = grind arith

  pub woken_idle : (s : CellState P T) → is_idle s ≡ true → (is_scheduled s ≡ false) × (is_scheduled (state_woken s) ≡ true) × ((is_idle s || is_held s) ≡ true) × ((is_idle (state_woken s) || is_held (state_woken s)) ≡ false)
  woken_idle s h = grind arith

  pub undropped-state_woken : (s : CellState P T) → is_undropped (state_woken s) ≡ is_undropped s
  undropped-state_woken s = grind arith

  pub output_of_undropped : (s : CellState P T) → is_undropped s ≡ true → output_of s ≡ None
  output_of_undropped s h = grind arith

  pub output_of-state_woken : (s : CellState P T) → output_of (state_woken s) ≡ output_of s
  output_of-state_woken s = grind arith
