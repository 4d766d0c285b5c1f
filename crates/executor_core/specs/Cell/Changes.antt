-- What each call makes of one cell.
use Rattle.std.specs.Prelude.{Bool, true, false, Option, Some, None, cond, ◌&&◌, not}
use Rattle.executor_core.specs.Cell.{is_held, is_undropped}
use Rattle.executor_core.specs.declared.task.cell.Cell.{Cell}
use Rattle.executor_core.specs.declared.task.cell.CellState.{CellState}
use Rattle.executor_core.specs.declared.task.cell.CellState.TheVariants.{Idle, Scheduled, Held, Finished, Gone}
use Rattle.executor_core.specs.declared.task.values.Wakeup.{Wakeup}

module _ {P T : Type 0} where
  -- an idle task is scheduled
  abbrev pub state_woken : CellState P T → CellState P T
  state_woken (Idle p) = Scheduled p
  state_woken (Scheduled p) = Scheduled p
  state_woken Held = Held
  state_woken (Finished t) = Finished t
  state_woken Gone = Gone

  abbrev pub output_of : CellState P T → Option T
  output_of (Idle p) = None
  output_of (Scheduled p) = None
  output_of Held = None
  output_of (Finished t) = Some t
  output_of Gone = None

  -- what a handle hears of its task, by the cancel mark and the state: the future was dropped, or nobody will poll it again
  abbrev pub is_finished_state : Bool → CellState P T → Bool
  is_finished_state cancelled (Idle p) = false
  is_finished_state cancelled (Scheduled p) = cancelled
  is_finished_state cancelled Held = cancelled
  is_finished_state cancelled (Finished t) = true
  is_finished_state cancelled Gone = true

module _ {P T W : Type 0} where
  -- the cell of a new task
  abbrev pub new_cell : P → Cell P T W
  new_cell p = record { state = Scheduled p; cancelled = false; woken = false; has_handle = true; awaiter = None }

  -- after a wake: a future that is out is marked
  abbrev pub woken : Cell P T W → Cell P T W
  woken c = record c { state = state_woken c.state; woken = cond (is_held c.state) true c.woken }

  -- after its future was taken
  abbrev pub taken : Cell P T W → Cell P T W
  taken c = record c { state = Held; woken = false }

  -- after a poll that was pending
  abbrev pub pended : Cell P T W → P → Cell P T W
  pended c p = record c { state = cond c.woken (Scheduled p) (Idle p) }

  -- after its future gave an output, if its handle is there
  abbrev pub readied : Cell P T W → T → Cell P T W
  readied c t = record c { state = cond c.cancelled Gone (Finished t); awaiter = None }

  -- after its handle was polled in vain
  abbrev pub awaited : Cell P T W → W → Cell P T W
  awaited c w = record c { awaiter = Some w }

  -- after a cancel: a task whose future is not dropped is marked, and an idle one is scheduled
  abbrev pub cancelled_cell : Cell P T W → Cell P T W
  cancelled_cell c = record c { state = state_woken c.state; cancelled = cond (is_undropped c.state) true c.cancelled }

  -- after its handle ended, if its future is not dropped
  abbrev pub detached : Cell P T W → Cell P T W
  detached c = record c { has_handle = false; awaiter = None }

  -- after its future was dropped without an output, if its handle is there
  abbrev pub disposed : Cell P T W → Cell P T W
  disposed c = record c { state = Gone; awaiter = None }

  -- the future is out, and the task was not cancelled: so the future may go back
  abbrev pub takes_back : Cell P T W → Bool
  takes_back c = is_held c.state && not c.cancelled

-- the waker of an awaiter, to be woken
abbrev pub wakeup_of : {W : Type 0} → Option W → Option (Wakeup W)
wakeup_of None = None
wakeup_of (Some w) = Some (record { waker = w })
