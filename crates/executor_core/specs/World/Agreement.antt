-- How the cells agree with the log: what each number's cell is, by what the log says of the number.
use Rattle.std.specs.Prelude.{◌≡◌, ℕ, ◌+◌, ◌≤◌, Bool, true, false, List, [], ◌∷◌, length, Option, Some, None, cond, ◌||◌, not, is_some, slice_get}
use Rattle.std.specs.List.{list_any}
use Rattle.std.specs.FinMap as map
use Rattle.executor_core.specs.Cells.{Slotted, Table}
use Rattle.executor_core.specs.Cells.Calls.{cell_at, poll_answer, finished_in}
use Rattle.executor_core.specs.Cell.{is_idle, is_scheduled, is_held}
use Rattle.executor_core.specs.World.Entries.{PolledAgrees}
use Rattle.executor_core.specs.World.Log.{owed, idle, handle_finished, is_take, is_cancel, unfollowed, spawned, dropped, cancelled, held, woken, outputs, given, polls, wakes}
use Rattle.executor_core.specs.World.Promises.{InOrder}
use Rattle.executor_core.specs.declared.interleave.entry.TaskInfo.{TaskInfo}
use Rattle.executor_core.specs.declared.interleave.entry.TaskEntry.{TaskEntry}
use Rattle.executor_core.specs.declared.task.cell.CellState.{CellState}
use Rattle.executor_core.specs.declared.task.cell.CellState.TheVariants.{Idle, Scheduled, Held, Finished, Gone}
use Rattle.executor_core.specs.declared.task.cell.TaskId.{TaskId}
use Rattle.executor_core.specs.declared.task.handles.PollHandle.{PollHandle}
use Rattle.executor_core.specs.declared.task.handles.PollHandle.TheVariants as handle
use Rattle.executor_core.specs.declared.interleave.event.Event.{Event}

-- all that a log says of one number
pub record Status (T : Type 0) : Type 0 where
  pub spawned : Bool
  pub dropped : Bool
  pub cancelled : Bool
  pub taken : Bool
  pub held : Bool
  pub woken : Bool
  pub cancelled_since : Bool
  pub outputs : List T
  pub given : List T
  pub polls : ℕ
  pub wakes : ℕ

module _ {T : Type 0} where
  abbrev pub status : ℕ → List (Event T) → Status T
  status n log =
      record {
        spawned = spawned n log;
        dropped = dropped n log;
        cancelled = cancelled n log;
        taken = list_any (is_take n) log;
        held = held n log;
        woken = woken n log;
        cancelled_since = unfollowed (is_cancel n) (is_take n) log;
        outputs = outputs n log;
        given = given n log;
        polls = polls n log;
        wakes = wakes n log;
      }

  abbrev pub no_status : Status T
  no_status =
      record {
        spawned = false;
        dropped = false;
        cancelled = false;
        taken = false;
        held = false;
        woken = false;
        cancelled_since = false;
        outputs = [];
        given = [];
        polls = 0;
        wakes = 0;
      }

  -- each poll but the first has a wake of its own, and so has a poll that is still to come
  abbrev pub FewPollsFor : Status T → Type 0
  FewPollsFor s = s.polls + cond (not s.taken || s.woken) 1 0 ≤ 1 + s.wakes

module _ {T : Type 0} where
  -- the future is not dropped, so it gave nothing yet
  pub record IsUndropped (s : Status T) (out : Bool) : Type 0 where
    pub spawned : s.spawned ≡ true
    pub dropped : s.dropped ≡ false
    pub held : s.held ≡ out
    pub outputs : s.outputs ≡ []
    pub given : s.given ≡ []

  -- the future was dropped, and the handle gave nothing yet
  pub record IsEnded (s : Status T) (output : List T) : Type 0 where
    pub spawned : s.spawned ≡ true
    pub dropped : s.dropped ≡ true
    pub held : s.held ≡ false
    pub outputs : s.outputs ≡ output
    pub given : s.given ≡ []

module _ {P T : Type 0} where
  -- what the log says of a task whose cell has this state, and this woken mark
  abbrev pub StateAgrees : CellState P T → Bool → Status T → Type 0
  StateAgrees (Idle p) w s = IsUndropped s false × (s.taken ≡ true) × (s.woken ≡ false) × (s.cancelled ≡ false) × (s.cancelled_since ≡ false)
  StateAgrees (Scheduled p) w s = IsUndropped s false × (not s.taken || s.woken || s.cancelled_since ≡ true)
  StateAgrees Held w s = IsUndropped s true × (s.taken ≡ true) × (s.woken ≡ w)
  StateAgrees (Finished t) w s = IsEnded s (t ∷ [])
  StateAgrees Gone w s = IsEnded s []

  -- the future was dropped, and the handle is gone
  pub record IsRemoved (s : Status T) (e : TaskEntry P) : Type 0 where
    pub spawned : s.spawned ≡ true
    pub dropped : s.dropped ≡ true
    pub held : s.held ≡ false
    pub has_handle : e.info.has_handle ≡ false
    pub out : is_some e.out ≡ s.held

  pub record CellAgrees (slotted : Slotted P T (Unit {0})) (s : Status T) (e : TaskEntry P) : Type 0 where
    pub slot : slotted.slot ≡ e.info.slot
    pub has_handle : slotted.cell.has_handle ≡ e.info.has_handle
    pub awaited : is_some slotted.cell.awaiter ≡ e.info.awaited
    pub cancelled : slotted.cell.cancelled ≡ s.cancelled
    pub state : StateAgrees slotted.cell.state slotted.cell.woken s
    pub out : is_some e.out ≡ s.held
    pub polled : PolledAgrees e.out e.info.to_drop

  abbrev pub NumberAgrees : Option (Slotted P T (Unit {0})) → Status T → Option (TaskEntry P) → Type 0
  NumberAgrees None s None = s ≡ no_status
  NumberAgrees None s (Some e) = IsRemoved s e
  NumberAgrees (Some slotted) s (Some e) = CellAgrees slotted s e
  NumberAgrees (Some slotted) s None = ⊥

module _ {T : Type 0} where
  -- a handle is pending until its future was dropped, and then gives the output that the future gave
  abbrev pub AnswerAgrees : ℕ → List (Event T) → PollHandle T (Unit {0}) → Type 0
  AnswerAgrees n log (handle.Output t w) = (dropped n log ≡ true) × (outputs n log ≡ t ∷ [])
  AnswerAgrees n log (handle.Cancelled w) = (dropped n log ≡ true) × (outputs n log ≡ [])
  AnswerAgrees n log (handle.Pending before) = dropped n log ≡ false

module _ {P T : Type 0} where
  -- the cells, and what is kept of each task with the futures that are out, agree with the log
  pub record Agree (table : Table P T (Unit {0})) (log : List (Event T)) (entries : List (TaskEntry P)) : Type 0 where
    pub next : table.next ≡ length entries
    pub each : (n : ℕ) → NumberAgrees (map.get table.cells n) (status n log) (slice_get entries n)
    pub few_polls : (n : ℕ) → FewPollsFor (status n log)
    pub order : InOrder log

  -- the cells answer a handle as the log says
  pub record HandleAgrees (table : Table P T (Unit {0})) (log : List (Event T)) (id : TaskId) : Type 0 where
    pub answer : AnswerAgrees id.number log (poll_answer tt (cell_at table id))
    pub finished : finished_in (cell_at table id) ≡ handle_finished id.number log

  -- the cells answer each handle that is there as the log says
  abbrev pub HandlesAgree : Table P T (Unit {0}) → List (Event T) → List TaskInfo → Type 0
  HandlesAgree table log tasks = (n : ℕ) (i : TaskInfo) → slice_get tasks n ≡ Some i → i.has_handle ≡ true → HandleAgrees table log (record { number = n; slot = i.slot })

module _ {P T : Type 0} where
  abbrev pub has_state : (CellState P T → Bool) → Option (Slotted P T (Unit {0})) → Bool
  has_state test None = false
  has_state test (Some s) = test s.cell.state

  -- each number's cell stands where the log says
  pub record CellsAgree (table : Table P T (Unit {0})) (log : List (Event T)) : Type 0 where
    pub scheduled : (n : ℕ) → has_state is_scheduled (map.get table.cells n) ≡ owed n log
    pub idle : (n : ℕ) → has_state is_idle (map.get table.cells n) ≡ idle n log
    pub held : (n : ℕ) → has_state is_held (map.get table.cells n) ≡ held n log
