-- A task is marked as woken or cancelled, and an idle one is queued.
use Rattle.std.proofs.Common.{◌≡◌, ◌≢◌, ℕ, ◌+◌, ◌≤◌, ◌&&◌, not, Bool, true, false, List, [], ◌∷◌, ◌++◌, Some, cond, refl, sym, ap, ◌∙◌, inl, inr, arith}
use Rattle.std.proofs.lemmas.Bool.{cases_Bool, or_left, or_right, cond-true, cond-false}
use Rattle.std.specs.Prelude.{slice_get}
use Rattle.std.specs.FinMap as map
use Rattle.executor_core.specs.Cells.{Slotted, Table}
use Rattle.executor_core.specs.Cell.{is_idle, is_held, is_undropped}
use Rattle.std.specs.Vec.{vec_capacity}
use Rattle.executor_core.specs.Cells.Calls.{cell_at, undropped_in, idle_in, wakes, after_wake, wake_at, passes, after_cancel, cancel_at, cancel_queues, queued_if, with_cell}
use Rattle.executor_core.specs.Cell.Changes.{woken, state_woken, cancelled_cell}
use Rattle.executor_core.specs.World.{Execution}
use Rattle.executor_core.specs.World.Entries.{infos}
use Rattle.executor_core.specs.World.Log.{is_spawn, dropped, idle}
use Rattle.executor_core.specs.World.Steps.{info, notice_reply, mark_row, wake_row, cancel_row}
use Rattle.executor_core.specs.World.View.{execution_of, IsWorld}
use Rattle.executor_core.specs.World.Promises.{MayFollow}
use Rattle.executor_core.specs.World.Agreement.{Status, status, FewPollsFor, StateAgrees, CellAgrees, Agree}
use Rattle.executor_core.proofs.World.Status.{task_of}
use Rattle.executor_core.proofs.World.Log.{on_wake, on_cancel, order-push}
use Rattle.executor_core.proofs.World.Closing.{marked_push_if}
use Rattle.executor_core.proofs.World.Entries.{entry_of, handle_there}
use Rattle.executor_core.proofs.World.Room.{length-push_if}
use Rattle.executor_core.proofs.World.Runners.{fixed_part, same_locals, same_closed}
use Rattle.executor_core.proofs.World.Steps.{stepped, Done, stepped_sound}
use Rattle.executor_core.proofs.World.Agreement.{id_of, undropped_is, idle_state, undropped_state, CellAt, cell_or_none, handle_cell, entry_same, log_same, log_pushed, cell_put, agree_again}
use Rattle.executor_core.specs.declared.task.cell.Cell.{Cell}
use Rattle.executor_core.specs.declared.task.cell.CellState.{CellState}
use Rattle.executor_core.specs.declared.plain_core.Core.{Core}
use Rattle.executor_core.specs.declared.task.cell.TaskId.{TaskId}
use Rattle.executor_core.specs.declared.interleave.World.TheInside.{Inside}
use Rattle.executor_core.specs.declared.interleave.entry.TaskEntry.{TaskEntry}
use Rattle.executor_core.specs.declared.interleave.entry.TaskInfo.{TaskInfo}
use Rattle.executor_core.specs.declared.interleave.reply.Reply.{Reply}
use Rattle.executor_core.specs.declared.interleave.event.Event.{Event}
use Rattle.executor_core.specs.declared.interleave.event.Event.TheVariants.{Woken, Cancelled}

few_wake : (a w : ℕ) (b c : Bool) → a + cond b 1 0 ≤ 1 + w → a + cond c 1 0 ≤ 1 + (1 + w)
few_wake a w b c h = grind arith

module _ {P T : Type 0} where
  pub woken_state : (st : CellState P T) (w : Bool) (s : Status T) (k : ℕ) → is_undropped st ≡ true → StateAgrees st w s → StateAgrees (state_woken st) (cond (is_held st) true w) (record s { woken = true; wakes = k })
  woken_state st w s k u h = grind (arith, or_left, or_right)

  pub cancelled_state : (st : CellState P T) (w : Bool) (s : Status T) → is_undropped st ≡ true → StateAgrees st w s → StateAgrees (state_woken st) w (record s { cancelled = true; cancelled_since = true })
  cancelled_state st w s u h = grind (arith, or_right)

  -- the state of a dropped task stays as it is
  pub ended_state : (st : CellState P T) (v w : Bool) (s : Status T) → is_undropped st ≡ false → StateAgrees st w s → StateAgrees (state_woken st) v s
  ended_state st v w s u h = grind arith

-- what a wake and a cancel make of what the log says of a task
module _ {T : Type 0} where
  abbrev pub woken_status : Status T → Status T
  woken_status s = record s { woken = true; wakes = 1 + s.wakes }

  abbrev pub cancelled_status : Status T → Status T
  cancelled_status s = record s { cancelled = true; cancelled_since = true }

-- what a mark makes of a cell, and its event of what the log says of a task whose future is not dropped
module _ {P T : Type 0} where
  pub record Marking (event : ℕ → Event T) (mark : Cell P T (Unit {0}) → Cell P T (Unit {0})) (change : Status T → Status T) : Type 0 where
    pub of : (n : ℕ) → task_of (event n) ≡ n
    pub follows : (log : List (Event T)) (n : ℕ) → MayFollow log (event n)
    pub on : (n : ℕ) (log : List (Event T)) → status n (log ++ event n ∷ []) ≡ change (status n log)
    pub has_handle : (c : Cell P T (Unit {0})) → (mark c).has_handle ≡ c.has_handle
    pub awaiter : (c : Cell P T (Unit {0})) → (mark c).awaiter ≡ c.awaiter
    pub held : (s : Status T) → (change s).held ≡ s.held
    pub few_polls : (s : Status T) → FewPollsFor s → FewPollsFor (change s)
    pub alive : (c : Cell P T (Unit {0})) (s : Status T) → is_undropped c.state ≡ true → c.cancelled ≡ s.cancelled → StateAgrees c.state c.woken s → ((mark c).cancelled ≡ (change s).cancelled) × StateAgrees (mark c).state (mark c).woken (change s)
    pub ended : (c : Cell P T (Unit {0})) (s : Status T) → is_undropped c.state ≡ false → StateAgrees c.state c.woken s → ((mark c).cancelled ≡ c.cancelled) × StateAgrees (mark c).state (mark c).woken s

  pub waking : Marking (λ n. Woken n) woken woken_status
  waking = grind (arith, on_wake, few_wake, woken_state, ended_state)

  pub cancelling : Marking (λ n. Cancelled n) cancelled_cell cancelled_status
  cancelling = grind (arith, on_cancel, cond-true, cancelled_state, cond-false, ended_state)

  module _ {event : ℕ → Event T} {mark : Cell P T (Unit {0}) → Cell P T (Unit {0})} {change : Status T → Status T} (marking : Marking event mark change) {slotted : Slotted P T (Unit {0})} {s : Status T} {e : TaskEntry P} (h : CellAgrees slotted s e) {slot : ℕ} (same : slot ≡ e.info.slot) where
    -- the cell agrees again once it is marked, with the event if its future is not dropped
    pub marked_cell : is_undropped slotted.cell.state ≡ true → CellAgrees (record { slot = slot; cell = mark slotted.cell }) (change s) e
    marked_cell alive = grind arith

    -- and without it if its future was dropped
    pub ended_cell : is_undropped slotted.cell.state ≡ false → CellAgrees (record { slot = slot; cell = mark slotted.cell }) s e
    ended_cell ended = grind arith

module _ {P T : Type 0} {table : Table P T (Unit {0})} {log : List (Event T)} {entries : List (TaskEntry P)} (agree : Agree table log entries) (n : ℕ) (e : TaskEntry P) (found : slice_get entries n ≡ Some e) where
  -- what a mark makes of the table: it is logged unless the future was dropped, and an idle task is queued
  pub record Marks (event : Event T) (later : Table P T (Unit {0})) (queues : Bool) : Type 0 where
    pub holds : Agree later (cond (not (dropped n log)) (log ++ event ∷ []) log) entries
    pub global : later.global ≡ cond (idle n log) (table.global ++ n ∷ []) table.global
    pub runners : fixed_part later ≡ fixed_part table
    pub queued : queues ≡ idle n log

  marked : {event : ℕ → Event T} {mark : Cell P T (Unit {0}) → Cell P T (Unit {0})} {change : Status T → Status T} → Marking event mark change → (at : CellAt table log n e) (later : Table P T (Unit {0})) → later.next ≡ table.next → later.cells ≡ map.insert table.cells n (record { slot = e.info.slot; cell = mark at.slotted.cell })
      → Agree later (cond (not (dropped n log)) (log ++ event n ∷ []) log) entries
  marked {event} {mark} {change} marking at later next cells =
      let h = at.agrees in
      let here = undropped_state at.slotted.cell.state at.slotted.cell.woken (status n log) h.state in
      let put = cell_put table later n (record { slot = e.info.slot; cell = mark at.slotted.cell }) next cells in
      elim (cases_Bool (is_undropped at.slotted.cell.state)) [
        | inl alive ↦ rw (cond-true (not (dropped n log)) (log ++ event n ∷ []) log (sym here ∙ alive))
            (agree_again agree put (log_pushed log n (event n) (change (status n log)) (marking.of n) (marking.on n log)) (entry_same entries n e found) (marked_cell marking h refl alive) (marking.few_polls (status n log) (agree.few_polls n)) (order-push log (event n) agree.order (marking.follows log n)))
        | inr ended ↦ rw (cond-false (not (dropped n log)) (log ++ event n ∷ []) log (sym here ∙ ended))
            (agree_again agree put (log_same log n) (entry_same entries n e found) (ended_cell marking h refl ended) (agree.few_polls n) agree.order)
      ]

  pub wake_marks : Marks (Woken n) (after_wake table (id_of n e.info)) (wakes table (id_of n e.info))
  wake_marks = elim (cell_or_none agree n e found) [
    | inl at ↦
        let c = at.slotted.cell in
        let now = idle_state c.state c.woken (status n log) at.agrees.state in
        record {
          holds = marked waking at _ (ap (λ x. (wake_at table (id_of n e.info) x).next) at.cell) (ap (λ x. (wake_at table (id_of n e.info) x).cells) at.cell);
          runners = ap (λ x. fixed_part (wake_at table (id_of n e.info) x)) at.cell;
          global = ap (λ x. (wake_at table (id_of n e.info) x).global) at.cell ∙ ap (λ b. cond b (table.global ++ n ∷ []) table.global) (sym now);
          queued = ap idle_in at.cell ∙ sym now;
        }
    | inr none ↦
        let h = none.agrees in
        let same : after_wake table (id_of n e.info) ≡ table = ap (wake_at table (id_of n e.info)) none.cell in
        let never : idle n log ≡ false = rw (h.spawned, h.dropped) refl in
        record {
          holds = rw (same, h.dropped) agree;
          global = rw (same, never) refl;
          runners = ap fixed_part same;
          queued = ap idle_in none.cell ∙ sym never;
        }
  ]

  pub cancel_marks : e.info.has_handle ≡ true → Marks (Cancelled n) (after_cancel table (id_of n e.info)) (cancel_queues table (id_of n e.info))
  cancel_marks there =
      let at = handle_cell agree n e found there in
      let c = at.slotted.cell in
      let has : c.has_handle ≡ true = at.agrees.has_handle ∙ there in
      let now = idle_state c.state c.woken (status n log) at.agrees.state in
      let is : after_cancel table (id_of n e.info) ≡ queued_if (is_idle c.state) (with_cell table (id_of n e.info) (cancelled_cell c)) (id_of n e.info) = ap (cancel_at table (id_of n e.info)) at.cell ∙ cond-true c.has_handle _ _ has in
      record {
        holds = marked cancelling at _ (ap (λ x. x.next) is) (ap (λ x. x.cells) is);
        runners = ap fixed_part is;
        global = ap (λ x. x.global) is ∙ ap (λ b. cond b (table.global ++ n ∷ []) table.global) (sym now);
        queued = ap (passes (λ c. c.has_handle && is_idle c.state)) at.cell ∙ ap (λ b. b && is_idle c.state) has ∙ sym now;
      }

module _ {P T : Type 0} (a : Inside P T) (sound : IsWorld (execution_of a) a.core.cells a.entries.items a.rings.items (vec_capacity a.log)) {w : Execution T} (view : execution_of a ≡ w) (far : w.accepted ≢ w.limit) (n : ℕ) {i : TaskInfo} (found : slice_get (infos a.entries.items) n ≡ Some i) where
  module _ {accepted notices room : ℕ} {id : TaskId} {undropped queues kept : Bool} {answer : Reply T}
      (counted : accepted ≡ a.accepted + 1) (same : id ≡ id_of n i) (now : undropped ≡ undropped_in (cell_at a.core.cells id)) (noticed : notices ≡ cond queues (a.notices + 1) a.notices) (keeps : kept ≡ queues) (answers : answer ≡ notice_reply kept) (capacity : room ≡ vec_capacity a.log) where
    mark_done : (event : Event T) → ((k : ℕ) → is_spawn k event ≡ false) → (later : TaskId → Table P T (Unit {0})) (does : TaskId → Bool) → Marks sound.agree n (record { info = i; out = (entry_of _ n i found).0 }) (entry_of _ n i found).1 event (later (id_of n i)) (does (id_of n i))
        → {core : Core P T (Unit {0})} {log : List (Event T)} → core ≡ record a.core { cells = later id } → queues ≡ does id → log ≡ cond undropped (a.log.items ++ event ∷ []) a.log.items
        → Done (stepped a accepted core log a.entries.items notices a.picks) core.cells a.entries.items a.rings.items room (mark_row event n w) answer
    mark_done event other later does marks core_is queues_is log_is =
        let alive : undropped ≡ not (dropped n a.log.items) = now ∙ ap (λ id. undropped_in (cell_at a.core.cells id)) same ∙ undropped_is sound.agree n _ (entry_of _ n i found).1 in
        let queued : queues ≡ idle n a.log.items = queues_is ∙ ap does same ∙ marks.queued in
        rw (← view, counted, core_is, log_is, noticed, answers, keeps, capacity, same, alive, queued) (record {
          sound = stepped_sound a sound refl (rw (← view) at far) (idle n a.log.items) _ _ _ (λ never. marks.global ∙ cond-false (idle n a.log.items) _ _ never) marks.runners (omega arith) (let long = length-push_if (not (dropped n a.log.items)) a.log.items event in omega arith) marks.holds (λ _. marked_push_if (not (dropped n a.log.items)) a.log.items event other);
          does = rw (marks.global, same_locals marks.runners, same_closed marks.runners) (refl, refl);
        })

    pub wake_done : {core : Core P T (Unit {0})} {log : List (Event T)} → core ≡ record a.core { cells = after_wake a.core.cells id } → queues ≡ wakes a.core.cells id → log ≡ cond undropped (a.log.items ++ Woken n ∷ []) a.log.items
        → Done (stepped a accepted core log a.entries.items notices a.picks) core.cells a.entries.items a.rings.items room (wake_row n w) answer
    wake_done core_is queues_is log_is = mark_done (Woken n) (λ _. refl) (after_wake a.core.cells) (wakes a.core.cells) (wake_marks sound.agree n _ (entry_of _ n i found).1) core_is queues_is log_is

    pub cancel_done : (info n w).has_handle ≡ true → {core : Core P T (Unit {0})} {log : List (Event T)} → core ≡ record a.core { cells = after_cancel a.core.cells id } → queues ≡ cancel_queues a.core.cells id → log ≡ cond undropped (a.log.items ++ Cancelled n ∷ []) a.log.items
        → Done (stepped a accepted core log a.entries.items notices a.picks) core.cells a.entries.items a.rings.items room (cancel_row n w) answer
    cancel_done enabled core_is queues_is log_is =
        mark_done (Cancelled n) (λ _. refl) (after_cancel a.core.cells) (cancel_queues a.core.cells) (cancel_marks sound.agree n _ (entry_of _ n i found).1 (handle_there a view n found enabled)) core_is queues_is log_is
