-- A handle is polled, detached or dropped.
use Rattle.std.proofs.Common.{◌≡◌, ◌≢◌, ℕ, ◌+◌, ◌||◌, not, Bool, true, false, List, [], ◌∷◌, ◌++◌, Option, Some, cond, refl, sym, ap, subst, ◌∙◌, inl, inr, arith}
use Rattle.std.proofs.lemmas.Bool.{cases_Bool, cond-true, cond-false}
use Rattle.std.specs.Prelude.{slice_get, slice_set}
use Rattle.std.specs.Vec.{vec_capacity}
use Rattle.executor_core.specs.Cells.{Table}
use Rattle.executor_core.specs.Cell.{is_undropped}
use Rattle.executor_core.specs.Cells.Calls.{cell_at, undropped_in, with_cell, without_cell, after_poll_handle, poll_handle_at, poll_answer, after_cancel, cancel_queues, after_detach, detach_at, detach_answer}
use Rattle.executor_core.specs.Cell.Changes.{awaited, detached, output_of, is_finished_state}
use Rattle.executor_core.specs.World.{Execution}
use Rattle.executor_core.specs.World.Entries.{infos}
use Rattle.executor_core.specs.World.Log.{spawned, dropped, held, idle, outputs, given}
use Rattle.executor_core.specs.World.Promises.{InOrder}
use Rattle.executor_core.specs.World.Steps.{info, handle_row, output_reply, detach_row, end_reply, drop_handle_row}
use Rattle.executor_core.specs.World.View.{execution_of, IsWorld}
use Rattle.executor_core.specs.World.Agreement.{Status, status, FewPollsFor, StateAgrees, Agree, HandleAgrees, HandlesAgree}
use Rattle.executor_core.proofs.ListLemmas.{length-push, length-slice_set}
use Rattle.executor_core.proofs.World.Log.{on_give, order-push}
use Rattle.executor_core.proofs.World.Closing.{marked_push, marked_push_if}
use Rattle.executor_core.proofs.World.Entries.{infos-set, entry_of, handle_there}
use Rattle.executor_core.proofs.World.Agreement.{id_of, undropped_is, undropped_state, CellAt, handle_cell, LogChange, log_same, log_pushed, entry_set, cell_put, cell_removed, agree_again}
use Rattle.executor_core.proofs.World.Marks.{cancel_marks}
use Rattle.executor_core.proofs.World.Room.{length-push_if}
use Rattle.executor_core.proofs.World.Runners.{fixed_part, same_locals, same_closed}
use Rattle.executor_core.proofs.World.Steps.{stepped, Done, stepped_sound}
use Rattle.executor_core.specs.declared.task.cell.CellState.{CellState}
use Rattle.executor_core.specs.declared.task.handles.PollHandle.{PollHandle}
use Rattle.executor_core.specs.declared.task.handles.PollHandle.TheVariants as handle
use Rattle.executor_core.specs.declared.task.cell.TaskId.{TaskId}
use Rattle.executor_core.specs.declared.plain_core.Core.{Core}
use Rattle.executor_core.specs.declared.interleave.World.TheInside.{Inside}
use Rattle.executor_core.specs.declared.interleave.entry.TaskInfo.{TaskInfo}
use Rattle.executor_core.specs.declared.interleave.entry.TaskEntry.{TaskEntry}
use Rattle.executor_core.specs.declared.interleave.event.Event.{Event}
use Rattle.executor_core.specs.declared.interleave.event.Event.TheVariants.{Cancelled, Got}
use Rattle.executor_core.specs.declared.interleave.reply.Reply.{Reply}
use Rattle.executor_core.specs.declared.interleave.reply.Reply.TheVariants as reply

module _ {P T : Type 0} where
  -- the future was dropped, so nobody holds it
  ended_past : (st : CellState P T) (w : Bool) (s : Status T) → StateAgrees st w s → is_undropped st ≡ false → (s.spawned ≡ true) × (s.held ≡ false)
  ended_past st w s h e = grind arith

  output_state : (st : CellState P T) (w : Bool) (s : Status T) → StateAgrees st w s → output_of st ≡ slice_get s.outputs 0
  output_state st w s h = grind arith

  finished_state : (st : CellState P T) (w b : Bool) (s : Status T) → b ≡ s.cancelled → StateAgrees st w s → is_finished_state b st ≡ s.dropped || s.cancelled
  finished_state st w b s is h = grind arith

module _ {P T : Type 0} {table : Table P T (Unit {0})} {log : List (Event T)} {entries : List (TaskEntry P)} (agree : Agree table log entries) (n : ℕ) (e : TaskEntry P) (found : slice_get entries n ≡ Some e) (there : e.info.has_handle ≡ true) where
  the_cell : CellAt table log n e
  the_cell = handle_cell agree n e found there

  has : the_cell.slotted.cell.has_handle ≡ true
  has = the_cell.agrees.has_handle ∙ there

  undropped_here : {b : Bool} → dropped n log ≡ b → is_undropped the_cell.slotted.cell.state ≡ not b
  undropped_here is = undropped_state the_cell.slotted.cell.state the_cell.slotted.cell.woken (status n log) the_cell.agrees.state ∙ ap not is

  -- the handle ends, and takes the cell of the dropped task with it
  removed : (later : Table P T (Unit {0})) → later ≡ without_cell table (id_of n e.info) → (i : TaskInfo) → i.has_handle ≡ false → dropped n log ≡ true → (s : Status T) (more : List (Event T)) → LogChange log more n s → InOrder more → FewPollsFor s
      → s.spawned ≡ spawned n log → s.dropped ≡ dropped n log → s.held ≡ held n log → Agree later more (slice_set entries n (record e { info = i }))
  removed later is i ends gone s more log_change order few spawn drop hold =
      let past = ended_past the_cell.slotted.cell.state the_cell.slotted.cell.woken (status n log) the_cell.agrees.state (undropped_here gone) in
      agree_again agree (cell_removed table later n (ap (λ x. x.next) is) (ap (λ x. x.cells) is)) log_change (entry_set entries n e _ found)
      (record { spawned = spawn ∙ past.0; dropped = drop ∙ gone; held = hold ∙ past.1; has_handle = ends; out = the_cell.agrees.out ∙ sym hold })
      few order

  poll_ended : dropped n log ≡ true → after_poll_handle table (id_of n e.info) tt ≡ without_cell table (id_of n e.info)
  poll_ended gone = ap (poll_handle_at table (id_of n e.info) tt) the_cell.cell ∙ cond-true the_cell.slotted.cell.has_handle _ _ has ∙ cond-false (is_undropped the_cell.slotted.cell.state) _ _ (undropped_here gone)

  poll_pending : dropped n log ≡ false → after_poll_handle table (id_of n e.info) tt ≡ with_cell table (id_of n e.info) (awaited the_cell.slotted.cell tt)
  poll_pending alive = ap (poll_handle_at table (id_of n e.info) tt) the_cell.cell ∙ cond-true the_cell.slotted.cell.has_handle _ _ has ∙ cond-true (is_undropped the_cell.slotted.cell.state) _ _ (undropped_here alive)

  pub poll_global : (after_poll_handle table (id_of n e.info) tt).global ≡ table.global
  poll_global = grind (arith, cases_Bool, poll_ended, poll_pending)

  pub poll_runners : fixed_part (after_poll_handle table (id_of n e.info) tt) ≡ fixed_part table
  poll_runners = grind (arith, cases_Bool, poll_ended, poll_pending)

  -- the handle of a task that is not dropped is awaited
  pub pending_holds : dropped n log ≡ false → Agree (after_poll_handle table (id_of n e.info) tt) log (slice_set entries n (record e { info = record e.info { awaited = true } }))
  pending_holds alive =
      let is = poll_pending alive in
      let h = the_cell.agrees in
      agree_again agree (cell_put table _ n (record { slot = e.info.slot; cell = awaited the_cell.slotted.cell tt }) (ap (λ x. x.next) is) (ap (λ x. x.cells) is)) (log_same log n) (entry_set entries n e _ found)
      (record { slot = refl; has_handle = h.has_handle; awaited = refl; cancelled = h.cancelled; state = h.state; out = h.out; polled = h.polled })
      (agree.few_polls n) agree.order

  pub cancelled_holds : dropped n log ≡ true → Agree (after_poll_handle table (id_of n e.info) tt) log (slice_set entries n (record e { info = record e.info { has_handle = false } }))
  cancelled_holds gone = removed _ (poll_ended gone) _ refl gone _ log (log_same log n) agree.order (agree.few_polls n) refl refl refl

  pub output_holds : (t : T) → dropped n log ≡ true → outputs n log ≡ t ∷ [] → given n log ≡ [] → Agree (after_poll_handle table (id_of n e.info) tt) (log ++ Got n t ∷ []) (slice_set entries n (record e { info = record e.info { has_handle = false } }))
  output_holds t gone output fresh = removed _ (poll_ended gone) _ refl gone _ _ (log_pushed log n (Got n t) _ refl (on_give n t log)) (order-push log (Got n t) agree.order (output, fresh)) (agree.few_polls n) refl refl refl

  -- what the answer says of the log
  abbrev pub AnswerTells : PollHandle T (Unit {0}) → Type 0
  AnswerTells (handle.Output t w) = (dropped n log ≡ true) × (outputs n log ≡ t ∷ []) × (given n log ≡ [])
  AnswerTells (handle.Cancelled w) = (dropped n log ≡ true) × (outputs n log ≡ [])
  AnswerTells (handle.Pending before) = dropped n log ≡ false

  pub answer_tells : AnswerTells (poll_answer tt (cell_at table (id_of n e.info)))
  answer_tells = grind (arith, cond-true)

  -- a poll of the handle and `is_finished` answer what the log says
  pub handle_agrees : HandleAgrees table log (id_of n e.info)
  handle_agrees = grind (arith, answer_tells, finished_state)

  -- the handle ends, and the task stays as it is
  detach_is : after_detach table (id_of n e.info) ≡ cond (is_undropped the_cell.slotted.cell.state) (with_cell table (id_of n e.info) (detached the_cell.slotted.cell)) (without_cell table (id_of n e.info))
  detach_is = ap (detach_at table (id_of n e.info)) the_cell.cell ∙ cond-true the_cell.slotted.cell.has_handle _ _ has

  detach_ended : dropped n log ≡ true → after_detach table (id_of n e.info) ≡ without_cell table (id_of n e.info)
  detach_ended gone = detach_is ∙ cond-false (is_undropped the_cell.slotted.cell.state) _ _ (undropped_here gone)

  detach_alive : dropped n log ≡ false → after_detach table (id_of n e.info) ≡ with_cell table (id_of n e.info) (detached the_cell.slotted.cell)
  detach_alive alive = detach_is ∙ cond-true (is_undropped the_cell.slotted.cell.state) _ _ (undropped_here alive)

  pub detach_global : (after_detach table (id_of n e.info)).global ≡ table.global
  detach_global = grind (arith, cases_Bool, detach_ended, detach_alive)

  pub detach_runners : fixed_part (after_detach table (id_of n e.info)) ≡ fixed_part table
  detach_runners = grind (arith, cases_Bool, detach_ended, detach_alive)

  pub detach_holds : Agree (after_detach table (id_of n e.info)) log (slice_set entries n (record e { info = record e.info { has_handle = false; awaited = false } }))
  detach_holds = elim (cases_Bool (dropped n log)) [
    | inl gone ↦ removed _ (detach_ended gone) _ refl gone _ log (log_same log n) agree.order (agree.few_polls n) refl refl refl
    | inr alive ↦
        let is = detach_alive alive in
        let h = the_cell.agrees in
        agree_again agree (cell_put table _ n (record { slot = e.info.slot; cell = detached the_cell.slotted.cell }) (ap (λ x. x.next) is) (ap (λ x. x.cells) is)) (log_same log n) (entry_set entries n e _ found)
        (record { slot = refl; has_handle = refl; awaited = refl; cancelled = h.cancelled; state = h.state; out = h.out; polled = h.polled })
        (agree.few_polls n) agree.order
  ]

  -- the output that comes out is the one that the future gave
  pub detach_output : (detach_answer (cell_at table (id_of n e.info))).0 ≡ slice_get (outputs n log) 0
  detach_output = grind (arith, cond-true, output_state)

pub handles_agree : {P T : Type 0} {table : Table P T (Unit {0})} {log : List (Event T)} {entries : List (TaskEntry P)} → Agree table log entries → HandlesAgree table log (infos entries)
handles_agree {entries = entries} agree n i found there = let at = entry_of entries n i found in handle_agrees agree n _ at.1 there

module _ {P T : Type 0} (a : Inside P T) (sound : IsWorld (execution_of a) a.core.cells a.entries.items a.rings.items (vec_capacity a.log)) {w : Execution T} (view : execution_of a ≡ w) (far : w.accepted ≢ w.limit) (n : ℕ) {i : TaskInfo} (found : slice_get (infos a.entries.items) n ≡ Some i) where
  module _ (enabled : (info n w).has_handle ≡ true) where
    there : i.has_handle ≡ true
    there = handle_there a view n found enabled

    set_to : {entries : List (TaskEntry P)} {j : TaskInfo} (k : TaskInfo) → ((e : TaskEntry P) → slice_get a.entries.items n ≡ Some e → entries ≡ slice_set a.entries.items n (record e { info = j })) → j ≡ k → entries ≡ slice_set a.entries.items n (record { info = k; out = (entry_of a.entries.items n i found).0 })
    set_to k entries_is is = entries_is _ (entry_of a.entries.items n i found).1 ∙ ap (λ (k : TaskInfo). slice_set a.entries.items n (record { info = k; out = (entry_of a.entries.items n i found).0 })) is

    module _ {accepted room : ℕ} {id : TaskId} (counted : accepted ≡ a.accepted + 1) (capacity : room ≡ vec_capacity a.log) (same : id ≡ id_of n i) where
      module _ {core : Core P T (Unit {0})} (core_is : core ≡ record a.core { cells = after_poll_handle a.core.cells id tt }) where
        told : {answered : PollHandle T (Unit {0})} → answered ≡ poll_answer tt (cell_at a.core.cells id) → AnswerTells sound.agree n (record { info = i; out = (entry_of a.entries.items n i found).0 }) (entry_of a.entries.items n i found).1 there answered
        told is = subst (AnswerTells sound.agree n _ (entry_of a.entries.items n i found).1 there) (sym (is ∙ ap (λ id. poll_answer tt (cell_at a.core.cells id)) same)) (answer_tells sound.agree n _ (entry_of a.entries.items n i found).1 there)

        pub output_done : {entries : List (TaskEntry P)} {j : TaskInfo} → ((e : TaskEntry P) → slice_get a.entries.items n ≡ Some e → entries ≡ slice_set a.entries.items n (record e { info = j })) → (t : T) {awaiter : Unit {0}} → handle.Output t awaiter ≡ poll_answer tt (cell_at a.core.cells id) → j ≡ record i { has_handle = false } → {log : List (Event T)} → log ≡ a.log.items ++ Got n t ∷ [] → {answer : Reply T} → answer ≡ reply.Output t
            → Done (stepped a accepted core log entries a.notices a.picks) core.cells entries a.rings.items room (handle_row n w) answer
        output_done entries_is t is info_is log_is answers =
            let e : TaskEntry P = record { info = record i { has_handle = false }; out = (entry_of a.entries.items n i found).0 } in
            let tells = told is in
            let queue = poll_global sound.agree n _ (entry_of a.entries.items n i found).1 there in
            let runners = poll_runners sound.agree n _ (entry_of a.entries.items n i found).1 there in
            let far = rw (← view) at far in
            rw (← view, counted, core_is, set_to _ entries_is info_is, log_is, answers, capacity, same) (record {
              sound = stepped_sound a sound refl far false _ _ _ (λ _. queue) runners (let long = length-slice_set a.entries.items n e in omega arith) (let long = length-push a.log.items (Got n t) in omega arith) (output_holds sound.agree n _ (entry_of a.entries.items n i found).1 there t tells.0 tells.1 tells.2) (λ _. marked_push a.log.items (Got n t) (λ _. refl));
              does = rw (infos-set a.entries.items n e, queue, same_locals runners, same_closed runners, tells.0, tells.1, found) (refl, refl);
            })

        pub cancelled_done : {entries : List (TaskEntry P)} {j : TaskInfo} → ((e : TaskEntry P) → slice_get a.entries.items n ≡ Some e → entries ≡ slice_set a.entries.items n (record e { info = j })) → {awaiter : Unit {0}} → handle.Cancelled awaiter ≡ poll_answer tt (cell_at a.core.cells id) → j ≡ record i { has_handle = false } → {answer : Reply T} → answer ≡ reply.Cancelled
            → Done (stepped a accepted core a.log.items entries a.notices a.picks) core.cells entries a.rings.items room (handle_row n w) answer
        cancelled_done entries_is is info_is answers =
            let e : TaskEntry P = record { info = record i { has_handle = false }; out = (entry_of a.entries.items n i found).0 } in
            let tells = told is in
            let queue = poll_global sound.agree n _ (entry_of a.entries.items n i found).1 there in
            let runners = poll_runners sound.agree n _ (entry_of a.entries.items n i found).1 there in
            let far = rw (← view) at far in
            rw (← view, counted, core_is, set_to _ entries_is info_is, answers, capacity, same) (record {
              sound = stepped_sound a sound refl far false _ _ _ (λ _. queue) runners (let long = length-slice_set a.entries.items n e in omega arith) (omega arith) (cancelled_holds sound.agree n _ (entry_of a.entries.items n i found).1 there tells.0) (λ _ marked. marked);
              does = rw (infos-set a.entries.items n e, queue, same_locals runners, same_closed runners, tells.0, tells.1, found) (refl, refl);
            })

        pub pending_done : {entries : List (TaskEntry P)} {j : TaskInfo} → ((e : TaskEntry P) → slice_get a.entries.items n ≡ Some e → entries ≡ slice_set a.entries.items n (record e { info = j })) → {before : Option (Unit {0})} → handle.Pending before ≡ poll_answer tt (cell_at a.core.cells id) → j ≡ record i { awaited = true } → {answer : Reply T} → answer ≡ reply.Pending
            → Done (stepped a accepted core a.log.items entries a.notices a.picks) core.cells entries a.rings.items room (handle_row n w) answer
        pending_done entries_is is info_is answers =
            let e : TaskEntry P = record { info = record i { awaited = true }; out = (entry_of a.entries.items n i found).0 } in
            let tells = told is in
            let queue = poll_global sound.agree n _ (entry_of a.entries.items n i found).1 there in
            let runners = poll_runners sound.agree n _ (entry_of a.entries.items n i found).1 there in
            let far = rw (← view) at far in
            rw (← view, counted, core_is, set_to _ entries_is info_is, answers, capacity, same) (record {
              sound = stepped_sound a sound refl far false _ _ _ (λ _. queue) runners (let long = length-slice_set a.entries.items n e in omega arith) (omega arith) (pending_holds sound.agree n _ (entry_of a.entries.items n i found).1 there tells) (λ _ marked. marked);
              does = rw (infos-set a.entries.items n e, queue, same_locals runners, same_closed runners, tells, found) (refl, refl);
            })

      module _ {out : Option T × Option (Unit {0})} (output : out ≡ detach_answer (cell_at a.core.cells id)) where
        output_is : out.0 ≡ slice_get (outputs n a.log.items) 0
        output_is = ap (λ p. p.0) output ∙ ap (λ id. (detach_answer (cell_at a.core.cells id)).0) same ∙ detach_output sound.agree n _ (entry_of a.entries.items n i found).1 there

        pub detach_done : {entries : List (TaskEntry P)} {j : TaskInfo} → ((e : TaskEntry P) → slice_get a.entries.items n ≡ Some e → entries ≡ slice_set a.entries.items n (record e { info = j })) → j ≡ record i { has_handle = false; awaited = false } → {core : Core P T (Unit {0})} → core ≡ record a.core { cells = after_detach a.core.cells id } → {answer : Reply T} → answer ≡ output_reply out.0
            → Done (stepped a accepted core a.log.items entries a.notices a.picks) core.cells entries a.rings.items room (detach_row n w) answer
        detach_done entries_is info_is core_is answers =
            let e : TaskEntry P = record { info = record i { has_handle = false; awaited = false }; out = (entry_of a.entries.items n i found).0 } in
            let queue = detach_global sound.agree n _ (entry_of a.entries.items n i found).1 there in
            let runners = detach_runners sound.agree n _ (entry_of a.entries.items n i found).1 there in
            let far = rw (← view) at far in
            rw (← view, counted, core_is, set_to _ entries_is info_is, answers, output_is, capacity, same) (record {
              sound = stepped_sound a sound refl far false _ _ _ (λ _. queue) runners (let long = length-slice_set a.entries.items n e in omega arith) (omega arith) (detach_holds sound.agree n _ (entry_of a.entries.items n i found).1 there) (λ _ marked. marked);
              does = rw (infos-set a.entries.items n e, queue, same_locals runners, same_closed runners, found) (refl, refl);
            })

        pub drop_handle_done : {entries : List (TaskEntry P)} {j : TaskInfo} → ((e : TaskEntry P) → slice_get a.entries.items n ≡ Some e → entries ≡ slice_set a.entries.items n (record e { info = j })) → j ≡ record i { has_handle = false; awaited = false } → {core : Core P T (Unit {0})} → core ≡ record a.core { cells = after_detach (after_cancel a.core.cells id) id } → {queues undropped kept : Bool} {notices : ℕ} {log : List (Event T)} → queues ≡ cancel_queues a.core.cells id → undropped ≡ undropped_in (cell_at a.core.cells id)
            → log ≡ cond undropped (a.log.items ++ Cancelled n ∷ []) a.log.items → notices ≡ cond queues (a.notices + 1) a.notices → kept ≡ queues → {answer : Reply T} → answer ≡ end_reply kept out.0
            → Done (stepped a accepted core log entries notices a.picks) core.cells entries a.rings.items room (drop_handle_row n w) answer
        drop_handle_done entries_is info_is core_is queues_is now log_is noticed keeps answers =
            let e : TaskEntry P = record { info = record i { has_handle = false; awaited = false }; out = (entry_of a.entries.items n i found).0 } in
            let at = (entry_of a.entries.items n i found).1 in
            let marks = cancel_marks sound.agree n _ at there in
            let alive : undropped_in (cell_at a.core.cells (id_of n i)) ≡ not (dropped n a.log.items) = undropped_is sound.agree n _ at in
            let queue = detach_global marks.holds n _ at there ∙ marks.global in
            let runners = detach_runners marks.holds n _ at there ∙ marks.runners in
            let far = rw (← view) at far in
            rw (← view, counted, core_is, set_to _ entries_is info_is, log_is, noticed, answers, keeps, now, queues_is, output_is, capacity, same, alive, marks.queued) (record {
              sound = stepped_sound a sound refl far (idle n a.log.items) _ _ _ (λ never. queue ∙ cond-false (idle n a.log.items) _ _ never) runners (let long = length-slice_set a.entries.items n e in omega arith) (let long = length-push_if (not (dropped n a.log.items)) a.log.items (Cancelled n) in omega arith) (detach_holds marks.holds n _ at there) (λ _. marked_push_if (not (dropped n a.log.items)) a.log.items (Cancelled n) (λ _. refl));
              does = rw (infos-set a.entries.items n e, queue, same_locals runners, same_closed runners, found) (refl, refl);
            })
