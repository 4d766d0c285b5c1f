-- A task is taken, and its poll ends.
use Rattle.std.proofs.Common.{◌≡◌, ◌≢◌, ℕ, ◌+◌, ◌<◌, ◌≤◌, ◌||◌, ◌&&◌, not, Bool, true, false, List, [], ◌∷◌, ◌++◌, length, Option, Some, None, is_some, cond, refl, sym, ap, subst, ◌∙◌, inl, inr, arith}
use Rattle.std.proofs.lemmas.Bool.{cases_Bool, and_parts, or_left, or_right, not-true, true≢false, cond-true, cond-false}
use Rattle.std.specs.Prelude.{slice_get, slice_set}
use Rattle.std.specs.List.{list_any}
use Rattle.std.specs.FinMap as map
use Rattle.std.specs.Vec.{vec_capacity}
use Rattle.executor_core.specs.Cells.{Slotted, Table}
use Rattle.executor_core.specs.Cell.{is_held}
use Rattle.executor_core.specs.Cells.Calls.{cell_at, cancelled_in, woken_in, takes_back_in, with_cell, without_cell, queued_if, IsTaken, TakesFront, after_take, take_first, TakesAny, any_in, after_take_any, search_to, with_taken, with_taken_at, with_queues, after_end_pending, end_pending_at, after_end_ready, end_ready_at, ready_answer, after_end_dropped, end_dropped_at, dropped_answer}
use Rattle.executor_core.specs.Cells.Law.{queues_of, queued_of}
use Rattle.executor_core.specs.Cell.Changes.{taken, takes_back, pended, wakeup_of}
use Rattle.executor_core.specs.Queues.{QueueLists, search_any}
use Rattle.executor_core.specs.Ring.{IdRing}
use Rattle.executor_core.specs.World.{Execution}
use Rattle.executor_core.specs.World.Closing.{AllMarked}
use Rattle.executor_core.specs.World.Entries.{infos, is_out, is_unpolled, out_entry}
use Rattle.executor_core.specs.World.Log.{unfollowed, is_cancel, is_take, cancelled, held, woken}
use Rattle.executor_core.specs.World.Promises.{MayFollow, InOrder, queues}
use Rattle.executor_core.specs.World.Steps.{info, info_or, purpose_of, row, counted, noticed, taking, take_reply, take_row, with_queues as with_queues_row, take_any_row, return_reply, pend_row, ready_reply, ready_row, dropped_row}
use Rattle.executor_core.specs.World.View.{execution_of, IsWorld}
use Rattle.executor_core.specs.World.Agreement.{Status, status, FewPollsFor, IsUndropped, StateAgrees, NumberAgrees, Agree}
use Rattle.executor_core.proofs.BoolLemmas.{not-not, or-without_last}
use Rattle.executor_core.proofs.ListLemmas.{within_get, get_within, length-push, length-slice_set, set-here, set_again}
use Rattle.executor_core.proofs.World.Closing.{marked_push, marked_push_if}
use Rattle.executor_core.proofs.World.Entries.{infos-set, entry_of, info_at, length-infos}
use Rattle.executor_core.proofs.World.Room.{length-push_if, room_again}
use Rattle.executor_core.proofs.World.Notices.{notices_again}
use Rattle.executor_core.proofs.World.Searches.{any_shapes, any_vain}
use Rattle.executor_core.proofs.World.Runners.{shapes, fixed_part, same_locals, same_closed, runners_shaped}
use Rattle.executor_core.proofs.World.Steps.{stepped, Done, stepped_sound}
use Rattle.executor_core.proofs.World.Log.{on_poll, on_take, on_return, on_drop, on_finish, order-push, status_other}
use Rattle.executor_core.proofs.World.Agreement.{id_of, out_is, held_by_state, state_agrees, CellAt, held_cell, agreed_at, LogChange, log_same, log_pushed, entry_set, cell_put, cell_removed, cell_same, agree_again}
use Rattle.executor_core.specs.declared.task.cell.CellState.{CellState}
use Rattle.executor_core.specs.declared.task.cell.CellState.TheVariants.{Idle, Scheduled, Held, Finished, Gone}
use Rattle.executor_core.specs.declared.plain_core.Core.{Core}
use Rattle.executor_core.specs.declared.task.cell.TaskId.{TaskId}
use Rattle.executor_core.specs.declared.task.table.EndReady.{EndReady}
use Rattle.executor_core.specs.declared.task.polling.Held.{Held as HeldTask}
use Rattle.executor_core.specs.declared.task.polling.Taken.{Taken}
use Rattle.executor_core.specs.declared.task.values.Wakeup.{Wakeup}
use Rattle.executor_core.specs.declared.interleave.World.TheInside.{Inside}
use Rattle.executor_core.specs.declared.interleave.entry.TaskInfo.{TaskInfo}
use Rattle.executor_core.specs.declared.interleave.entry.FutureOut.TheVariants.{Unpolled, Polled}
use Rattle.executor_core.specs.declared.interleave.entry.TaskEntry.{TaskEntry}
use Rattle.executor_core.specs.declared.interleave.event.Purpose.{Purpose}
use Rattle.executor_core.specs.declared.interleave.event.Event.{Event}
use Rattle.executor_core.specs.declared.interleave.reply.Reply.{Reply}
use Rattle.executor_core.specs.declared.interleave.reply.Reply.TheVariants.{NoTask, Drop, Gone as GoneReply}
use Rattle.executor_core.specs.declared.interleave.event.Event.TheVariants.{Took, Returned, Finished as Finish, Dropped}

few_poll : (a w : ℕ) (b : Bool) → b ≡ true → a + cond b 1 0 ≤ 1 + w → (1 + a) + 0 ≤ 1 + w
few_poll a w b e h = grind arith

few_take : (a w : ℕ) (b : Bool) → a + cond b 1 0 ≤ 1 + w → a + 0 ≤ 1 + w
few_take a w b h = grind arith

unfollowed-list_any : {E : Type 0} (f g : E → Bool) (log : List E) → list_any f log ≡ false → unfollowed f g log ≡ false
unfollowed-list_any f g [] h = refl
unfollowed-list_any f g (x ∷ rest) h =
    elim (cases_Bool (f x)) [
      | inl is ↦ absurd (cc (sym h ∙ ap (λ b. b || list_any f rest) is))
      | inr is ↦ ap (λ b. (b && not (list_any g rest)) || unfollowed f g rest) is ∙ unfollowed-list_any f g rest (sym (ap (λ b. b || list_any f rest) is) ∙ h)
    ]

wakeup_some : (o : Option (Unit {0})) → is_some (wakeup_of o) ≡ is_some o
wakeup_some o = grind arith

module _ {P T : Type 0} {table : Table P T (Unit {0})} {log : List (Event T)} {entries : List (TaskEntry P)} (agree : Agree table log entries) (n : ℕ) (e : TaskEntry P) (found : slice_get entries n ≡ Some e) where
  -- a task is taken out of a queue, and the queues are these then
  module _ (q : QueueLists ℕ) (slotted : Slotted P T (Unit {0})) (p : P) (here : map.get table.cells n ≡ Some slotted) (state : slotted.cell.state ≡ Scheduled p) where
    abbrev taken_out : Table P T (Unit {0})
    taken_out = with_queues q (with_taken table n)

    took_is : taken_out ≡ with_queues q (record table { cells = map.insert table.cells n (record { slot = slotted.slot; cell = taken slotted.cell }) })
    took_is = ap (λ (o : Option (Slotted P T (Unit {0}))). with_queues q (with_taken_at table n o)) here

    pub cancelled_front : slotted.cell.cancelled ≡ cancelled n log
    cancelled_front = (agreed_at agree n e found (Some slotted) here).cancelled

    took_for : (purpose : Purpose) (b : Bool) (s : Status T) → status n (log ++ Took n purpose ∷ []) ≡ s → slotted.cell.cancelled ≡ s.cancelled → IsUndropped s true → s.taken ≡ true → s.woken ≡ false → FewPollsFor s → MayFollow log (Took n purpose)
        → Agree (taken_out) (log ++ Took n purpose ∷ []) (slice_set entries n (record { info = record e.info { to_drop = b }; out = Some (Unpolled p) }))
    took_for purpose b s on cancel state took woke few follows =
        let h = agreed_at agree n e found (Some slotted) here in
        agree_again agree
        (cell_put table (taken_out) n (record { slot = slotted.slot; cell = taken slotted.cell }) (ap (λ s. s.next) took_is) (ap (λ s. s.cells) took_is))
        (log_pushed log n (Took n purpose) s refl on)
        (entry_set entries n e _ found)
        (record { slot = h.slot; has_handle = h.has_handle; awaited = h.awaited; cancelled = cancel; state = (state, took, woke); out = sym state.held; polled = tt })
        few
        (order-push log (Took n purpose) agree.order follows)

    pub take_holds : (b : Bool) → slotted.cell.cancelled ≡ b → Agree (taken_out) (log ++ Took n (purpose_of b) ∷ []) (slice_set entries n (record { info = record e.info { to_drop = b }; out = Some (Unpolled p) }))
    take_holds false fresh =
        let h = agreed_at agree n e found (Some slotted) here in
        let alive = state_agrees slotted (status n log) e (Scheduled p) state h in
        let un : cancelled n log ≡ false = sym h.cancelled ∙ fresh in
        let due = or-without_last (not (status n log).taken) ((status n log).woken) ((status n log).cancelled_since) (unfollowed-list_any (is_cancel n) (is_take n) log un) alive.1 in
        took_for _ false _ (on_poll n log) h.cancelled (record { spawned = alive.0.spawned; dropped = alive.0.dropped; held = refl; outputs = alive.0.outputs; given = alive.0.given }) refl refl (few_poll _ _ _ due (agree.few_polls n)) (un, alive.0.held, alive.0.dropped)
    take_holds true gone =
        let h = agreed_at agree n e found (Some slotted) here in
        let alive = state_agrees slotted (status n log) e (Scheduled p) state h in
        took_for _ true _ (on_take n log) h.cancelled (record { spawned = alive.0.spawned; dropped = alive.0.dropped; held = refl; outputs = alive.0.outputs; given = alive.0.given }) refl refl (few_take _ _ _ (agree.few_polls n)) (sym h.cancelled ∙ gone, alive.0.held, alive.0.dropped)

  module _ (now_held : held n log ≡ true) where
    -- the state of a held task's cell
    is_held_state : (st : CellState P T) → is_held st ≡ true → st ≡ Held
    is_held_state st h = grind arith

    the_cell : CellAt table log n e
    the_cell = held_cell agree n e found now_held

    cell_held : is_held the_cell.slotted.cell.state ≡ true
    cell_held = sym (held_by_state the_cell.slotted.cell.state the_cell.slotted.cell.woken (status n log) the_cell.agrees.state) ∙ now_held

    alive : StateAgrees {P = P} Held the_cell.slotted.cell.woken (status n log)
    alive = state_agrees the_cell.slotted (status n log) e Held (is_held_state _ cell_held) the_cell.agrees

    pub cancelled_is : cancelled_in (cell_at table (id_of n e.info)) ≡ cancelled n log
    cancelled_is = ap cancelled_in the_cell.cell ∙ the_cell.agrees.cancelled

    takes_back_is : takes_back_in (cell_at table (id_of n e.info)) ≡ not (cancelled n log)
    takes_back_is = ap takes_back_in the_cell.cell ∙ ap (λ b. b && not the_cell.slotted.cell.cancelled) cell_held ∙ ap not the_cell.agrees.cancelled

    -- if a poll of the task may end, its future was not polled
    pub unpolled_there : e.info.to_drop ≡ false → is_unpolled (slice_get entries n) ≡ true
    unpolled_there fresh = grind arith

    -- a poll ended pending, and the future went back
    pub record Pended (p : P) : Type 0 where
      pub holds : Agree (after_end_pending table (id_of n e.info) p) (log ++ Returned n ∷ []) (slice_set entries n (record { info = e.info; out = None }))
      pub cancelled : cancelled n log ≡ false
      pub queued : woken_in (cell_at table (id_of n e.info)) ≡ woken n log
      pub global : (after_end_pending table (id_of n e.info) p).global ≡ cond (woken n log) (table.global ++ n ∷ []) table.global
      pub runners : fixed_part (after_end_pending table (id_of n e.info) p) ≡ fixed_part table

    pended_state : (w : Bool) (p : P) (s : Status T) → s.cancelled ≡ false → s.cancelled_since ≡ false → StateAgrees {P = P} Held w s → StateAgrees (cond w (Scheduled p) (Idle p)) w (record s { held = false })
    pended_state w p s u r h = grind (arith, or_left, or_right)

    pub pend_holds : (p : P) → takes_back_in (cell_at table (id_of n e.info)) ≡ true → Pended p
    pend_holds p ours =
        let c = the_cell.slotted.cell in
        let h = the_cell.agrees in
        let un : cancelled n log ≡ false = not-true _ (sym takes_back_is ∙ ours) in
        let ended : after_end_pending table (id_of n e.info) p ≡ queued_if c.woken (with_cell table (id_of n e.info) (pended c p)) (id_of n e.info) = ap (end_pending_at table (id_of n e.info) p) the_cell.cell ∙ cond-true (takes_back c) _ _ (sym (ap takes_back_in the_cell.cell) ∙ ours) in
        record {
          holds = agree_again agree
              (cell_put table (after_end_pending table (id_of n e.info) p) n (record { slot = e.info.slot; cell = pended c p }) (ap (λ x. x.next) ended) (ap (λ x. x.cells) ended))
              (log_pushed log n (Returned n) _ refl (on_return n log))
              (entry_set entries n e _ found)
              (record { slot = refl; has_handle = h.has_handle; awaited = h.awaited; cancelled = h.cancelled; state = pended_state c.woken p (status n log) un (unfollowed-list_any (is_cancel n) (is_take n) log un) alive; out = refl; polled = tt })
              (agree.few_polls n)
              (order-push log (Returned n) agree.order tt);
          cancelled = un;
          queued = ap woken_in the_cell.cell ∙ sym alive.2;
          runners = ap fixed_part ended;
          global = ap (λ x. x.global) ended ∙ ap (λ b. cond b (table.global ++ n ∷ []) table.global) (sym alive.2);
        }

    -- a poll ended pending on a cancelled task
    pub record StaysOut (p q : P) : Type 0 where
      pub same : after_end_pending table (id_of n e.info) p ≡ table
      pub holds : Agree table log (slice_set entries n (record { info = record e.info { to_drop = true }; out = Some (Polled q) }))
      pub cancelled : cancelled n log ≡ true

    pub pend_stays : (p q : P) → takes_back_in (cell_at table (id_of n e.info)) ≡ false → StaysOut p q
    pend_stays p q ours =
        let h = the_cell.agrees in
        record {
          same = ap (end_pending_at table (id_of n e.info) p) the_cell.cell ∙ cond-false (takes_back the_cell.slotted.cell) _ _ (sym (ap takes_back_in the_cell.cell) ∙ ours);
          holds = agree_again agree (cell_same table n (Some the_cell.slotted) the_cell.here) (log_same log n) (entry_set entries n e _ found)
              (record { slot = h.slot; has_handle = h.has_handle; awaited = h.awaited; cancelled = h.cancelled; state = h.state; out = sym now_held; polled = refl })
              (agree.few_polls n) agree.order;
          cancelled = sym (not-not _) ∙ ap not (sym takes_back_is ∙ ours);
        }

    pub record Ended (later : Table P T (Unit {0})) (more : List (Event T)) : Type 0 where
      pub holds : Agree later more (slice_set entries n (record { info = record e.info { awaited = false }; out = None }))
      pub global : later.global ≡ table.global
      pub runners : fixed_part later ≡ fixed_part table

    -- the cell ends in this state if the handle is there, and else is gone
    ended : (s : Status T) (st : CellState P T) {later : Table P T (Unit {0})} {more : List (Event T)}
        → later ≡ cond the_cell.slotted.cell.has_handle (with_cell table (id_of n e.info) (record the_cell.slotted.cell { state = st; awaiter = None })) (without_cell table (id_of n e.info))
        → LogChange log more n s → InOrder more → s.spawned ≡ true → s.dropped ≡ true → s.held ≡ false → s.cancelled ≡ cancelled n log → StateAgrees st the_cell.slotted.cell.woken s → FewPollsFor s → Ended later more
    ended s st {later} is log_change order spawn drop hold cancel state few =
        let c = the_cell.slotted.cell in
        let h = the_cell.agrees in
        elim (cases_Bool c.has_handle) [
          | inl there ↦
              let put : later ≡ with_cell table (id_of n e.info) (record c { state = st; awaiter = None }) = is ∙ cond-true c.has_handle _ _ there in
              record {
                holds = agree_again agree (cell_put table later n (record { slot = e.info.slot; cell = record c { state = st; awaiter = None } }) (ap (λ x. x.next) put) (ap (λ x. x.cells) put)) log_change (entry_set entries n e _ found)
                    (record { slot = refl; has_handle = h.has_handle; awaited = refl; cancelled = h.cancelled ∙ sym cancel; state = state; out = sym hold; polled = tt }) few order;
                global = ap (λ x. x.global) put;
                runners = ap fixed_part put;
              }
          | inr gone ↦
              let removed : later ≡ without_cell table (id_of n e.info) = is ∙ cond-false c.has_handle _ _ gone in
              record {
                holds = agree_again agree (cell_removed table later n (ap (λ x. x.next) removed) (ap (λ x. x.cells) removed)) log_change (entry_set entries n e _ found)
                    (record { spawned = spawn; dropped = drop; held = hold; has_handle = sym h.has_handle ∙ gone; out = sym hold }) few order;
                global = ap (λ x. x.global) removed;
                runners = ap fixed_part removed;
              }
        ]

    -- without an output
    ended_gone : {later : Table P T (Unit {0})} → later ≡ cond the_cell.slotted.cell.has_handle (with_cell table (id_of n e.info) (record the_cell.slotted.cell { state = Gone; awaiter = None })) (without_cell table (id_of n e.info)) → Ended later (log ++ Dropped n ∷ [])
    ended_gone is =
        ended _ Gone is (log_pushed log n (Dropped n) _ refl (on_drop n log)) (order-push log (Dropped n) agree.order alive.0.dropped) alive.0.spawned refl refl refl
        (record { spawned = alive.0.spawned; dropped = refl; held = refl; outputs = alive.0.outputs; given = alive.0.given }) (agree.few_polls n)

    -- a poll ended ready: the future gave its output unless the task was cancelled, and was dropped
    pub ready_holds : (t : T) → Ended (after_end_ready table (id_of n e.info) t) (cond (not (cancelled n log)) (log ++ Finish n t ∷ []) log ++ Dropped n ∷ [])
    ready_holds t =
        let is = ap (end_ready_at table (id_of n e.info) t) the_cell.cell ∙ cond-true (is_held the_cell.slotted.cell.state) _ _ cell_held in
        let cancel = the_cell.agrees.cancelled in
        elim (cases_Bool (cancelled n log)) [
          | inl gone ↦ rw gone (ended_gone (is ∙ rw (cancel, gone) refl))
          | inr fresh ↦
              let middle = on_finish n t log in
              rw fresh (ended _ (Finished t) (is ∙ rw (cancel, fresh) refl)
              (record { here = on_drop n (log ++ Finish n t ∷ []) ∙ ap (λ (s : Status T). record s { dropped = true; held = false }) middle; others = λ q far. status_other q (log ++ Finish n t ∷ []) (Dropped n) far ∙ status_other q log (Finish n t) far })
              (order-push _ (Dropped n) (order-push log (Finish n t) agree.order fresh) (ap (λ s. s.dropped) middle ∙ alive.0.dropped)) alive.0.spawned refl refl refl
              (record { spawned = alive.0.spawned; dropped = refl; held = refl; outputs = ap (λ l. l ++ t ∷ []) alive.0.outputs; given = alive.0.given }) (agree.few_polls n))
        ]

    ready_answer_is : (t : T) → ready_answer t (cell_at table (id_of n e.info)) ≡ record { awaiter = wakeup_of the_cell.slotted.cell.awaiter; unwanted = cond (the_cell.slotted.cell.has_handle && not the_cell.slotted.cell.cancelled) None (Some t) }
    ready_answer_is t = ap (ready_answer t) the_cell.cell ∙ cond-true (is_held the_cell.slotted.cell.state) _ _ cell_held

    pub awaiter_is : (t : T) → is_some (ready_answer t (cell_at table (id_of n e.info))).awaiter ≡ e.info.awaited
    awaiter_is t = ap (λ a. is_some a.awaiter) (ready_answer_is t) ∙ wakeup_some the_cell.slotted.cell.awaiter ∙ the_cell.agrees.awaited

    pub unwanted_is : (t : T) → (ready_answer t (cell_at table (id_of n e.info))).unwanted ≡ cond (e.info.has_handle && not (cancelled n log)) None (Some t)
    unwanted_is t = ap (λ a. a.unwanted) (ready_answer_is t) ∙ rw (the_cell.agrees.has_handle, the_cell.agrees.cancelled) refl

    -- the future was dropped, and gave no output
    pub drop_holds : Ended (after_end_dropped table (id_of n e.info)) (log ++ Dropped n ∷ [])
    drop_holds = ended_gone (ap (end_dropped_at table (id_of n e.info)) the_cell.cell ∙ cond-true (is_held the_cell.slotted.cell.state) _ _ cell_held)

    pub gone_awaiter_is : is_some (dropped_answer (cell_at table (id_of n e.info))) ≡ e.info.awaited
    gone_awaiter_is = ap (λ o. is_some (dropped_answer o)) the_cell.cell ∙ ap is_some (cond-true (is_held the_cell.slotted.cell.state) (wakeup_of the_cell.slotted.cell.awaiter) None cell_held) ∙ wakeup_some the_cell.slotted.cell.awaiter ∙ the_cell.agrees.awaited

-- if a poll of the task may end, its future was not polled
pub unpolled_now : {P T : Type 0} (a : Inside P T) → IsWorld (execution_of a) a.core.cells a.entries.items a.rings.items (vec_capacity a.log) → {w : Execution T} → execution_of a ≡ w → (n : ℕ) → (held n w.log && not (info n w).to_drop) ≡ true → is_unpolled (slice_get a.entries.items n) ≡ true
unpolled_now {P} a sound view n enabled =
    let parts = and_parts (held n a.log.items) (not (info n (execution_of a)).to_drop) (ap (λ w. held n w.log && not (info n w).to_drop) view ∙ enabled) in
    by_entry (slice_get a.entries.items n) refl (out_is sound.agree n ∙ parts.0) parts.0 (not-true _ parts.1)
  where
    by_entry : (o : Option (TaskEntry P)) → slice_get a.entries.items n ≡ o → is_out (slice_get a.entries.items n) ≡ true → held n a.log.items ≡ true → (info n (execution_of a)).to_drop ≡ false → is_unpolled (slice_get a.entries.items n) ≡ true
    by_entry None found out now fresh = absurd (cc (out, ap (λ (o : Option (TaskEntry P)). is_out o) found))
    by_entry (Some e) found out now fresh = unpolled_there sound.agree n e found now (sym (ap (λ o. (info_or o).to_drop) (info_at a.entries.items n e found)) ∙ fresh)

-- a taken task is one of the tasks
pub taken_within : {P T : Type 0} {table : Table P T (Unit {0})} {w : Execution T} {entries : List (TaskEntry P)} {rings : List (Option IdRing)} {room : ℕ} → IsWorld w table entries rings room → {task : Taken P} → IsTaken table task → task.id.number < length entries
taken_within {P} {T} {table} {w} {entries} sound {task} taken = by_entry (slice_get entries task.id.number) refl (sound.agree.each task.id.number)
  where
    by_entry : (o : Option (TaskEntry P)) → slice_get entries task.id.number ≡ o → NumberAgrees (map.get table.cells task.id.number) (status task.id.number w.log) (slice_get entries task.id.number) → task.id.number < length entries
    by_entry (Some e) found h = within_get entries task.id.number e found
    by_entry None found h = absurd (subst (λ x. NumberAgrees x (status task.id.number w.log) None) taken.found (subst (λ x. NumberAgrees (map.get table.cells task.id.number) (status task.id.number w.log) x) found h))

-- the cells alone changed
pub cells_alone : {P T : Type 0} (core later : Core P T (Unit {0})) (table : Table P T (Unit {0})) → later ≡ record core { cells = table } → later ≡ record core { cells = later.cells }
cells_alone core later table is = is ∙ ap (λ t. record core { cells = t }) (sym (ap (λ c. c.cells) is))

module _ {P T : Type 0} (a : Inside P T) (sound : IsWorld (execution_of a) a.core.cells a.entries.items a.rings.items (vec_capacity a.log)) {w : Execution T} (view : execution_of a ≡ w) (far : w.accepted ≢ w.limit) where
  -- there was no task to take
  pub take_none : {core : Core P T (Unit {0})} → a.core.cells.global ≡ [] → core ≡ record a.core { cells = after_take a.core.cells } → Done (stepped a (a.accepted + 1) core a.log.items a.entries.items a.notices a.picks) core.cells a.entries.items a.rings.items (vec_capacity a.log) (take_row w.global w) NoTask
  take_none {core} none core_is =
      let same : core ≡ a.core = core_is ∙ ap (λ (t : Table P T (Unit {0})). record a.core { cells = t }) (ap (take_first a.core.cells) none) in
      let far = rw (← view) at far in
      rw (← view, same) (record {
        sound = stepped_sound a sound refl far false _ _ _ (λ _. refl) refl (omega arith) (omega arith) sound.agree (λ _ marked. marked);
        does = by_row a.core.cells.global none;
      })
    where
      by_row : (queue : List ℕ) → queue ≡ [] → row (take_row queue (execution_of a)) NoTask (record (execution_of a) { accepted = a.accepted + 1 })
      by_row queue is = rw is (refl, refl)

  -- a task was taken out of a queue, and its future put out
  pub record TookTask (table : Table P T (Unit {0})) (n : ℕ) (cancel : Bool) (entries : List (TaskEntry P)) (log : List (Event T)) : Type 0 where
    pub agree : Agree table log entries
    pub cancelled : cancelled n a.log.items ≡ cancel
    pub world : record (execution_of a) { log = log; tasks = infos entries } ≡ taking n a.core.cells.global (execution_of a)
    pub tasks : length entries ≡ length a.entries.items
    pub events : length log ≡ length a.log.items + 1
    pub marks : AllMarked a.log.items → AllMarked log

  pub took_task : {task : Taken P} {table : Table P T (Unit {0})} (q : QueueLists ℕ) → IsTaken a.core.cells task → table ≡ with_queues q (with_taken a.core.cells task.id.number)
      → {entries : List (TaskEntry P)} → ((e : TaskEntry P) → slice_get a.entries.items task.id.number ≡ Some e → entries ≡ slice_set a.entries.items task.id.number (out_entry e task))
      → {log : List (Event T)} → log ≡ a.log.items ++ Took task.id.number (purpose_of task.cancelled) ∷ [] → TookTask table task.id.number task.cancelled entries log
  took_task {task} {table} q takes table_is {entries} entries_are log_is =
      let n = task.id.number in
      let at = get_within a.entries.items n (taken_within sound takes) in
      let e : TaskEntry P = at.0 in
      let cell : Slotted P T (Unit {0}) = record { slot = task.id.slot; cell = takes.cell } in
      let cancel : cancelled n a.log.items ≡ task.cancelled = sym (cancelled_front sound.agree n e at.1 q cell task.future takes.found takes.future) ∙ sym takes.cancelled in
      let holds = take_holds sound.agree n e at.1 q cell task.future takes.found takes.future task.cancelled (sym takes.cancelled) in
      let are = entries_are e at.1 in
      record {
        agree = rw (table_is, are, log_is) holds;
        cancelled = cancel;
        world = rw (are, log_is, infos-set a.entries.items n (out_entry e task), info_at a.entries.items n e at.1, cancel) refl;
        tasks = ap length are ∙ length-slice_set a.entries.items n (out_entry e task);
        events = ap length log_is ∙ length-push a.log.items (Took n (purpose_of task.cancelled));
        marks = λ marked. rw log_is (marked_push a.log.items (Took n (purpose_of task.cancelled)) (λ _. refl) marked);
      }

  -- a take leaves the runners as they are
  pub taken_runners : (table : Table P T (Unit {0})) (n : ℕ) → fixed_part (with_taken table n) ≡ fixed_part table
  taken_runners table n = grind arith

  -- trytick took the front
  pub take_done : {task : Taken P} {core : Core P T (Unit {0})} → TakesFront a.core.cells core.cells.global task → core ≡ record a.core { cells = after_take a.core.cells }
      → {entries : List (TaskEntry P)} → ((e : TaskEntry P) → slice_get a.entries.items task.id.number ≡ Some e → entries ≡ slice_set a.entries.items task.id.number (out_entry e task))
      → {log : List (Event T)} → log ≡ a.log.items ++ Took task.id.number (purpose_of task.cancelled) ∷ []
      → {notices : ℕ} → notices ≡ a.notices + 1 → {room : ℕ} → room ≡ vec_capacity a.log → {answer : Reply T} → answer ≡ take_reply task.id.number task.cancelled
      → Done (stepped a (a.accepted + 1) core log entries notices a.picks) core.cells entries a.rings.items room (take_row w.global w) answer
  take_done {task} {core} takes core_is {entries} entries_are {log} log_is more capacity answers =
      let n = task.id.number in
      let far = rw (← view) at far in
      let cells_are : core.cells ≡ record (with_taken a.core.cells n) { global = core.cells.global } = ap (λ c. c.cells) core_is ∙ ap (take_first a.core.cells) takes.front in
      let runners : fixed_part core.cells ≡ fixed_part a.core.cells = ap fixed_part cells_are ∙ taken_runners a.core.cells n in
      let took = took_task (record { global = core.cells.global; locals = (with_taken a.core.cells n).locals }) takes.taken cells_are entries_are log_is in
      let tasks = took.tasks in
      let events = took.events in
      let same = cells_alone a.core core (after_take a.core.cells) core_is in
      rw (← view, same, more, capacity, answers) (record {
        sound = stepped_sound a sound refl far true core.cells log entries (λ never. absurd (cc)) runners (omega arith) (omega arith) took.agree (λ _. took.marks);
        does = by_row a.core.cells.global takes.front took.cancelled took.world (same_locals runners) (same_closed runners);
      })
    where
      by_row : (queue : List ℕ) → queue ≡ task.id.number ∷ core.cells.global → cancelled task.id.number a.log.items ≡ task.cancelled → record (execution_of a) { log = log; tasks = infos entries } ≡ taking task.id.number a.core.cells.global (execution_of a) → core.cells.locals ≡ a.core.cells.locals → core.cells.closed ≡ a.core.cells.closed
          → row (take_row queue (execution_of a)) (take_reply task.id.number task.cancelled) (record (execution_of a) { log = log; accepted = a.accepted + 1; global = core.cells.global; locals = core.cells.locals; notices = a.notices + 1; tasks = infos entries; closed = core.cells.closed })
      by_row queue front cancel world locals closed = rw (front, locals, closed) (ap (take_reply task.id.number) (sym cancel), ap (λ (x : Execution T). counted (noticed (record x { global = core.cells.global }))) world)

  -- no queue had a task
  pub any_none : {core : Core P T (Unit {0})} → queued_of a.core.cells ≡ [] → core ≡ record a.core { cells = after_take_any a.core.cells } → Done (stepped a (a.accepted + 1) core a.log.items a.entries.items a.notices a.picks) core.cells a.entries.items a.rings.items (vec_capacity a.log) (take_any_row (search_any (queues w)) w) NoTask
  any_none {core} nothing core_is =
      let vain = any_vain (queues_of a.core.cells) nothing in
      let same : core ≡ a.core = core_is ∙ ap (λ (f : Option ℕ × QueueLists ℕ). let c : Core P T (Unit {0}) = record a.core { cells = search_to f a.core.cells } in c) vain in
      let far = rw (← view) at far in
      rw (← view, same) (record {
        sound = stepped_sound a sound refl far false _ _ _ (λ _. refl) refl (omega arith) (omega arith) sound.agree (λ _ marked. marked);
        does = subst (λ f. row (take_any_row f (execution_of a)) NoTask (record (execution_of a) { accepted = a.accepted + 1 })) (sym vain) (refl, refl);
      })

  -- tryany took the front of a queue
  pub any_done : not w.closed ≡ true → {task : Taken P} {core : Core P T (Unit {0})} → TakesAny a.core.cells task → core ≡ record a.core { cells = after_take_any a.core.cells }
      → {entries : List (TaskEntry P)} → ((e : TaskEntry P) → slice_get a.entries.items task.id.number ≡ Some e → entries ≡ slice_set a.entries.items task.id.number (out_entry e task))
      → {log : List (Event T)} → log ≡ a.log.items ++ Took task.id.number (purpose_of task.cancelled) ∷ []
      → {notices : ℕ} → notices ≡ a.notices + 1 → {room : ℕ} → room ≡ vec_capacity a.log → {answer : Reply T} → answer ≡ take_reply task.id.number task.cancelled
      → Done (stepped a (a.accepted + 1) core log entries notices a.picks) core.cells entries a.rings.items room (take_any_row (search_any (queues w)) w) answer
  any_done enabled {task} {core} takes core_is {entries} entries_are {log} log_is more capacity answers =
      let n = task.id.number in
      let q : QueueLists ℕ = (any_in a.core.cells).1 in
      let found : any_in a.core.cells ≡ (Some n, q) = ap (λ (o : Option ℕ). (o, q)) takes.found in
      let cells_are : core.cells ≡ with_queues q (with_taken a.core.cells n) = ap (λ c. c.cells) core_is ∙ ap (λ f. search_to f a.core.cells) found in
      let part = taken_runners a.core.cells n in
      let unclosed : a.core.cells.closed ≡ false = ap (λ (w : Execution T). w.closed) view ∙ not-true w.closed enabled in
      let closed : core.cells.closed ≡ a.core.cells.closed = ap (λ c. c.closed) cells_are ∙ same_closed part in
      let far = rw (← view) at far in
      let took = took_task q takes.taken cells_are entries_are log_is in
      let tasks = took.tasks in
      let events = took.events in
      let same = cells_alone a.core core (after_take_any a.core.cells) core_is in
      rw (← view, same, more, capacity, answers) (record {
        sound =
            record {
              agree = took.agree;
              notices = notices_again sound.notices refl refl refl refl refl (inl (omega arith));
              tickers = sound.tickers;
              runners = runners_shaped sound.runners (ap (λ c. shapes c.locals) cells_are ∙ any_shapes (queues_of a.core.cells)) (ap (λ c. c.next_runner) cells_are ∙ ap (λ p. p.1.0) part) (ap (λ c. c.free_places) cells_are ∙ ap (λ p. p.1.1.0) part);
              closing = λ on. absurd (true≢false (sym on ∙ closed ∙ unclosed));
              room = room_again sound.room refl far _ refl refl (omega arith) (let before = length-infos a.entries.items in let after = length-infos entries in omega arith) (omega arith) (omega arith) closed refl;
            };
        does = by_row cells_are closed took.cancelled took.world found;
      })
    where
      by_row : core.cells ≡ with_queues (any_in a.core.cells).1 (with_taken a.core.cells task.id.number) → core.cells.closed ≡ a.core.cells.closed → cancelled task.id.number a.log.items ≡ task.cancelled
          → record (execution_of a) { log = log; tasks = infos entries } ≡ taking task.id.number a.core.cells.global (execution_of a) → any_in a.core.cells ≡ (Some task.id.number, (any_in a.core.cells).1)
          → row (take_any_row (search_any (queues (execution_of a))) (execution_of a)) (take_reply task.id.number task.cancelled) (record (execution_of a) { log = log; accepted = a.accepted + 1; global = core.cells.global; locals = core.cells.locals; notices = a.notices + 1; tasks = infos entries; closed = core.cells.closed })
      by_row cells_are closed cancel world found =
          subst (λ f. row (take_any_row f (execution_of a)) (take_reply task.id.number task.cancelled) (record (execution_of a) { log = log; accepted = a.accepted + 1; global = core.cells.global; locals = core.cells.locals; notices = a.notices + 1; tasks = infos entries; closed = core.cells.closed })) (sym found)
          (rw (closed, ap (λ c. c.global) cells_are, ap (λ c. c.locals) cells_are) (ap (take_reply task.id.number) (sym cancel), ap (λ (x : Execution T). counted (noticed (with_queues_row (any_in a.core.cells).1 x))) world))

module _ {P T : Type 0} (a : Inside P T) (sound : IsWorld (execution_of a) a.core.cells a.entries.items a.rings.items (vec_capacity a.log)) {w : Execution T} (view : execution_of a ≡ w) (far : w.accepted ≢ w.limit) (n : ℕ) {i : TaskInfo} (found : slice_get (infos a.entries.items) n ≡ Some i) where
  module _ (b : Bool) (enabled : held n w.log && b ≡ true) where
    is_held_now : held n a.log.items ≡ true
    is_held_now = (and_parts (held n a.log.items) b (ap (λ w. held n w.log && b) view ∙ enabled)).0

    module _ {accepted room : ℕ} {answer : Reply T} (counted : accepted ≡ a.accepted + 1) (capacity : room ≡ vec_capacity a.log) where
      -- the future went back
      pub pend_done : {id : TaskId} → id ≡ id_of n i → {core : Core P T (Unit {0})} (p : P) → core ≡ record a.core { cells = after_end_pending a.core.cells id p } → takes_back_in (cell_at a.core.cells id) ≡ true → {queues : Bool} → queues ≡ woken_in (cell_at a.core.cells id)
          → {entries : List (TaskEntry P)} → entries ≡ slice_set a.entries.items n (record { info = i; out = None }) → {log : List (Event T)} → log ≡ a.log.items ++ Returned n ∷ [] → {notices : ℕ} → notices ≡ cond queues (a.notices + 1) a.notices → {kept : Bool} → kept ≡ queues → answer ≡ return_reply n kept
          → Done (stepped a accepted core log entries notices a.picks) core.cells entries a.rings.items room (pend_row n w) answer
      pend_done same p core_is ours queues_is entries_is log_is noticed keeps answers =
          let step = pend_holds sound.agree n _ (entry_of _ n i found).1 is_held_now p (ap (λ id. takes_back_in (cell_at a.core.cells id)) (sym same) ∙ ours) in
          let queued = queues_is ∙ ap (λ id. woken_in (cell_at a.core.cells id)) same ∙ step.queued in
          let far = rw (← view) at far in
          rw (← view, counted, core_is, entries_is, log_is, noticed, answers, keeps, capacity, same, queued) (record {
            sound = stepped_sound a sound refl far (woken n a.log.items) _ _ _ (λ never. step.global ∙ cond-false (woken n a.log.items) _ _ never) step.runners (let long = length-slice_set a.entries.items n (record { info = i; out = None }) in omega arith) (let long = length-push a.log.items (Returned n) in omega arith) step.holds (λ _. marked_push a.log.items (Returned n) (λ _. refl));
            does = rw (infos-set a.entries.items n (record { info = i; out = None }), set-here (infos a.entries.items) n i found, step.global, same_locals step.runners, same_closed step.runners, step.cancelled) (refl, refl);
          })

      -- the task was cancelled, and its future stays out to be dropped
      pub pend_dropped : {id : TaskId} → id ≡ id_of n i → {core : Core P T (Unit {0})} (p : P) → core ≡ record a.core { cells = after_end_pending a.core.cells id p } → takes_back_in (cell_at a.core.cells id) ≡ false
          → {middle entries : List (TaskEntry P)} (q : P) {j : TaskInfo} → middle ≡ slice_set a.entries.items n (record { info = i; out = None }) → entries ≡ slice_set middle n (record { info = j; out = Some (Polled q) }) → j ≡ record i { to_drop = true } → answer ≡ Drop n
          → Done (stepped a accepted core a.log.items entries a.notices a.picks) core.cells entries a.rings.items room (pend_row n w) answer
      pend_dropped same p core_is ours {entries = entries} q {j = j} middle_is entries_is info_is answers =
          let e : TaskEntry P = record { info = record i { to_drop = true }; out = Some (Polled q) } in
          let step = pend_stays sound.agree n _ (entry_of _ n i found).1 is_held_now p q (ap (λ id. takes_back_in (cell_at a.core.cells id)) (sym same) ∙ ours) in
          let far = rw (← view) at far in
          let set : entries ≡ slice_set a.entries.items n e = set_again _ _ _ _ _ _ middle_is entries_is ∙ ap (λ (j : TaskInfo). slice_set a.entries.items n (record { info = j; out = Some (Polled q) })) info_is in
          rw (← view, counted, core_is, set, answers, capacity, same, step.same) (record {
            sound = stepped_sound a sound refl far false _ _ _ (λ _. refl) refl (let long = length-slice_set a.entries.items n e in omega arith) (omega arith) step.holds (λ _ marked. marked);
            does = rw (infos-set a.entries.items n e, step.cancelled, found) (refl, refl);
          })

      -- the future gave its output
      pub ready_done : {id : TaskId} → id ≡ id_of n i → {held_task : HeldTask} {output t : T} → ◌≡◌ {A = HeldTask × T} (held_task, output) (record { id = id; to_drop = false }, t) → {core : Core P T (Unit {0})} → core ≡ record a.core { cells = after_end_ready a.core.cells held_task.id output } → {ended : EndReady T (Unit {0})} → ended ≡ ready_answer output (cell_at a.core.cells held_task.id)
          → {cancel : Bool} → cancel ≡ cancelled_in (cell_at a.core.cells id) → {j : TaskInfo} → j ≡ record i { awaited = false } → {entries : List (TaskEntry P)} → entries ≡ slice_set a.entries.items n (record { info = j; out = None })
          → {log more : List (Event T)} → log ≡ cond (not cancel) (a.log.items ++ Finish n output ∷ []) a.log.items → more ≡ log ++ Dropped n ∷ [] → answer ≡ ready_reply (is_some ended.awaiter) ended.unwanted
          → Done (stepped a accepted core more entries a.notices a.picks) core.cells entries a.rings.items room (ready_row n t w) answer
      ready_done same {t = t} handed core_is ended_is cancel_is info_is entries_is log_is more_is answers =
          let e : TaskEntry P = record { info = record i { awaited = false }; out = None } in
          let at = (entry_of _ n i found).1 in
          let step = ready_holds sound.agree n _ at is_held_now t in
          let far = rw (← view) at far in
          let ours = ap (λ p. p.0.id) handed ∙ same in
          let gave = ap (λ p. p.1) handed in
          let cancel = cancel_is ∙ ap (λ id. cancelled_in (cell_at a.core.cells id)) same ∙ cancelled_is sound.agree n _ at is_held_now in
          rw (← view, counted, core_is, entries_is, info_is, answers, ended_is, more_is, log_is, cancel, capacity, ours, gave, awaiter_is sound.agree n _ at is_held_now t, unwanted_is sound.agree n _ at is_held_now t) (record {
            sound = stepped_sound a sound refl far false _ _ _ (λ _. step.global) step.runners (let long = length-slice_set a.entries.items n e in omega arith) (let first = length-push_if (not (cancelled n a.log.items)) a.log.items (Finish n t) in let long = length-push (cond (not (cancelled n a.log.items)) (a.log.items ++ Finish n t ∷ []) a.log.items) (Dropped n) in omega arith) step.holds (λ _ marked. marked_push (cond (not (cancelled n a.log.items)) (a.log.items ++ Finish n t ∷ []) a.log.items) (Dropped n) (λ _. refl) (marked_push_if (not (cancelled n a.log.items)) a.log.items (Finish n t) (λ _. refl) marked));
            does = rw (infos-set a.entries.items n e, step.global, same_locals step.runners, same_closed step.runners, found) (refl, refl);
          })

      -- the future was dropped
      pub drop_done : {id : TaskId} → id ≡ id_of n i → {held_task : HeldTask} → held_task ≡ record { id = id; to_drop = true } → {core : Core P T (Unit {0})} → core ≡ record a.core { cells = after_end_dropped a.core.cells held_task.id } → {awaiter : Option (Wakeup (Unit {0}))} → awaiter ≡ dropped_answer (cell_at a.core.cells held_task.id)
          → {j : TaskInfo} → j ≡ record i { awaited = false } → {entries : List (TaskEntry P)} → entries ≡ slice_set a.entries.items n (record { info = j; out = None }) → {log : List (Event T)} → log ≡ a.log.items ++ Dropped n ∷ [] → {there : Bool} → there ≡ is_some awaiter → answer ≡ GoneReply there
          → Done (stepped a accepted core log entries a.notices a.picks) core.cells entries a.rings.items room (dropped_row n w) answer
      drop_done same handed core_is awaiter_is info_is entries_is log_is there_is answers =
          let e : TaskEntry P = record { info = record i { awaited = false }; out = None } in
          let at = (entry_of _ n i found).1 in
          let step = drop_holds sound.agree n _ at is_held_now in
          let far = rw (← view) at far in
          let ours = ap (λ h. h.id) handed ∙ same in
          rw (← view, counted, core_is, entries_is, info_is, log_is, answers, there_is, awaiter_is, capacity, ours, gone_awaiter_is sound.agree n _ at is_held_now) (record {
            sound = stepped_sound a sound refl far false _ _ _ (λ _. step.global) step.runners (let long = length-slice_set a.entries.items n e in omega arith) (let long = length-push a.log.items (Dropped n) in omega arith) step.holds (λ _. marked_push a.log.items (Dropped n) (λ _. refl));
            does = rw (infos-set a.entries.items n e, step.global, same_locals step.runners, same_closed step.runners, found) (refl, refl);
          })
