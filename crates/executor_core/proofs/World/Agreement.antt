-- What keeps the cells in agreement with the log.
use Rattle.std.proofs.Common.{◌≡◌, ◌≢◌, ℕ, ◌+◌, ◌<◌, ◌≤◌, ◌||◌, ◌&&◌, not, Bool, true, false, List, [], ◌∷◌, ◌++◌, length, Option, Some, None, is_some, cond, refl, sym, ap, subst, ◌∙◌, ◌⊎◌, inl, inr, arith}
use Rattle.std.proofs.lemmas.Bool.{and_parts, cases_eq, eq-eqb}
use Rattle.std.specs.Vec.{vec_capacity}
use Rattle.executor_core.specs.World.{Execution}
use Rattle.executor_core.specs.World.View.{execution_of, IsWorld}
use Rattle.executor_core.specs.declared.interleave.World.TheInside.{Inside}
use Rattle.std.specs.Prelude.{slice_get, slice_set}
use Rattle.std.specs.FinMap as map
use Rattle.executor_core.specs.Cells.{Slotted, Table}
use Rattle.executor_core.specs.Cell.{is_idle, is_scheduled, is_held, is_undropped}
use Rattle.executor_core.specs.Cells.Law.{scheduled_in, queued_of, LockLaw}
use Rattle.executor_core.specs.Cells.Calls.{cell_at, in_slot, undropped_in, future_in, AllDropped}
use Rattle.executor_core.specs.World.Entries.{infos, is_out}
use Rattle.executor_core.specs.World.Log.{spawned, dropped, held, owed, idle, polls, wakes, EachDropped}
use Rattle.executor_core.specs.World.Promises.{OnePlace, InOrder, FewPolls}
use Rattle.executor_core.specs.World.Agreement.{Status, status, FewPollsFor, StateAgrees, IsRemoved, CellAgrees, NumberAgrees, Agree, has_state, CellsAgree}
use Rattle.executor_core.proofs.BoolLemmas.{not-not}
use Rattle.executor_core.proofs.World.Entries.{info_at, no_info}
use Rattle.executor_core.proofs.World.Status.{task_of}
use Rattle.executor_core.proofs.World.Log.{status_other}
use Rattle.executor_core.proofs.ListLemmas.{within_get, get-set_same, get-set_other, length-slice_set}
use Rattle.executor_core.proofs.SlotLemmas.{insert_same, insert_other, remove_same, remove_other}
use Rattle.executor_core.specs.declared.task.cell.Cell.{Cell}
use Rattle.executor_core.specs.declared.task.cell.CellState.{CellState}
use Rattle.executor_core.specs.declared.task.cell.TaskId.{TaskId}
use Rattle.executor_core.specs.declared.interleave.entry.TaskInfo.{TaskInfo}
use Rattle.executor_core.specs.declared.interleave.entry.TaskEntry.{TaskEntry}
use Rattle.executor_core.specs.declared.interleave.event.Event.{Event}

module _ {T : Type 0} where
  abbrev pub owed_of : Status T → Bool
  owed_of s = s.spawned && not s.dropped && not s.held && (not s.taken || s.woken || s.cancelled_since)

  abbrev pub idle_of : Status T → Bool
  idle_of s = s.spawned && not s.dropped && not s.held && not (owed_of s)

  -- a log that goes on has this status of a number, and the others keep theirs
  pub record LogChange (log later : List (Event T)) (n : ℕ) (s : Status T) : Type 0 where
    pub here : status n later ≡ s
    pub others : (q : ℕ) → q ≢ n → status q later ≡ status q log

  pub log_same : (log : List (Event T)) (n : ℕ) → LogChange log log n (status n log)
  log_same log n = record { here = refl; others = λ q far. refl }

  pub log_pushed : (log : List (Event T)) (n : ℕ) (e : Event T) (s : Status T) → task_of e ≡ n → status n (log ++ e ∷ []) ≡ s → LogChange log (log ++ e ∷ []) n s
  log_pushed log n e s of here = record { here = here; others = λ q far. status_other q log e (λ same. far (same ∙ of)) }

abbrev pub id_of : ℕ → TaskInfo → TaskId
id_of n i = record { number = n; slot = i.slot }

-- what is kept of the tasks changes at a number
pub record EntryChange {P : Type 0} (entries later : List (TaskEntry P)) (n : ℕ) (e : TaskEntry P) : Type 0 where
  pub here : slice_get later n ≡ Some e
  pub others : (q : ℕ) → q ≢ n → slice_get later q ≡ slice_get entries q
  pub longer : length later ≡ length entries

pub entry_same : {P : Type 0} (entries : List (TaskEntry P)) (n : ℕ) (e : TaskEntry P) → slice_get entries n ≡ Some e → EntryChange entries entries n e
entry_same entries n e is = record { here = is; others = λ q far. refl; longer = refl }

pub entry_set : {P : Type 0} (entries : List (TaskEntry P)) (n : ℕ) (before e : TaskEntry P) → slice_get entries n ≡ Some before → EntryChange entries (slice_set entries n e) n e
entry_set entries n before e is = grind (arith, get-set_same, get-set_other, length-slice_set)

module _ {P T : Type 0} where
  -- the cells change at a number
  pub record CellChange (table later : Table P T (Unit {0})) (n : ℕ) (o : Option (Slotted P T (Unit {0}))) : Type 0 where
    pub next : later.next ≡ table.next
    pub here : map.get later.cells n ≡ o
    pub others : (q : ℕ) → q ≢ n → map.get later.cells q ≡ map.get table.cells q

  pub cell_put : (table later : Table P T (Unit {0})) (n : ℕ) (slotted : Slotted P T (Unit {0})) → later.next ≡ table.next → later.cells ≡ map.insert table.cells n slotted → CellChange table later n (Some slotted)
  cell_put table later n slotted next is = grind (arith, insert_same, insert_other)

  pub cell_removed : (table later : Table P T (Unit {0})) (n : ℕ) → later.next ≡ table.next → later.cells ≡ map.remove table.cells n → CellChange table later n None
  cell_removed table later n next is = grind (arith, remove_same, remove_other)

  pub cell_same : (table : Table P T (Unit {0})) (n : ℕ) (o : Option (Slotted P T (Unit {0}))) → map.get table.cells n ≡ o → CellChange table table n o
  cell_same table n o is = record { next = refl; here = is; others = λ q far. refl }

  pub number_agrees_by : (o p : Option (Slotted P T (Unit {0}))) (s u : Status T) (i k : Option (TaskEntry P)) → o ≡ p → s ≡ u → i ≡ k → NumberAgrees p u k → NumberAgrees o s i
  number_agrees_by o p s u i k a b c h = grind arith

  pub agree_again : {table later : Table P T (Unit {0})} {log more : List (Event T)} {entries anew : List (TaskEntry P)} {n : ℕ} {o : Option (Slotted P T (Unit {0}))} {s : Status T} {e : TaskEntry P}
      → Agree table log entries → CellChange table later n o → LogChange log more n s → EntryChange entries anew n e → NumberAgrees o s (Some e) → FewPollsFor s → InOrder more → Agree later more anew
  agree_again {table} {later} {log} {more} {entries} {anew} {n} {o} {s} {e} agree cell_change log_change entry_change here few_polls order =
      record {
        next = cell_change.next ∙ agree.next ∙ sym entry_change.longer;
        each = λ q. elim (cases_eq q n) [
          | inl same ↦ subst (λ k. NumberAgrees (map.get later.cells k) (status k more) (slice_get anew k)) (sym same) (number_agrees_by _ o _ s _ (Some e) cell_change.here log_change.here entry_change.here here)
          | inr far ↦ number_agrees_by _ _ _ _ _ _ (cell_change.others q far) (log_change.others q far) (entry_change.others q far) (agree.each q)
        ];
        few_polls = λ q. elim (cases_eq q n) [
          | inl same ↦ subst (λ k. FewPollsFor (status k more)) (sym same) (subst FewPollsFor (sym log_change.here) few_polls)
          | inr far ↦ subst FewPollsFor (sym (log_change.others q far)) (agree.few_polls q)
        ];
        order = order;
      }

  abbrev pub cell_of : Option (Slotted P T (Unit {0})) → Option (Cell P T (Unit {0}))
  cell_of None = None
  cell_of (Some slotted) = Some slotted.cell

  -- the cells stay, whatever becomes of the queues
  pub same_cells : {table later : Table P T (Unit {0})} {log : List (Event T)} {entries : List (TaskEntry P)} → Agree table log entries → later.next ≡ table.next → later.cells ≡ table.cells → Agree later log entries
  same_cells agree next cells = record { next = next ∙ agree.next; each = λ n. rw cells (agree.each n); few_polls = agree.few_polls; order = agree.order }

  pub agreed_at : {table : Table P T (Unit {0})} {log : List (Event T)} {entries : List (TaskEntry P)} → Agree table log entries → (n : ℕ) (e : TaskEntry P) → slice_get entries n ≡ Some e → (o : Option (Slotted P T (Unit {0}))) → map.get table.cells n ≡ o → NumberAgrees o (status n log) (Some e)
  agreed_at {table} {log} {entries} agree n e found o here = number_agrees_by _ _ _ _ _ _ (sym here) refl (sym found) (agree.each n)

  in_slot_of : (s : Status T) (e : TaskEntry P) (o : Option (Slotted P T (Unit {0}))) → NumberAgrees o s (Some e) → in_slot e.info.slot o ≡ cell_of o
  in_slot_of s e o h = grind (arith, eq-eqb)

  pub cell_agreed : {table : Table P T (Unit {0})} {log : List (Event T)} {entries : List (TaskEntry P)} → Agree table log entries → (n : ℕ) (e : TaskEntry P) → slice_get entries n ≡ Some e → (o : Option (Slotted P T (Unit {0}))) → map.get table.cells n ≡ o → cell_at table (id_of n e.info) ≡ cell_of o
  cell_agreed agree n e found o here = ap (in_slot e.info.slot) here ∙ in_slot_of _ e o (agreed_at agree n e found o here)

  pub owed_state : (st : CellState P T) (w : Bool) (s : Status T) → StateAgrees st w s → owed_of s ≡ is_scheduled st
  owed_state st w s h = grind arith

  pub idle_state : (st : CellState P T) (w : Bool) (s : Status T) → StateAgrees st w s → idle_of s ≡ is_idle st
  idle_state st w s h = grind arith

  pub dropped_state : (st : CellState P T) (w : Bool) (s : Status T) → StateAgrees st w s → s.dropped ≡ not (is_undropped st)
  dropped_state st w s h = grind arith

  pub held_by_state : (st : CellState P T) (w : Bool) (s : Status T) → StateAgrees st w s → s.held ≡ is_held st
  held_by_state st w s h = grind arith

  scheduled_is : (o : Option (Slotted P T (Unit {0}))) (s : Status T) (i : Option (TaskEntry P)) → NumberAgrees o s i → has_state is_scheduled o ≡ owed_of s
  scheduled_is o s i h = grind (arith, owed_state)

  idle_is : (o : Option (Slotted P T (Unit {0}))) (s : Status T) (i : Option (TaskEntry P)) → NumberAgrees o s i → has_state is_idle o ≡ idle_of s
  idle_is o s i h = grind (arith, idle_state)

  held_is : (o : Option (Slotted P T (Unit {0}))) (s : Status T) (i : Option (TaskEntry P)) → NumberAgrees o s i → has_state is_held o ≡ s.held
  held_is o s i h = grind (arith, held_by_state)

  pub cells_agree : {table : Table P T (Unit {0})} {log : List (Event T)} {entries : List (TaskEntry P)} → Agree table log entries → CellsAgree table log
  cells_agree {table} {log} {entries} agree = grind (arith, scheduled_is, idle_is, held_is)

  -- a future is out if and only if its task is held
  out_held : (o : Option (Slotted P T (Unit {0}))) (s : Status T) (i : Option (TaskEntry P)) → NumberAgrees o s i → is_out i ≡ s.held
  out_held o s i h = grind arith

  pub out_is : {table : Table P T (Unit {0})} {log : List (Event T)} {entries : List (TaskEntry P)} → Agree table log entries → (n : ℕ) → is_out (slice_get entries n) ≡ held n log
  out_is agree n = out_held _ _ _ (agree.each n)

  -- the queue has each number whose cell is scheduled
  scheduled_same : (o : Option (Slotted P T (Unit {0}))) → scheduled_in o ≡ has_state is_scheduled o
  scheduled_same o = grind arith

  pub one_place : {table : Table P T (Unit {0})} {log : List (Event T)} {entries : List (TaskEntry P)} → Agree table log entries → LockLaw table → OnePlace log (queued_of table)
  one_place {table} agree law n = law n ∙ ap (λ b. cond b 1 0) (scheduled_same (map.get table.cells n) ∙ (cells_agree agree).scheduled n)

  pub few_polls : {table : Table P T (Unit {0})} {log : List (Event T)} {entries : List (TaskEntry P)} → Agree table log entries → FewPolls log
  few_polls {log = log} agree n = drop_part (polls n log) _ (wakes n log) (agree.few_polls n)
    where
      drop_part : (a b w : ℕ) → a + b ≤ 1 + w → a ≤ 1 + w
      drop_part a b w h = omega arith

  -- whether a number was spawned, by what is known of it
  spawned_match : (o : Option (Slotted P T (Unit {0}))) (s : Status T) (i : Option (TaskEntry P)) → NumberAgrees o s i → s.spawned ≡ is_some i
  spawned_match o s i h = grind arith

  pub spawned_is : {table : Table P T (Unit {0})} {log : List (Event T)} {entries : List (TaskEntry P)} → Agree table log entries → (n : ℕ) → spawned n log ≡ is_some (slice_get entries n)
  spawned_is {table} {log} {entries} agree n = spawned_match _ _ _ (agree.each n)

  -- what the log says of a cell in this state
  pub state_agrees : (slotted : Slotted P T (Unit {0})) (s : Status T) (e : TaskEntry P) (st : CellState P T) → slotted.cell.state ≡ st → CellAgrees slotted s e → StateAgrees st slotted.cell.woken s
  state_agrees slotted s e st is h = subst (λ x. StateAgrees x slotted.cell.woken s) is h.state

  -- every future was dropped by the cells if and only if every one was by the log
  pub each_dropped : {table : Table P T (Unit {0})} {log : List (Event T)} {entries : List (TaskEntry P)} → Agree table log entries → AllDropped table → EachDropped log
  each_dropped {table} {log} {entries} agree all n is = by_slotted (map.get table.cells n) (slice_get entries n) refl (agree.each n)
    where
      by_slotted : (o : Option (Slotted P T (Unit {0}))) (i : Option (TaskEntry P)) → map.get table.cells n ≡ o → NumberAgrees o (status n log) i → dropped n log ≡ true
      by_slotted None None here h = absurd (cc (is, ap (λ s. s.spawned) h))
      by_slotted None (Some i) here h = h.dropped
      by_slotted (Some slotted) None here h = absurd h
      by_slotted (Some slotted) (Some i) here h = dropped_state slotted.cell.state slotted.cell.woken (status n log) h.state ∙ ap not (all n slotted here)

  pub all_dropped : {table : Table P T (Unit {0})} {log : List (Event T)} {entries : List (TaskEntry P)} → Agree table log entries → EachDropped log → AllDropped table
  all_dropped {table} {log} {entries} agree each n slotted here = by_info (slice_get entries n) (subst (λ o. NumberAgrees o (status n log) (slice_get entries n)) here (agree.each n))
    where
      by_info : (i : Option (TaskEntry P)) → NumberAgrees (Some slotted) (status n log) i → is_undropped slotted.cell.state ≡ false
      by_info None h = absurd h
      by_info (Some i) h = sym (not-not (is_undropped slotted.cell.state)) ∙ ap not (sym (dropped_state slotted.cell.state slotted.cell.woken (status n log) h.state) ∙ each n (spawned_match (Some slotted) (status n log) (Some i) h))

  pub undropped_state : (st : CellState P T) (w : Bool) (s : Status T) → StateAgrees st w s → is_undropped st ≡ not s.dropped
  undropped_state st w s h = sym (not-not (is_undropped st)) ∙ ap not (sym (dropped_state st w s h))

  -- the cell of a task
  pub record CellAt (table : Table P T (Unit {0})) (log : List (Event T)) (n : ℕ) (e : TaskEntry P) : Type 0 where
    pub slotted : Slotted P T (Unit {0})
    pub here : map.get table.cells n ≡ Some slotted
    pub cell : cell_at table (id_of n e.info) ≡ Some slotted.cell
    pub agrees : CellAgrees slotted (status n log) e

  -- the task has no cell any more
  pub record NoCellAt (table : Table P T (Unit {0})) (log : List (Event T)) (n : ℕ) (e : TaskEntry P) : Type 0 where
    pub here : map.get table.cells n ≡ None
    pub cell : cell_at table (id_of n e.info) ≡ None
    pub agrees : IsRemoved (status n log) e

module _ {P T : Type 0} {table : Table P T (Unit {0})} {log : List (Event T)} {entries : List (TaskEntry P)} (agree : Agree table log entries) (n : ℕ) (e : TaskEntry P) (found : slice_get entries n ≡ Some e) where
  pub cell_or_none : CellAt table log n e ⊎ NoCellAt table log n e
  cell_or_none = grind (arith, cell_agreed, agreed_at)

  -- the future is in the cell if and only if the task is owed a poll or a drop, or is idle
  pub kept_is : future_in (cell_at table (id_of n e.info)) ≡ owed n log || idle n log
  kept_is = grind (arith, cell_or_none, owed_state, idle_state)

  -- a task whose handle is there has a cell
  pub handle_cell : e.info.has_handle ≡ true → CellAt table log n e
  handle_cell there = grind (arith, cell_or_none)

  -- and so has a held task
  pub held_cell : held n log ≡ true → CellAt table log n e
  held_cell now_held = grind (arith, cell_or_none)

  -- whether the future is dropped is what the log says
  pub undropped_is : undropped_in (cell_at table (id_of n e.info)) ≡ not (dropped n log)
  undropped_is = grind (arith, cell_or_none, undropped_state)

module _ {P T : Type 0} (a : Inside P T) (sound : IsWorld (execution_of a) a.core.cells a.entries.items a.rings.items (vec_capacity a.log)) {w : Execution T} (view : execution_of a ≡ w) (n : ℕ) where
  -- a task that was spawned, or is held, is one of the tasks
  pub spawned_within : spawned n w.log ≡ true → n < length a.entries.items
  spawned_within is = by_entry (slice_get a.entries.items n) refl (sym (spawned_is sound.agree n) ∙ ap (λ w. spawned n w.log) view ∙ is)
    where
      by_entry : (o : Option (TaskEntry P)) → slice_get a.entries.items n ≡ o → is_some (slice_get a.entries.items n) ≡ true → n < length a.entries.items
      by_entry (Some e) found h = within_get a.entries.items n e found
      by_entry None found h = absurd (cc (h, ap is_some found))

  pub held_out : (b : Bool) → held n w.log && b ≡ true → is_out (slice_get a.entries.items n) ≡ true
  held_out b is = out_is sound.agree n ∙ ap (λ w. held n w.log) view ∙ (and_parts _ _ is).0

  pub held_within : (b : Bool) → held n w.log && b ≡ true → n < length a.entries.items
  held_within b is = grind (arith, held_out, within_get)

  -- nobody holds a task that was not spawned
  pub held_not : slice_get (infos a.entries.items) n ≡ None → held n w.log ≡ false
  held_not none = sym (ap (λ w. held n w.log) view) ∙ sym (out_is sound.agree n) ∙ by_entry (slice_get a.entries.items n) refl
    where
      by_entry : (o : Option (TaskEntry P)) → slice_get a.entries.items n ≡ o → is_out o ≡ false
      by_entry None found = refl
      by_entry (Some e) found = absurd (cc (none, info_at a.entries.items n e found))

  -- what is known of a task says whether it was spawned
  pub spawned_known : is_some (slice_get (infos a.entries.items) n) ≡ spawned n w.log
  spawned_known = grind (arith, spawned_is, no_info, info_at)

  -- no future of a task that was not spawned is kept
  pub kept_not : slice_get (infos a.entries.items) n ≡ None → owed n w.log || idle n w.log ≡ false
  kept_not none = grind (arith, spawned_known)
