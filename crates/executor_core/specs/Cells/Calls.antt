-- What each call makes of the table, and what it answers.
use Rattle.std.specs.Prelude.{◌≡◌, ◌≢◌, ℕ, ◌+◌, ◌-◌, ◌==◌, nat_lt, Bool, true, false, List, [], ◌∷◌, ◌++◌, length, Option, Some, None, cond, is_some, count_by, ◌&&◌, ◌||◌, not, ◌<◌, slice_get, map as list_map}
use Rattle.std.specs.List.{filter}
use Rattle.std.specs.FinMap as map
use Rattle.std.specs.Ordering.{nat_cmp}
use Rattle.executor_core.specs.Cells.{Slotted, Table}
use Rattle.executor_core.specs.Cells.Law.{queues_of}
use Rattle.executor_core.specs.Queues.{QueueLists, emptied, local_entries, search, search_any, fair, registered, unregistered, is_registered, entries_of}
use Rattle.executor_core.specs.Cell.{is_idle, is_held, is_scheduled, is_undropped}
use Rattle.executor_core.specs.Cell.Changes.{new_cell, woken, taken, pended, readied, awaited, cancelled_cell, detached, disposed, takes_back, output_of, is_finished_state, wakeup_of}
use Rattle.executor_core.specs.declared.task.cell.Cell.{Cell}
use Rattle.executor_core.specs.declared.task.cell.CellState.TheVariants.{Scheduled}
use Rattle.executor_core.specs.declared.task.cell.TaskId.{TaskId}
use Rattle.executor_core.specs.declared.task.polling.Taken.{Taken}
use Rattle.executor_core.specs.declared.task.polling.Held.{Held}
use Rattle.executor_core.specs.declared.task.values.Wakeup.{Wakeup}
use Rattle.executor_core.specs.declared.task.table.EndReady.{EndReady}
use Rattle.executor_core.specs.declared.task.handles.PollHandle.{PollHandle}
use Rattle.executor_core.specs.declared.task.handles.PollHandle.TheVariants.{Output, Cancelled, Pending}
use Rattle.executor_core.specs.declared.task.table.EndPending.{EndPending}
use Rattle.executor_core.specs.declared.task.table.EndPending.TheVariants.{Back, Drop}

-- no task, the next one getting this number
abbrev pub empty_table : {P T W : Type 0} → ℕ → Table P T W
empty_table next = record { next = next; cells = map.empty; global = []; locals = []; next_runner = 0; free_places = 0; closed = false }

-- the cell of an id, and what is read of it
module _ {P T W : Type 0} where
  abbrev pub in_slot : ℕ → Option (Slotted P T W) → Option (Cell P T W)
  in_slot slot None = None
  in_slot slot (Some s) = cond (s.slot == slot) (Some s.cell) None

  -- the cell of the id's number, if it is in the id's slot
  abbrev pub cell_at : Table P T W → TaskId → Option (Cell P T W)
  cell_at table id = in_slot id.slot (map.get table.cells id.number)

  -- there is a cell, and it passes the test
  abbrev pub passes : (Cell P T W → Bool) → Option (Cell P T W) → Bool
  passes test None = false
  passes test (Some c) = test c

  abbrev pub idle_in : Option (Cell P T W) → Bool
  idle_in = passes (λ c. is_idle c.state)

  abbrev pub held_in : Option (Cell P T W) → Bool
  held_in = passes (λ c. is_held c.state)

  abbrev pub undropped_in : Option (Cell P T W) → Bool
  undropped_in = passes (λ c. is_undropped c.state)

  -- the future is in the cell
  abbrev pub future_in : Option (Cell P T W) → Bool
  future_in = passes (λ c. is_idle c.state || is_scheduled c.state)

  abbrev pub cancelled_in : Option (Cell P T W) → Bool
  cancelled_in = passes (λ c. c.cancelled)

  abbrev pub woken_in : Option (Cell P T W) → Bool
  woken_in = passes (λ c. c.woken)

  abbrev pub handle_in : Option (Cell P T W) → Bool
  handle_in = passes (λ c. c.has_handle)

  abbrev pub takes_back_in : Option (Cell P T W) → Bool
  takes_back_in = passes takes_back

  -- every future that was spawned was dropped
  abbrev pub AllDropped : Table P T W → Type 0
  AllDropped table = (n : ℕ) (s : Slotted P T W) → map.get table.cells n ≡ Some s → is_undropped s.cell.state ≡ false

  -- how many futures are not dropped
  abbrev pub undropped_count : Table P T W → ℕ
  undropped_count table = count_by (λ s. is_undropped s.cell.state) (map.values table.cells)

-- changes at one id
module _ {P T W : Type 0} where
  abbrev pub with_cell : Table P T W → TaskId → Cell P T W → Table P T W
  with_cell table id c = record table { cells = map.insert table.cells id.number (record { slot = id.slot; cell = c }) }

  abbrev pub without_cell : Table P T W → TaskId → Table P T W
  without_cell table id = record table { cells = map.remove table.cells id.number }

  -- the number goes to the global end, if that is asked for
  abbrev pub queued_if : Bool → Table P T W → TaskId → Table P T W
  queued_if b table id = record table { global = cond b (table.global ++ id.number ∷ []) table.global }

-- spawn
module _ {P T W : Type 0} where
  -- no cell has this slot
  abbrev pub IsFree : Table P T W → ℕ → Type 0
  IsFree table slot = (n : ℕ) (s : Slotted P T W) → map.get table.cells n ≡ Some s → s.slot ≢ slot

  -- the next number has a new cell in the slot, and stands at the global end
  abbrev pub after_spawn : Table P T W → ℕ → P → Table P T W
  after_spawn table slot p =
      record table {
        next = table.next + 1;
        cells = map.insert table.cells table.next (record { slot = slot; cell = new_cell p });
        global = table.global ++ table.next ∷ [];
      }

-- wake
module _ {P T W : Type 0} where
  abbrev pub wake_at : Table P T W → TaskId → Option (Cell P T W) → Table P T W
  wake_at table id None = table
  wake_at table id (Some c) = queued_if (is_idle c.state) (with_cell table id (woken c)) id

  abbrev pub after_wake : Table P T W → TaskId → Table P T W
  after_wake table id = wake_at table id (cell_at table id)

  -- a wake queues the task
  abbrev pub wakes : Table P T W → TaskId → Bool
  wakes table id = idle_in (cell_at table id)

-- a take: what becomes of the cell, whichever queue the number stands in
module _ {P T W : Type 0} where
  abbrev pub with_taken_at : Table P T W → ℕ → Option (Slotted P T W) → Table P T W
  with_taken_at table n None = table
  with_taken_at table n (Some s) = record table { cells = map.insert table.cells n (record { slot = s.slot; cell = taken s.cell }) }

  -- the number's cell is held
  abbrev pub with_taken : Table P T W → ℕ → Table P T W
  with_taken table n = with_taken_at table n (map.get table.cells n)

  -- the task has the number, the slot, the future and the cancel mark of a scheduled cell
  pub record IsTaken (table : Table P T W) (task : Taken P) : Type 0 where
    pub cell : Cell P T W
    pub found : map.get table.cells task.id.number ≡ Some (record { slot = task.id.slot; cell = cell })
    pub future : cell.state ≡ Scheduled task.future
    pub cancelled : task.cancelled ≡ cell.cancelled

-- take_global
module _ {P T W : Type 0} where
  abbrev pub take_first : Table P T W → List ℕ → Table P T W
  take_first table [] = table
  take_first table (n ∷ rest) = record (with_taken table n) { global = rest }

  abbrev pub after_take : Table P T W → Table P T W
  after_take table = take_first table table.global

  -- the task stood at the front, before these
  pub record TakesFront (table : Table P T W) (rest : List ℕ) (task : Taken P) : Type 0 where
    pub taken : IsTaken table task
    pub front : table.global ≡ task.id.number ∷ rest

-- search
module _ {P T W : Type 0} where
  abbrev pub with_queues : QueueLists ℕ → Table P T W → Table P T W
  with_queues q table = record table { global = q.global; locals = q.locals }

  abbrev pub search_to : Option ℕ × QueueLists ℕ → Table P T W → Table P T W
  search_to (None, q) table = with_queues q table
  search_to (Some n, q) table = with_queues q (with_taken table n)

  -- what the runner's search with this word finds, and the queues after it
  abbrev pub search_in : Table P T W → ℕ → ℕ → Option ℕ × QueueLists ℕ
  search_in table k word = search k word (queues_of table)

  abbrev pub after_search : Table P T W → ℕ → ℕ → Table P T W
  after_search table k word = search_to (search_in table k word) table

  -- the task is the one that the search finds
  pub record TakesFound (table : Table P T W) (k word : ℕ) (task : Taken P) : Type 0 where
    pub taken : IsTaken table task
    pub found : (search_in table k word).0 ≡ Some task.id.number

-- take_any
module _ {P T W : Type 0} where
  -- what a search of any queue finds, and the queues after it
  abbrev pub any_in : Table P T W → Option ℕ × QueueLists ℕ
  any_in table = search_any (queues_of table)

  abbrev pub after_take_any : Table P T W → Table P T W
  after_take_any table = search_to (any_in table) table

  -- the task is the one that it finds
  pub record TakesAny (table : Table P T W) (task : Taken P) : Type 0 where
    pub taken : IsTaken table task
    pub found : (any_in table).0 ≡ Some task.id.number

-- the other calls of a runner
module _ {P T W : Type 0} where
  abbrev pub after_fair : Table P T W → ℕ → Table P T W
  after_fair table k = with_queues (fair k (queues_of table)) table

  abbrev pub after_reserve_runner : Table P T W → Table P T W
  after_reserve_runner table = record table { next_runner = table.next_runner + 1; free_places = table.free_places + 1 }

  -- a free place goes, unless the runner is registered
  abbrev pub after_release_runner : Table P T W → ℕ → Table P T W
  after_release_runner table k = cond (is_registered k table.locals) table (record table { free_places = table.free_places - 1 })

  -- a reserved place is free, and the runner is not registered
  abbrev pub may_register : Table P T W → ℕ → Bool
  may_register table k = nat_lt 0 table.free_places && not (is_registered k table.locals)

  abbrev pub after_register : Table P T W → ℕ → ℕ → Table P T W
  after_register table k capacity = with_queues (registered k capacity (queues_of table)) (record table { free_places = table.free_places - 1 })

  abbrev pub after_unregister : Table P T W → ℕ → Table P T W
  after_unregister table k = with_queues (unregistered k (queues_of table)) table

  -- its queue has entries
  abbrev pub unregister_queues : Table P T W → ℕ → Bool
  unregister_queues table k = nat_lt 0 (length (entries_of k table.locals))

-- end_pending
module _ {P T W : Type 0} where
  abbrev pub end_pending_at : Table P T W → TaskId → P → Option (Cell P T W) → Table P T W
  end_pending_at table id p None = table
  end_pending_at table id p (Some c) = cond (takes_back c) (queued_if c.woken (with_cell table id (pended c p)) id) table

  abbrev pub after_end_pending : Table P T W → TaskId → P → Table P T W
  after_end_pending table id p = end_pending_at table id p (cell_at table id)

  -- either the future goes back, with a notice if its task was woken, or it comes back to be dropped
  abbrev pub EndsPending : Table P T W → Held → P → EndPending P → Type 0
  EndsPending table held p (Back notice) = (takes_back_in (cell_at table held.id) ≡ true) × (is_some notice ≡ woken_in (cell_at table held.id))
  EndsPending table held p (Drop q again) = (takes_back_in (cell_at table held.id) ≡ false) × (q ≡ p) × (again ≡ record { id = held.id; to_drop = true })

-- end_ready
module _ {P T W : Type 0} where
  abbrev pub end_ready_at : Table P T W → TaskId → T → Option (Cell P T W) → Table P T W
  end_ready_at table id t None = table
  end_ready_at table id t (Some c) = cond (is_held c.state) (cond c.has_handle (with_cell table id (readied c t)) (without_cell table id)) table

  abbrev pub after_end_ready : Table P T W → TaskId → T → Table P T W
  after_end_ready table id t = end_ready_at table id t (cell_at table id)

  -- the awaiter comes out, and so does an output that no handle is to give
  abbrev pub ready_answer : T → Option (Cell P T W) → EndReady T W
  ready_answer t None = record { awaiter = None; unwanted = Some t }
  ready_answer t (Some c) = cond (is_held c.state) (record { awaiter = wakeup_of c.awaiter; unwanted = cond (c.has_handle && not c.cancelled) None (Some t) }) (record { awaiter = None; unwanted = Some t })

-- poll_handle
abbrev pub ended_answer : {T W : Type 0} → W → Option T → PollHandle T W
ended_answer w None = Cancelled w
ended_answer w (Some t) = Output t w

module _ {P T W : Type 0} where
  abbrev pub poll_handle_at : Table P T W → TaskId → W → Option (Cell P T W) → Table P T W
  poll_handle_at table id w None = table
  poll_handle_at table id w (Some c) = cond c.has_handle (cond (is_undropped c.state) (with_cell table id (awaited c w)) (without_cell table id)) table

  abbrev pub after_poll_handle : Table P T W → TaskId → W → Table P T W
  after_poll_handle table id w = poll_handle_at table id w (cell_at table id)

  abbrev pub poll_answer : W → Option (Cell P T W) → PollHandle T W
  poll_answer w None = Cancelled w
  poll_answer w (Some c) = cond c.has_handle (cond (is_undropped c.state) (Pending c.awaiter) (ended_answer w (output_of c.state))) (Cancelled w)

-- cancel
module _ {P T W : Type 0} where
  abbrev pub cancel_at : Table P T W → TaskId → Option (Cell P T W) → Table P T W
  cancel_at table id None = table
  cancel_at table id (Some c) = cond c.has_handle (queued_if (is_idle c.state) (with_cell table id (cancelled_cell c)) id) table

  abbrev pub after_cancel : Table P T W → TaskId → Table P T W
  after_cancel table id = cancel_at table id (cell_at table id)

  -- a cancel queues the task
  abbrev pub cancel_queues : Table P T W → TaskId → Bool
  cancel_queues table id = passes (λ c. c.has_handle && is_idle c.state) (cell_at table id)

-- detach
module _ {P T W : Type 0} where
  abbrev pub detach_at : Table P T W → TaskId → Option (Cell P T W) → Table P T W
  detach_at table id None = table
  detach_at table id (Some c) = cond c.has_handle (cond (is_undropped c.state) (with_cell table id (detached c)) (without_cell table id)) table

  abbrev pub after_detach : Table P T W → TaskId → Table P T W
  after_detach table id = detach_at table id (cell_at table id)

  -- an output that nobody asked for comes out, and so does the awaiter
  abbrev pub detach_answer : Option (Cell P T W) → Option T × Option W
  detach_answer None = (None, None)
  detach_answer (Some c) = cond c.has_handle (output_of c.state, c.awaiter) (None, None)

-- is_finished
module _ {P T W : Type 0} where
  -- a task without a cell is finished
  abbrev pub finished_in : Option (Cell P T W) → Bool
  finished_in None = true
  finished_in (Some c) = is_finished_state c.cancelled c.state

-- end_dropped
module _ {P T W : Type 0} where
  abbrev pub end_dropped_at : Table P T W → TaskId → Option (Cell P T W) → Table P T W
  end_dropped_at table id None = table
  end_dropped_at table id (Some c) = cond (is_held c.state) (cond c.has_handle (with_cell table id (disposed c)) (without_cell table id)) table

  abbrev pub after_end_dropped : Table P T W → TaskId → Table P T W
  after_end_dropped table id = end_dropped_at table id (cell_at table id)

  -- the awaiter comes out
  abbrev pub dropped_answer : Option (Cell P T W) → Option (Wakeup W)
  dropped_answer None = None
  dropped_answer (Some c) = cond (is_held c.state) (wakeup_of c.awaiter) None

-- all tasks at once: the numbers and cells of the map
module _ {P T W : Type 0} where
  -- the entry goes before the first of a higher slot
  abbrev pub insert_by_slot : ℕ × Slotted P T W → List (ℕ × Slotted P T W) → List (ℕ × Slotted P T W)
  insert_by_slot e [] = e ∷ []
  insert_by_slot e (f ∷ rest) = cond (nat_lt e.1.slot f.1.slot) (e ∷ f ∷ rest) (f ∷ insert_by_slot e rest)

  -- these entries by rising slot
  abbrev pub by_slot : List (ℕ × Slotted P T W) → List (ℕ × Slotted P T W)
  by_slot [] = []
  by_slot (e ∷ rest) = insert_by_slot e (by_slot rest)

  -- the numbers of the cells that pass the test, by rising slot
  abbrev pub rising : (Cell P T W → Bool) → map.FinMap nat_cmp (Slotted P T W) → List ℕ
  rising test cells = list_map (λ e. e.0) (filter (λ e. test e.1.cell) (by_slot (map.entries cells)))

  -- the idle tasks by rising slot
  abbrev pub rising_idle : Table P T W → List ℕ
  rising_idle table = rising (λ c. is_idle c.state) table.cells

  -- each cell changed so, in its slot
  abbrev pub each_changed : (Cell P T W → Cell P T W) → map.FinMap nat_cmp (Slotted P T W) → map.FinMap nat_cmp (Slotted P T W)
  each_changed change cells = map.from_entries (list_map (λ e. (e.0, record e.1 { cell = change e.1.cell })) (map.entries cells))

  -- no two cells have one slot
  abbrev pub SlotsDiffer : Table P T W → Type 0
  SlotsDiffer table = (n k : ℕ) (s t : Slotted P T W) → map.get table.cells n ≡ Some s → map.get table.cells k ≡ Some t → s.slot ≡ t.slot → n ≡ k

  -- of two numbers in the list, the later one has the higher slot
  abbrev pub SlotsRise : map.FinMap nat_cmp (Slotted P T W) → List ℕ → Type 0
  SlotsRise cells numbers = (i j n k : ℕ) (s t : Slotted P T W) → i < j → slice_get numbers i ≡ Some n → slice_get numbers j ≡ Some k → map.get cells n ≡ Some s → map.get cells k ≡ Some t → s.slot < t.slot

-- wake_all
module _ {P T W : Type 0} where
  -- every task is woken, and the idle ones go to the global end
  abbrev pub after_wake_all : Table P T W → Table P T W
  after_wake_all table = record table { cells = each_changed woken table.cells; global = table.global ++ rising_idle table }

  -- a task is idle
  abbrev pub wake_all_queues : Table P T W → Bool
  wake_all_queues table = nat_lt 0 (length (rising_idle table))

-- close
module _ {P T W : Type 0} where
  -- what goes to the global end: the idle tasks, and then what stands in the runners' queues
  abbrev pub closing : Table P T W → List ℕ
  closing table = rising_idle table ++ local_entries table.locals

  -- every task is cancelled, and all that is undropped and not held stands in the global queue
  abbrev pub after_close : Table P T W → Table P T W
  after_close table =
      record table {
        cells = each_changed cancelled_cell table.cells;
        global = table.global ++ closing table;
        locals = list_map emptied table.locals;
        closed = true;
      }

  -- the global queue grows
  abbrev pub close_queues : Table P T W → Bool
  close_queues table = nat_lt 0 (length (closing table))

-- drain_next
module _ {P T W : Type 0} where
  -- what may be drained: nothing before a close
  abbrev pub draining : Table P T W → List ℕ
  draining table = cond table.closed table.global []

  abbrev pub after_drain_next : Table P T W → Table P T W
  after_drain_next table = cond table.closed (after_take table) table
