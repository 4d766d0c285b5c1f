-- Which step a world takes at a request, row by row.
use Rattle.std.specs.Prelude.{◌≡◌, ◌≢◌, ◌⊎◌, ℕ, ◌+◌, ◌-◌, ◌<◌, nat_lt, map, is_some, Bool, true, false, count_by, List, [], ◌∷◌, ◌++◌, length, Option, Some, None, cond, ◌&&◌, ◌||◌, not, slice_get, slice_set}
use Rattle.executor_core.specs.World.Log.{spawned, dropped, cancelled, held, woken, idle, outputs}
use Rattle.std.specs.List.{list_any, filter, range_with_len}
use Rattle.std.specs.Map.{keys_of}
use Rattle.executor_core.specs.Numbers.{times}
use Rattle.executor_core.specs.World.{Execution}
use Rattle.executor_core.specs.World.Promises.{queues, floating_notices, holds}
use Rattle.executor_core.specs.Sleepers.{is_notified, is_notified_number}
use Rattle.executor_core.specs.Sleepers.Calls.{no_sleepers, closed, last_of, all_unnotified, after_notify, after_reserve, after_release, next_number, after_insert, after_update, after_remove}
use Rattle.executor_core.specs.World.Phases.{at_rest, in_search, in_sleep, in_wake, has_ended, is_over, notices_in, ticker_or, is_awake, is_run, new_ticker}
use Rattle.executor_core.specs.World.Tickers.{runner_of, has_queue, may_register, may_search, may_go, polled, searched, slept, rested, woke, dropped as dropped_ticker, ended, stored, left, forgotten}
use Rattle.executor_core.specs.Queues.{QueueLists, search_global, search, search_any, fair, fair_count, registered, unregistered, entries_of, local_entries, emptied}
use Rattle.executor_core.specs.declared.interleave.entry.TaskInfo.{TaskInfo}
use Rattle.executor_core.specs.declared.interleave.ticker.Ticker.{Ticker}
use Rattle.executor_core.specs.declared.interleave.event.Purpose.{Purpose}
use Rattle.executor_core.specs.declared.interleave.event.Purpose.TheVariants.{ToPoll, ToDrop}
use Rattle.executor_core.specs.declared.interleave.event.Event.{Event}
use Rattle.executor_core.specs.declared.interleave.event.Event.TheVariants.{Spawned, Woken, Cancelled, Took, Returned, Finished, Dropped, Got}
use Rattle.executor_core.specs.declared.interleave.request.Step.{Step}
use Rattle.executor_core.specs.declared.interleave.request.Step.TheVariants.{Spawn, Wake, TryTick, TryAny, Pend, Ready, PollHandle, Cancel, Detach, DropHandle, Dropped as DropDone, Exchange, Notify, Tick, Run, Register, Poll, Search, Sleep, Yield, Remove, Store, Fair, Unregister, Drop, Close, Drain, Leak}
use Rattle.executor_core.specs.declared.interleave.reply.Reply.{Reply}
use Rattle.executor_core.specs.declared.interleave.reply.Reply.TheVariants as reply

-- what is known of a task, and of one that was not spawned
abbrev pub no_info : TaskInfo
no_info = record { slot = 0; has_handle = false; awaited = false; to_drop = false }

abbrev pub info_or : Option TaskInfo → TaskInfo
info_or None = no_info
info_or (Some i) = i

-- what is known of a new task
abbrev pub new_info : ℕ → TaskInfo
new_info slot = record { slot = slot; has_handle = true; awaited = false; to_drop = false }

-- a world before its first step, by how many it takes and the places of a run's own queue
abbrev pub opening : {T : Type 0} → ℕ → ℕ → Execution T
opening limit local = record { log = []; accepted = 0; limit = limit; local = local; global = []; locals = []; notices = 0; picks = 0; flag = true; sleepers = no_sleepers; tasks = []; tickers = []; holder = None; closed = false; leaked = false }

-- what a task is taken for
abbrev pub purpose_of : Bool → Purpose
purpose_of cancelled = cond cancelled ToDrop ToPoll

-- the words of the rows
module _ {T : Type 0} where
  abbrev pub info : ℕ → Execution T → TaskInfo
  info n w = info_or (slice_get w.tasks n)

  abbrev pub logged : Event T → Execution T → Execution T
  logged e w = record w { log = w.log ++ e ∷ [] }

  abbrev pub noticed : Execution T → Execution T
  noticed w = record w { notices = w.notices + 1 }

  abbrev pub noticed_where : Bool → Execution T → Execution T
  noticed_where b w = record w { notices = cond b (w.notices + 1) w.notices }

  -- the event is logged if this holds
  abbrev pub logged_where : Bool → Event T → Execution T → Execution T
  logged_where b e w = record w { log = cond b (w.log ++ e ∷ []) w.log }

  -- the number goes to the global end, and a notice is out, if this holds
  abbrev pub queued_where : Bool → ℕ → Execution T → Execution T
  queued_where b n w = record w { global = cond b (w.global ++ n ∷ []) w.global; notices = cond b (w.notices + 1) w.notices }

  abbrev pub informed : ℕ → TaskInfo → Execution T → Execution T
  informed n i w = record w { tasks = slice_set w.tasks n i }

  abbrev pub with_queues : QueueLists ℕ → Execution T → Execution T
  with_queues q w = record w { global = q.global; locals = q.locals }

  abbrev pub counted : Execution T → Execution T
  counted w = record w { accepted = w.accepted + 1 }

-- the rows: from the world before to the reply and the world after
module _ {T : Type 0} where
  -- spawn: the next number gets a slot and stands at the global end
  abbrev pub spawn_row : ℕ → Execution T → Execution T
  spawn_row slot w =
      queued_where true (length w.tasks) (logged (Spawned (length w.tasks)) (record w { tasks = w.tasks ++ new_info slot ∷ [] }))

  -- whether a task was queued
  abbrev pub notice_reply : Bool → Reply T
  notice_reply noticed = cond noticed reply.Notice reply.Nothing

  -- the event of a task that is cancelled, or woken
  abbrev pub mark_event : Bool → ℕ → Event T
  mark_event true n = Cancelled n
  mark_event false n = Woken n

  -- a task is marked so, unless its future was dropped, and an idle one is queued
  abbrev pub mark_row : Event T → ℕ → Execution T → Reply T × Execution T
  mark_row e n w = (notice_reply (idle n w.log), queued_where (idle n w.log) n (logged_where (not (dropped n w.log)) e w))

  -- wake n
  abbrev pub wake_row : ℕ → Execution T → Reply T × Execution T
  wake_row n w = mark_row (Woken n) n w

  -- cancel n
  abbrev pub cancel_row : ℕ → Execution T → Reply T × Execution T
  cancel_row n w = mark_row (Cancelled n) n w

  -- for what a task is taken, by whether it is cancelled
  abbrev pub take_reply : ℕ → Bool → Reply T
  take_reply n cancelled = cond cancelled (reply.Drop n) (reply.Poll n)

  -- the front of the global queue is taken, before these
  abbrev pub taking : ℕ → List ℕ → Execution T → Execution T
  taking n rest w =
      let cancel = cancelled n w.log in
      logged (Took n (purpose_of cancel)) (informed n (record (info n w) { to_drop = cancel }) (record w { global = rest }))

  -- trytick: the front of the global queue is taken
  abbrev pub take_row : List ℕ → Execution T → Reply T × Execution T
  take_row [] w = (reply.NoTask, w)
  take_row (n ∷ rest) w = (take_reply n (cancelled n w.log), noticed (taking n rest w))

  -- tryany: the front of the first queue in which something stands is taken, the global one coming first
  abbrev pub take_any_row : Option ℕ × QueueLists ℕ → Execution T → Reply T × Execution T
  take_any_row (None, q) w = (reply.NoTask, w)
  take_any_row (Some n, q) w = (take_reply n (cancelled n w.log), noticed (with_queues q (taking n w.global w)))

  -- the reply for a future that went back, by whether its task was queued
  abbrev pub return_reply : ℕ → Bool → Reply T
  return_reply n noticed = cond noticed (reply.Queued n) (reply.Idle n)

  -- pend n: the future goes back, unless the task was cancelled
  abbrev pub pend_row : ℕ → Execution T → Reply T × Execution T
  pend_row n w =
      cond (cancelled n w.log) (reply.Drop n, informed n (record (info n w) { to_drop = true }) w)
      (return_reply n (woken n w.log), queued_where (woken n w.log) n (logged (Returned n) w))

  abbrev pub ready_reply : Bool → Option T → Reply T
  ready_reply awaiter None = reply.Finished awaiter
  ready_reply awaiter (Some t) = reply.Unwanted t awaiter

  -- ready n t: the future was dropped, and gave its output unless the task was cancelled
  abbrev pub ready_row : ℕ → T → Execution T → Reply T × Execution T
  ready_row n t w =
      let unawaited = informed n (record (info n w) { awaited = false }) w in
      let unwanted = cond ((info n w).has_handle && not (cancelled n w.log)) None (Some t) in
      (ready_reply (info n w).awaited unwanted, logged (Dropped n) (logged_where (not (cancelled n w.log)) (Finished n t) unawaited))

  -- dropped n: the future was dropped, and gave no output
  abbrev pub dropped_row : ℕ → Execution T → Reply T × Execution T
  dropped_row n w = (reply.Gone (info n w).awaited, logged (Dropped n) (informed n (record (info n w) { awaited = false }) w))

  -- pollhandle n: what the handle of a dropped task gives
  abbrev pub give_row : ℕ → List T → Execution T → Reply T × Execution T
  give_row n [] w = (reply.Cancelled, informed n (record (info n w) { has_handle = false }) w)
  give_row n (t ∷ _) w = (reply.Output t, logged (Got n t) (informed n (record (info n w) { has_handle = false }) w))

  abbrev pub handle_row : ℕ → Execution T → Reply T × Execution T
  handle_row n w =
      cond (dropped n w.log) (give_row n (outputs n w.log) w)
      (reply.Pending, informed n (record (info n w) { awaited = true }) w)

  abbrev pub output_reply : Option T → Reply T
  output_reply None = reply.Nothing
  output_reply (Some t) = reply.Output t

  -- detach n: the handle ends and is awaited no more, and the output of its task comes out
  abbrev pub detach_row : ℕ → Execution T → Reply T × Execution T
  detach_row n w = (output_reply (slice_get (outputs n w.log) 0), informed n (record (info n w) { has_handle = false; awaited = false }) w)

  -- the end of a handle that may leave a notice
  abbrev pub end_reply : Bool → Option T → Reply T
  end_reply noticed output = cond noticed reply.Notice (output_reply output)

  -- drophandle n: a cancel, and then a detach
  abbrev pub drop_handle_row : ℕ → Execution T → Reply T × Execution T
  drop_handle_row n w = (end_reply (idle n w.log) (slice_get (outputs n w.log) 0), (detach_row n (cancel_row n w).1).1)

  -- whether a pick is out
  abbrev pub pick_reply : Bool → Reply T
  pick_reply picked = cond picked reply.Pick reply.Nothing

  -- exchange: a notice is spent, and a pick is out if the flag was false
  abbrev pub exchange_row : Execution T → Reply T × Execution T
  exchange_row w = (pick_reply (not w.flag), record w { notices = w.notices - 1; flag = true; picks = cond (not w.flag) (w.picks + 1) w.picks })

  abbrev pub notify_reply : Option ℕ → Reply T
  notify_reply None = reply.Nobody
  notify_reply (Some i) = reply.Sleeper i

  -- whether the last sleeper, if there is one, was notified
  abbrev pub sleeper_reply : Bool → Option ℕ → Reply T
  sleeper_reply notified last = cond notified (notify_reply last) reply.Nobody

  -- notify: a pick is spent, and the one who went to sleep last is notified, unless somebody is already
  abbrev pub notify_row : Execution T → Reply T × Execution T
  notify_row w =
      (cond (all_unnotified w.sleepers) (notify_reply (last_of (keys_of w.sleepers.unnotified))) reply.Nobody, record w { picks = w.picks - 1; sleepers = after_notify w.sleepers })

-- the rows of a close and of a leak
module _ {T : Type 0} where
  -- a task is held
  abbrev pub some_held : Execution T → Bool
  some_held w = list_any (λ n. held n w.log) (range_with_len 0 (length w.tasks))

  -- a ticker is neither at rest nor over
  abbrev pub some_busy : Execution T → Bool
  some_busy w = list_any (λ t. not (at_rest t.phase || is_over t.phase)) w.tickers

  -- the executor may be closed, or leaked: it was neither yet, no task is held, and no ticker is busy
  abbrev pub may_close : Execution T → Bool
  may_close w = not w.closed && not w.leaked && not (some_held w) && not (some_busy w)

  -- the tasks whose future is not dropped, each once, by rising slot
  pub record IsRising (w : Execution T) (order : List ℕ) : Type 0 where
    pub each : (n : ℕ) → times n order ≡ cond (spawned n w.log && not (dropped n w.log)) 1 0
    pub rises : (i j n k : ℕ) → i < j → slice_get order i ≡ Some n → slice_get order j ≡ Some k → (info n w).slot < (info k w).slot

  -- the idle ones of these tasks
  abbrev pub idle_ones : List ℕ → Execution T → List ℕ
  idle_ones order w = filter (λ n. idle n w.log) order

  -- what goes to the global end: the idle tasks in this order, and then what stands in the runners' queues
  abbrev pub closing : List ℕ → Execution T → List ℕ
  closing order w = idle_ones order w ++ local_entries w.locals

  -- close: these are cancelled, in this order, and each ticker at rest is forgotten
  abbrev pub close_row : List ℕ → Execution T → Reply T × Execution T
  close_row order w =
      let some = nat_lt 0 (length (closing order w)) in
      (notice_reply some, noticed_where some (record w { log = w.log ++ map Cancelled order; global = w.global ++ closing order w; locals = map emptied w.locals; tickers = map forgotten w.tickers; closed = true }))

  -- leak: these are woken, in this order, the idle ones go to the global end, and each ticker at rest is forgotten
  abbrev pub leak_row : List ℕ → Execution T → Reply T × Execution T
  leak_row order w =
      let some = nat_lt 0 (length (idle_ones order w)) in
      (notice_reply some, noticed_where some (record w { log = w.log ++ map Woken order; global = w.global ++ idle_ones order w; tickers = map forgotten w.tickers; leaked = true }))

  -- drain: the front of the global queue is taken to be dropped
  abbrev pub drain_row : List ℕ → Execution T → Reply T × Execution T
  drain_row [] w = (reply.NoTask, w)
  drain_row (n ∷ rest) w = (reply.Drop n, taking n rest w)

-- what the ticker's search finds: a tick looks at the global queue, a run at its runner's own, then the global one, then the others
abbrev pub found_by : Option ℕ → ℕ → QueueLists ℕ → Option ℕ × QueueLists ℕ
found_by None word q = search_global q
found_by (Some r) word q = search r word q

-- the rows of the tickers
module _ {T : Type 0} where
  abbrev pub ticker : ℕ → Execution T → Ticker
  ticker k w = ticker_or (slice_get w.tickers k)

  -- this stands in the place of what was kept of the ticker
  abbrev pub with_ticker : ℕ → Ticker → Execution T → Execution T
  with_ticker k t w = record w { tickers = slice_set w.tickers k t }

  -- the ticker has ended, and its place is given back
  abbrev pub placed : Execution T → Execution T
  placed w = record w { sleepers = after_release w.sleepers }

  -- tick or run: a ticker with a place, at rest
  abbrev pub ticker_row : Option ℕ → Execution T → Execution T
  ticker_row runner w = record w { tickers = w.tickers ++ new_ticker runner ∷ []; sleepers = after_reserve w.sleepers }

  abbrev pub tick_row : Execution T → Execution T
  tick_row w = ticker_row None w

  -- the runners of the runs are numbered from 0
  abbrev pub run_row : Execution T → Execution T
  run_row w = ticker_row (Some (count_by is_run w.tickers)) w

  -- register k: an empty queue for its runner
  abbrev pub register_row : ℕ → Execution T → Reply T × Execution T
  register_row k w = (reply.Done, with_queues (registered (runner_of (ticker k w)) w.local (queues w)) w)

  -- fair k: half of the global queue goes to its own
  abbrev pub fair_row : ℕ → Execution T → Reply T × Execution T
  fair_row k w = let r = runner_of (ticker k w) in (reply.Moved (fair_count r (queues w)), with_queues (fair r (queues w)) w)

  -- unregister k: its queue goes to the global end, with a notice if it had something
  abbrev pub unregister_row : ℕ → Execution T → Reply T × Execution T
  unregister_row k w =
      let r = runner_of (ticker k w) in
      let some = nat_lt 0 (length (entries_of r w.locals)) in
      (notice_reply some, with_ticker k (left (ticker k w)) (noticed_where some (with_queues (unregistered r (queues w)) w)))

  -- poll k
  abbrev pub poll_row : ℕ → Execution T → Reply T × Execution T
  poll_row k w = (reply.Done, with_ticker k (polled (ticker k w)) w)

  -- search k: the notice of one that is awake floats, and a tick has ended then; another one keeps the notice
  abbrev pub placed_where : Bool → Execution T → Execution T
  placed_where b w = cond b (placed w) w

  abbrev pub found_row : Bool → ℕ → Execution T → Execution T
  found_row awake k w = with_ticker k (searched true (ticker k w)) (cond awake (placed_where (not (is_run (ticker k w))) (noticed w)) w)

  -- a task that was found is taken, and the queues are these then
  abbrev pub search_to_row : ℕ → Option ℕ × QueueLists ℕ → Execution T → Reply T × Execution T
  search_to_row k (None, q) w = (reply.NoTask, with_ticker k (searched false (ticker k w)) (with_queues q w))
  search_to_row k (Some n, q) w = (take_reply n (cancelled n w.log), found_row (is_awake (ticker k w)) k (with_queues q (taking n w.global w)))

  abbrev pub search_row : ℕ → ℕ → Execution T → Reply T × Execution T
  search_row k word w = search_to_row k (found_by (ticker k w).runner word (queues w)) w

  -- the lock of the sleepers is held by this ticker
  abbrev pub held_by : ℕ → Execution T → Execution T
  held_by k w = record w { holder = Some k }

  -- sleep k of one that is awake: it gets a number
  abbrev pub insert_row : ℕ → Execution T → Reply T × Execution T
  insert_row k w =
      let number = next_number w.sleepers in
      (reply.Number number, held_by k (with_ticker k (slept number (ticker k w)) (record w { sleepers = after_insert w.sleepers tt })))

  -- sleep k of one that has a number: it goes to sleep again if it was notified, and else sleeps on
  abbrev pub update_row : ℕ → Execution T → Reply T × Execution T
  update_row k w =
      let number = (ticker k w).number in
      let later = record w { sleepers = after_update w.sleepers number tt } in
      cond (is_notified_number w.sleepers number) (reply.Again, held_by k (with_ticker k (slept number (ticker k w)) later))
      (reply.Parked, with_ticker k (rested (ticker k w)) later)

  -- sleep k
  abbrev pub sleep_row : ℕ → Execution T → Reply T × Execution T
  sleep_row k w = cond (is_awake (ticker k w)) (insert_row k w) (update_row k w)

  -- yield k
  abbrev pub yield_row : ℕ → Execution T → Reply T × Execution T
  yield_row k w = (reply.Done, with_ticker k (rested (ticker k w)) w)

  -- whether the number that was removed was notified
  abbrev pub removed_reply : Bool → Reply T
  removed_reply notified = cond notified reply.Notified reply.Unnotified

  -- the ticker's number is removed, and this is kept of it
  abbrev pub removed_row : (Bool → Ticker → Ticker) → ℕ → Execution T → Reply T × Execution T
  removed_row change k w =
      let number = (ticker k w).number in
      let notified = is_notified_number w.sleepers number in
      (removed_reply notified, held_by k (with_ticker k (change notified (ticker k w)) (record w { sleepers = after_remove w.sleepers number })))

  -- remove k
  abbrev pub remove_row : ℕ → Execution T → Reply T × Execution T
  remove_row k w = removed_row woke k w

  -- drop k: one that is awake has ended
  abbrev pub drop_row : ℕ → Execution T → Reply T × Execution T
  drop_row k w = cond (is_awake (ticker k w)) (reply.Awake, placed (with_ticker k (ended (ticker k w)) w)) (removed_row dropped_ticker k w)

  -- store k: the flag gets what the list says, the lock is given up, and the ticker's notices float as one; one that has ended
  -- gives its place back
  abbrev pub store_row : ℕ → Execution T → Reply T × Execution T
  store_row k w =
      let later = with_ticker k (stored (ticker k w)) (record w { flag = is_notified w.sleepers; sleepers = closed w.sleepers; holder = None }) in
      (reply.Stored (is_notified w.sleepers), placed_where (has_ended (stored (ticker k w)).phase) (noticed_where (nat_lt 0 (notices_in (ticker k w).phase)) later))

-- what a step does
module _ {T : Type 0} where
  -- no task that is undropped or has its handle has this slot
  abbrev pub FreeSlot : Execution T → ℕ → Type 0
  FreeSlot w slot = (n : ℕ) (i : TaskInfo) → slice_get w.tasks n ≡ Some i → not (dropped n w.log) || i.has_handle ≡ true → i.slot ≢ slot

  -- memory was refused, or there is a new task in some free slot
  abbrev pub Spawns : Execution T → Reply T → Execution T → Type 0
  Spawns old answer new =
      ((answer ≡ reply.OutOfMemory) × (new ≡ old))
      ⊎ ((slot : ℕ) × FreeSlot old slot × (answer ≡ reply.Task (length old.tasks)) × (new ≡ counted (spawn_row slot old)))

  -- memory was refused, or there is a new ticker
  abbrev pub Makes : (Execution T → Execution T) → Execution T → Reply T → Execution T → Type 0
  Makes row old answer new =
      ((answer ≡ reply.OutOfMemory) × (new ≡ old))
      ⊎ ((answer ≡ reply.Ticker (length old.tickers)) × (new ≡ counted (row old)))

  abbrev pub row : Reply T × Execution T → Reply T → Execution T → Type 0
  row r answer new = (answer ≡ r.0) × (new ≡ counted r.1)

  -- the row of the tasks whose future is not dropped, by rising slot
  abbrev pub ByRisingSlot : (List ℕ → Execution T → Reply T × Execution T) → Execution T → Reply T → Execution T → Type 0
  ByRisingSlot does old answer new = (order : List ℕ) × IsRising old order × row (does order old) answer new

module _ {P T : Type 0} where
  -- the step is enabled
  abbrev pub enabled : Step P T → Execution T → Bool
  enabled (Spawn p) w = not w.closed
  enabled (Wake n) w = spawned n w.log
  enabled TryTick w = not w.closed
  enabled TryAny w = not w.closed
  enabled (Pend n) w = held n w.log && not (info n w).to_drop
  enabled (Ready n t) w = held n w.log && not (info n w).to_drop
  enabled (PollHandle n) w = (info n w).has_handle
  enabled (Cancel n) w = (info n w).has_handle
  enabled (Detach n) w = (info n w).has_handle
  enabled (DropHandle n) w = (info n w).has_handle
  enabled (DropDone n) w = held n w.log && (info n w).to_drop
  enabled Exchange w = nat_lt 0 (floating_notices w)
  enabled Notify w = nat_lt 0 w.picks && not (is_some w.holder)
  enabled Tick w = not w.closed
  enabled Run w = not w.closed
  enabled (Register k) w = may_register w.locals (ticker k w)
  enabled (Poll k) w = at_rest (ticker k w).phase && may_search w.locals (ticker k w)
  enabled (Search k word) w = in_search (ticker k w).phase
  enabled (Sleep k) w = in_sleep (ticker k w).phase && not (is_some w.holder)
  enabled (Yield k) w = in_sleep (ticker k w).phase
  enabled (Remove k) w = in_wake (ticker k w).phase && not (is_some w.holder)
  enabled (Store k) w = holds k w.holder
  enabled (Fair k) w = at_rest (ticker k w).phase && has_queue w.locals (ticker k w)
  enabled (Unregister k) w = at_rest (ticker k w).phase && has_queue w.locals (ticker k w)
  enabled (Drop k) w = may_go w.locals (ticker k w) && (is_awake (ticker k w) || not (is_some w.holder))
  enabled Close w = may_close w
  enabled Drain w = w.closed
  enabled Leak w = may_close w

  -- what an enabled step does
  abbrev pub Does : Step P T → Execution T → Reply T → Execution T → Type 0
  Does (Spawn p) old answer new = Spawns old answer new
  Does (Wake n) old answer new = row (wake_row n old) answer new
  Does TryTick old answer new = row (take_row old.global old) answer new
  Does TryAny old answer new = row (take_any_row (search_any (queues old)) old) answer new
  Does (Pend n) old answer new = row (pend_row n old) answer new
  Does (Ready n t) old answer new = row (ready_row n t old) answer new
  Does (PollHandle n) old answer new = row (handle_row n old) answer new
  Does (Cancel n) old answer new = row (cancel_row n old) answer new
  Does (Detach n) old answer new = row (detach_row n old) answer new
  Does (DropHandle n) old answer new = row (drop_handle_row n old) answer new
  Does (DropDone n) old answer new = row (dropped_row n old) answer new
  Does Exchange old answer new = row (exchange_row old) answer new
  Does Notify old answer new = row (notify_row old) answer new
  Does Tick old answer new = Makes tick_row old answer new
  Does Run old answer new = Makes run_row old answer new
  Does (Register k) old answer new = row (register_row k old) answer new
  Does (Poll k) old answer new = row (poll_row k old) answer new
  Does (Search k word) old answer new = row (search_row k word old) answer new
  Does (Sleep k) old answer new = row (sleep_row k old) answer new
  Does (Yield k) old answer new = row (yield_row k old) answer new
  Does (Remove k) old answer new = row (remove_row k old) answer new
  Does (Store k) old answer new = row (store_row k old) answer new
  Does (Fair k) old answer new = row (fair_row k old) answer new
  Does (Unregister k) old answer new = row (unregister_row k old) answer new
  Does (Drop k) old answer new = row (drop_row k old) answer new
  Does Close old answer new = ByRisingSlot close_row old answer new
  Does Drain old answer new = row (drain_row old.global old) answer new
  Does Leak old answer new = ByRisingSlot leak_row old answer new

  -- a step: refused if the log is full, else refused if it is not enabled, else done
  pub record StepTo (old : Execution T) (step : Step P T) (answer : Reply T) (new : Execution T) : Type 0 where
    pub full : old.accepted ≡ old.limit → (answer ≡ reply.LogFull) × (new ≡ old)
    pub not_now : old.accepted ≢ old.limit → enabled step old ≡ false → (answer ≡ reply.NotNow) × (new ≡ old)
    pub done : old.accepted ≢ old.limit → enabled step old ≡ true → Does step old answer new

-- these replies to these steps, one after another, by a relation that says what one step does
abbrev pub FoldTo : {W S R : Type 0} → (W → S → R → W → Type 0) → W → List S → List R → W → Type 0
FoldTo does old [] [] new = new ≡ old
FoldTo {W} does old (step ∷ steps) (answer ∷ answers) new = (mid : W) × does old step answer mid × FoldTo does mid steps answers new
FoldTo does old [] (answer ∷ answers) new = ⊥
FoldTo does old (step ∷ steps) [] new = ⊥

module _ {P T : Type 0} where
  -- these replies to these steps of a world
  abbrev pub RunTo : Execution T → List (Step P T) → List (Reply T) → Execution T → Type 0
  RunTo old steps answers new = FoldTo StepTo old steps answers new
