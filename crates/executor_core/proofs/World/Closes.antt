-- The executor is closed, and then drained; or it is leaked.
use Rattle.std.proofs.Common.{◌≡◌, ◌≢◌, ℕ, zero, suc, ◌+◌, ◌<◌, ◌≤◌, ◌||◌, ◌&&◌, not, Bool, true, false, List, [], ◌∷◌, ◌++◌, length, map, Option, Some, None, is_some, cond, refl, sym, ap, subst, ◌∙◌, ◌⊎◌, inl, inr, append-nil, arith}
use Rattle.std.proofs.lemmas.Bool.{and_parts, not-true, lt-ltb, eq-eqb, true≢false, cond-true}
use Rattle.std.specs.Prelude.{nat_lt, slice_get, slice_set}
use Rattle.std.specs.List.{list_any, range_with_len}
use Rattle.std.specs.FinMap as fin_map
use Rattle.std.specs.Vec.{vec_capacity}
use Rattle.executor_core.specs.Cells.{Table}
use Rattle.executor_core.specs.Cell.{is_undropped}
use Rattle.executor_core.specs.Cells.Calls.{rising, rising_idle, SlotsDiffer, closing as closing_cells, after_close, close_queues, after_wake_all, wake_all_queues, draining, after_drain_next, after_take, take_first, with_taken, IsTaken, TakesFront}
use Rattle.executor_core.specs.Queues.{RunnerQueue, local_entries, emptied}
use Rattle.executor_core.specs.Ring.{IdRing}
use Rattle.executor_core.specs.World.{Execution}
use Rattle.executor_core.specs.World.Agreement.{status, Agree}
use Rattle.executor_core.specs.World.Closing.{AllMarked}
use Rattle.executor_core.specs.World.Entries.{infos, is_out, out_entry}
use Rattle.executor_core.specs.World.Log.{spawned, dropped, cancelled, held}
use Rattle.executor_core.specs.World.Promises.{NoNoticeLost, holds}
use Rattle.executor_core.specs.World.Runners.{RunnersTied}
use Rattle.executor_core.specs.World.Steps.{row, counted, purpose_of, take_reply, taking, notice_reply, some_held, some_busy, closing, may_close, close_row, leak_row, ByRisingSlot, drain_row}
use Rattle.executor_core.specs.World.Phases.{at_rest, is_over, in_store, is_run, needs_queue, notices_in, ticker_or}
use Rattle.executor_core.specs.World.Tickers.{is_new_run, forgotten}
use Rattle.executor_core.specs.World.View.{execution_of, IsWorld, HasRoom}
use Rattle.executor_core.proofs.RisingLemmas.{passing}
use Rattle.executor_core.proofs.World.Agreement.{out_is}
use Rattle.executor_core.proofs.World.Entries.{length-infos}
use Rattle.executor_core.proofs.World.Forgotten.{forgotten_same, forgotten_over, length-forgotten, sum_by-forgotten, count_by-forgotten, was_ticker, tied_forgotten, stores_forgotten}
use Rattle.executor_core.proofs.World.AllTasks.{undropped_ones, undropped_match, each_undropped, rising_slots, idle_ones, marked_log, marked_holds, all_cancelled}
use Rattle.executor_core.proofs.World.Marks.{waking, cancelling}
use Rattle.executor_core.proofs.World.Notices.{StayEmpty, notices_again, notices_forgotten}
use Rattle.executor_core.proofs.World.Polls.{took_task, taken_runners, cells_alone}
use Rattle.executor_core.proofs.World.Room.{room_again}
use Rattle.executor_core.proofs.World.Runners.{shapes, fixed_part, same_locals, same_closed, runners_shaped, runners_same}
use Rattle.executor_core.proofs.World.Steps.{stepped, Done, stepped_sound}
use Rattle.executor_core.proofs.World.Tickers.{known}
use Rattle.executor_core.specs.declared.task.polling.Taken.{Taken}
use Rattle.executor_core.specs.declared.plain_core.Core.{Core}
use Rattle.executor_core.specs.declared.interleave.World.TheInside.{Inside}
use Rattle.executor_core.specs.declared.interleave.entry.TaskEntry.{TaskEntry}
use Rattle.executor_core.specs.declared.interleave.event.Event.{Event}
use Rattle.executor_core.specs.declared.interleave.event.Event.TheVariants.{Took, Woken, Cancelled}
use Rattle.executor_core.specs.declared.interleave.reply.Reply.{Reply}
use Rattle.executor_core.specs.declared.interleave.reply.Reply.TheVariants as reply
use Rattle.executor_core.specs.declared.interleave.ticker.Phase.{Phase}
use Rattle.executor_core.specs.declared.interleave.ticker.Ticker.{Ticker}

-- what has no item
nothing : (xs : List ℕ) → nat_lt 0 (length xs) ≡ false → xs ≡ []
nothing [] none = refl
nothing (x ∷ xs) none = absurd (true≢false (sym (lt-ltb 0 (length (x ∷ xs)) (omega arith)) ∙ none))

first_empty : (xs ys : List ℕ) → xs ++ ys ≡ [] → xs ≡ []
first_empty [] ys none = refl
first_empty (x ∷ xs) ys none = absurd (cc)

last_empty : (xs ys : List ℕ) → xs ++ ys ≡ [] → ys ≡ []
last_empty [] ys none = none
last_empty (x ∷ xs) ys none = absurd (cc)

emptied_entries : (locals : List (RunnerQueue ℕ)) → local_entries (map emptied locals) ≡ []
emptied_entries [] = refl
emptied_entries (q ∷ qs) = emptied_entries qs

emptied_shapes : (locals : List (RunnerQueue ℕ)) → shapes (map emptied locals) ≡ shapes locals
emptied_shapes [] = refl
emptied_shapes (q ∷ qs) = ap (λ l. (q.runner, q.capacity) ∷ l) (emptied_shapes qs)

-- the runs stay tied once they are forgotten
runners_forgotten : {P T : Type 0} {local : ℕ} {tickers : List Ticker} {table : Table P T (Unit {0})} {rings : List (Option IdRing)} → RunnersTied local tickers table rings → RunnersTied local (map forgotten tickers) table rings
runners_forgotten {tickers = tickers} {table = table} {rings = rings} tied =
    record {
      roomy = tied.roomy;
      runners = tied.runners ∙ sym (count_by-forgotten is_run (λ t. refl) tickers);
      kept = tied.kept;
      runs = λ k t r at is.
          let u = was_ticker tickers k t at in
          let before = tied.runs k u.0 r u.1 (sym (ap (λ (t : Ticker). t.runner) u.2) ∙ is) in
          record {
            made = before.made;
            registered = λ needs. before.registered (sym (ap (λ (t : Ticker). needs_queue t.phase) u.2 ∙ forgotten_same needs_queue refl u.0.phase) ∙ needs);
            awake = λ fresh. ap (λ (t : Ticker). t.number) u.2 ∙ before.awake (sym (ap (is_new_run table.locals) u.2 ∙ new_same u.0) ∙ fresh);
            ring = λ fresh. before.ring (sym (ap (is_new_run table.locals) u.2 ∙ new_same u.0) ∙ fresh);
          };
      once = λ j k t u r at_j at_k is_t is_u.
          let b = was_ticker tickers j t at_j in
          let c = was_ticker tickers k u at_k in
          tied.once j k b.0 c.0 r b.1 c.1 (sym (ap (λ (t : Ticker). t.runner) b.2) ∙ is_t) (sym (ap (λ (t : Ticker). t.runner) c.2) ∙ is_u);
      queues = tied.queues;
      places = tied.places ∙ sym (count_by-forgotten (is_new_run table.locals) new_same tickers);
    }
  where
    new_same : (t : Ticker) → is_new_run table.locals (forgotten t) ≡ is_new_run table.locals t
    new_same t = forgotten_same (λ p. is_new_run table.locals (record t { phase = p })) refl t.phase

-- each ticker that is neither at rest nor over is busy
still_at : (tickers : List Ticker) (k : ℕ) (t : Ticker) → list_any (λ (t : Ticker). not (at_rest t.phase || is_over t.phase)) tickers ≡ false → slice_get tickers k ≡ Some t → not (at_rest t.phase || is_over t.phase) ≡ false
still_at [] k t none at = absurd (cc)
still_at (x ∷ xs) zero t none at = grind arith
still_at (x ∷ xs) (suc k) t none at = still_at xs k t (rest (not (at_rest x.phase || is_over x.phase)) _ none) at
  where
    rest : (a b : Bool) → a || b ≡ false → b ≡ false
    rest true b is = absurd (true≢false is)
    rest false b is = is

-- one that has the flag to store is busy
store_busy : (p : Phase) → in_store p ≡ true → not (at_rest p || is_over p) ≡ true
store_busy p storing = grind arith

-- some future is out if and only if some task is held
any-range : {X : Type 0} (f : X → Bool) (g : ℕ → Bool) (xs : List X) (first : ℕ) → ((i : ℕ) (x : X) → slice_get xs i ≡ Some x → f x ≡ g (first + i)) → list_any f xs ≡ list_any g (range_with_len first (length xs))
any-range f g [] first same = refl
any-range f g (x ∷ xs) first same =
    let at : first + 0 ≡ first = omega arith in
    let here : f x ≡ g first = same 0 x refl ∙ ap g at in
    λ i. here i || any-range f g xs (first + 1) (λ i y found. let next : first + suc i ≡ first + 1 + i = omega arith in same (suc i) y found ∙ ap g next) i

module _ {P T : Type 0} (a : Inside P T) (sound : IsWorld (execution_of a) a.core.cells a.entries.items a.rings.items (vec_capacity a.log)) {w : Execution T} (view : execution_of a ≡ w) where
  pub some_out_held : list_any (λ e. is_some e.out) a.entries.items ≡ some_held w
  some_out_held =
      any-range (λ e. is_some e.out) (λ n. held n a.log.items) a.entries.items 0 (λ n e found. let same : n ≡ 0 + n = omega arith in sym (ap (λ (o : Option (TaskEntry P)). is_out o) found) ∙ out_is sound.agree n ∙ ap (λ k. held k a.log.items) same)
      ∙ ap (λ k. list_any (λ n. held n a.log.items) (range_with_len 0 k)) (sym (length-infos a.entries.items)) ∙ ap some_held view

module _ {P T : Type 0} (a : Inside P T) (sound : IsWorld (execution_of a) a.core.cells a.entries.items a.rings.items (vec_capacity a.log)) {w : Execution T} (view : execution_of a ≡ w) (far : w.accepted ≢ w.limit) where
  -- it may be closed, or leaked
  module _ (enabled : may_close w ≡ true) where
    parts : (not w.closed && not w.leaked && not (some_held w) ≡ true) × (not (some_busy w) ≡ true)
    parts = and_parts (not w.closed && not w.leaked && not (some_held w)) (not (some_busy w)) enabled

    neither_yet : (not w.closed ≡ true) × (not w.leaked ≡ true)
    neither_yet = and_parts (not w.closed) (not w.leaked) (and_parts (not w.closed && not w.leaked) (not (some_held w)) parts.0).0

    was_open : a.core.cells.closed ≡ false
    was_open = ap (λ (w : Execution T). w.closed) view ∙ not-true w.closed neither_yet.0

    was_kept : a.leaked ≡ false
    was_kept = ap (λ (w : Execution T). w.leaked) view ∙ not-true w.leaked neither_yet.1

    none_busy : some_busy (execution_of a) ≡ false
    none_busy = ap some_busy view ∙ not-true (some_busy w) parts.1

    nobody_stores : a.holder ≡ None
    nobody_stores = by_holder a.holder refl
      where
        by_holder : (h : Option ℕ) → a.holder ≡ h → a.holder ≡ None
        by_holder None is = is
        by_holder (Some k) is =
            let storing : in_store (ticker_or (slice_get a.tickers.items k)).phase ≡ true = sound.tickers.stores k ∙ ap (holds k) is ∙ eq-eqb k k refl in
            absurd (true≢false (sym (store_busy _ storing) ∙ still_at a.tickers.items k _ none_busy (known in_store refl (slice_get a.tickers.items k) storing)))

    -- there is room for an event for each task
    pub room_for_each : length a.log.items + a.core.cells.next ≤ vec_capacity a.log
    room_for_each = grind (arith, was_open, was_kept, length-infos)

    -- the world once each task is marked, and these went to the global end
    abbrev all_marked : Table P T (Unit {0}) → List (Event T) → List ℕ → Bool → Execution T
    all_marked table log moved leaked =
        record (stepped a (a.accepted + 1) (record a.core { cells = table }) log a.entries.items (cond (nat_lt 0 (length moved)) (a.notices + 1) a.notices) a.picks) { tickers = map forgotten a.tickers.items; leaked = leaked }

    module _ {table : Table P T (Unit {0})} {log : List (Event T)} (agree : Agree table log a.entries.items) (moved : List ℕ) (global : table.global ≡ a.core.cells.global ++ moved) (locals : local_entries a.core.cells.locals ≡ [] → local_entries table.locals ≡ []) (leaked : Bool) where
      marked_notices : NoNoticeLost (all_marked table log moved leaked)
      marked_notices = notices_again (notices_forgotten (execution_of a) sound.notices nobody_stores) refl refl refl refl refl (by_queues (nat_lt 0 (length moved)) refl)
        where
          by_queues : (b : Bool) → nat_lt 0 (length moved) ≡ b → (0 < cond b (a.notices + 1) a.notices) ⊎ (StayEmpty (record (execution_of a) { tickers = map forgotten a.tickers.items }) (all_marked table log moved leaked) × (cond b (a.notices + 1) a.notices ≡ a.notices))
          by_queues true is = inl (omega arith)
          by_queues false is =
              let same : table.global ≡ a.core.cells.global = global ∙ ap (λ l. a.core.cells.global ++ l) (nothing moved is) ∙ append-nil a.core.cells.global in
              inr (
                record {
                  global = λ empty. same ∙ empty;
                  all = λ empty. ap (λ l. l ++ table.global) (locals (first_empty (local_entries a.core.cells.locals) a.core.cells.global empty)) ∙ same ∙ last_empty (local_entries a.core.cells.locals) a.core.cells.global empty;
                },
                refl,
              )

      marked_room : (table.closed ≡ false → leaked ≡ false → ⊥) → length log ≤ length a.log.items + a.core.cells.next → HasRoom (all_marked table log moved leaked) (vec_capacity a.log)
      marked_room over few =
          let has = sound.room in
          let other : a.accepted ≢ a.limit = rw (← view) at far in
          let h1 = has.within in
          let h2 = has.bounded in
          let h3 = has.few_unspent in
          let h4 = has.few_tasks in
          let h5 = has.few_before was_open was_kept in
          let h6 = has.few_tickers in
          let h7 = has.enough in
          let known = sound.agree.next in
          let as_many = length-infos a.entries.items in
          let kept = sum_by-forgotten (λ p. notices_in p) refl a.tickers.items in
          let more = one_more (nat_lt 0 (length moved)) a.notices in
          let tickers = length-forgotten a.tickers.items in
          record {
            within = omega arith;
            bounded = h2;
            few_unspent = omega arith;
            few_tasks = omega arith;
            few_events = omega arith;
            few_before = λ unclosed unleaked. absurd (over unclosed unleaked);
            few_tickers = omega arith;
            enough = h7;
          }
        where
          one_more : (b : Bool) (n : ℕ) → cond b (n + 1) n ≤ n + 1
          one_more true n = omega arith
          one_more false n = omega arith

      pub marked_sound : (table.closed ≡ false → leaked ≡ false → ⊥) → length log ≤ length a.log.items + a.core.cells.next → shapes table.locals ≡ shapes a.core.cells.locals → table.next_runner ≡ a.core.cells.next_runner → table.free_places ≡ a.core.cells.free_places
          → (table.closed ≡ true → (local_entries table.locals ≡ []) × AllMarked log) → IsWorld (all_marked table log moved leaked) table a.entries.items a.rings.items (vec_capacity a.log)
      marked_sound over few same runners places closes =
          record {
            agree = agree;
            notices = marked_notices;
            tickers = record { tied = tied_forgotten sound.tickers.tied; stores = stores_forgotten a.holder a.tickers.items sound.tickers.stores; opened = sound.tickers.opened };
            runners = runners_shaped (runners_forgotten sound.runners) same runners places;
            closing = λ on. record {
              over = λ k t at. let u = was_ticker a.tickers.items k t at in ap (λ (t : Ticker). is_over t.phase) u.2 ∙ forgotten_over u.0.phase (still_at a.tickers.items k u.0 none_busy u.1);
              emptied = (closes on).0;
              marked = (closes on).1;
            };
            room = marked_room over few;
          }

    -- what the walk over the slots leaves is that of the tasks by rising slot
    by_rising_slot : SlotsDiffer a.core.cells → (does : List ℕ → Execution T → Reply T × Execution T) {answer : Reply T} {later : Execution T} → row (does (undropped_ones sound.agree) (execution_of a)) answer later → ByRisingSlot does (execution_of a) answer later
    by_rising_slot differ does is = (undropped_ones sound.agree, record { each = each_undropped sound.agree; rises = rising_slots sound.agree differ }, is)

    pub close_done : SlotsDiffer a.core.cells → {core : Core P T (Unit {0})} → core ≡ record a.core { cells = after_close a.core.cells } → {log : List (Event T)} → log ≡ a.log.items ++ map (λ n. Cancelled n) (rising (λ c. is_undropped c.state) a.core.cells.cells) → length log ≤ length a.log.items + a.core.cells.next
        → {tickers : List Ticker} → tickers ≡ map forgotten a.tickers.items → {queues kept : Bool} {notices : ℕ} → queues ≡ close_queues a.core.cells → notices ≡ cond queues (a.notices + 1) a.notices → kept ≡ queues → {room : ℕ} → room ≡ vec_capacity a.log → {answer : Reply T} → answer ≡ notice_reply kept
        → IsWorld (record (stepped a (a.accepted + 1) core log a.entries.items notices a.picks) { tickers = tickers }) core.cells a.entries.items a.rings.items room × ByRisingSlot close_row w answer (record (stepped a (a.accepted + 1) core log a.entries.items notices a.picks) { tickers = tickers })
    close_done differ core_is {log} log_is few tickers_are queues_is noticed keeps capacity answers =
        let moved : closing (undropped_ones sound.agree) (execution_of a) ≡ closing_cells a.core.cells = ap (λ l. l ++ local_entries a.core.cells.locals) (idle_ones sound.agree) in
        let few : length (marked_log sound.agree cancelling) ≤ length a.log.items + a.core.cells.next = subst (λ (l : List (Event T)). length l ≤ length a.log.items + a.core.cells.next) log_is few in
        rw (← view, core_is, log_is, tickers_are, answers, keeps, noticed, queues_is, capacity) (
          marked_sound {table = after_close a.core.cells} (marked_holds sound.agree cancelling refl refl) (closing_cells a.core.cells) refl (λ _. emptied_entries a.core.cells.locals) a.leaked (λ unclosed _. true≢false unclosed) few (emptied_shapes a.core.cells.locals) refl refl
              (λ _. (emptied_entries a.core.cells.locals, all_cancelled sound.agree)),
          by_rising_slot differ close_row (rw moved (refl, refl)),
        )

    pub leak_done : SlotsDiffer a.core.cells → {core : Core P T (Unit {0})} → core ≡ record a.core { cells = after_wake_all a.core.cells } → {log : List (Event T)} → log ≡ a.log.items ++ map (λ n. Woken n) (rising (λ c. is_undropped c.state) a.core.cells.cells) → length log ≤ length a.log.items + a.core.cells.next
        → {tickers : List Ticker} → tickers ≡ map forgotten a.tickers.items → {queues kept : Bool} {notices : ℕ} → queues ≡ wake_all_queues a.core.cells → notices ≡ cond queues (a.notices + 1) a.notices → kept ≡ queues → {room : ℕ} → room ≡ vec_capacity a.log → {answer : Reply T} → answer ≡ notice_reply kept
        → IsWorld (record (stepped a (a.accepted + 1) core log a.entries.items notices a.picks) { tickers = tickers; leaked = true }) core.cells a.entries.items a.rings.items room × ByRisingSlot leak_row w answer (record (stepped a (a.accepted + 1) core log a.entries.items notices a.picks) { tickers = tickers; leaked = true })
    leak_done differ core_is {log} log_is few tickers_are queues_is noticed keeps capacity answers =
        let few : length (marked_log sound.agree waking) ≤ length a.log.items + a.core.cells.next = subst (λ (l : List (Event T)). length l ≤ length a.log.items + a.core.cells.next) log_is few in
        rw (← view, core_is, log_is, tickers_are, answers, keeps, noticed, queues_is, capacity) (
          marked_sound {table = after_wake_all a.core.cells} (marked_holds sound.agree waking refl refl) (rising_idle a.core.cells) refl (λ empty. empty) true (λ _ unleaked. true≢false unleaked) few refl refl refl (λ on. absurd (true≢false (sym on ∙ was_open))),
          by_rising_slot differ leak_row (rw (idle_ones sound.agree) (refl, refl)),
        )

  -- a closed executor is drained
  module _ (closed : w.closed ≡ true) where
    was_closed : a.core.cells.closed ≡ true
    was_closed = ap (λ (w : Execution T). w.closed) view ∙ closed

    drains : after_drain_next a.core.cells ≡ after_take a.core.cells
    drains = cond-true a.core.cells.closed (after_take a.core.cells) a.core.cells was_closed

    pub drain_none : {core : Core P T (Unit {0})} → draining a.core.cells ≡ [] → core ≡ record a.core { cells = after_drain_next a.core.cells } → Done (stepped a (a.accepted + 1) core a.log.items a.entries.items a.notices a.picks) core.cells a.entries.items a.rings.items (vec_capacity a.log) (drain_row w.global w) reply.NoTask
    drain_none {core} none core_is =
        let empty : a.core.cells.global ≡ [] = sym (cond-true a.core.cells.closed a.core.cells.global [] was_closed) ∙ none in
        let same : core ≡ a.core = core_is ∙ ap (λ (t : Table P T (Unit {0})). record a.core { cells = t }) (drains ∙ ap (take_first a.core.cells) empty) in
        let far = rw (← view) at far in
        rw (← view, same) (record {
          sound = stepped_sound a sound refl far false _ _ _ (λ _. refl) refl (omega arith) (omega arith) sound.agree (λ _ marked. marked);
          does = by_row a.core.cells.global empty;
        })
      where
        by_row : (queue : List ℕ) → queue ≡ [] → row (drain_row queue (execution_of a)) reply.NoTask (record (execution_of a) { accepted = a.accepted + 1 })
        by_row queue is = rw is (refl, refl)

    -- what is taken was cancelled
    taken_cancelled : {task : Taken P} → IsTaken a.core.cells task → cancelled task.id.number a.log.items ≡ true
    taken_cancelled {task} takes =
        let n = task.id.number in
        let alive = and_parts (spawned n a.log.items) (not (dropped n a.log.items)) (sym (undropped_match sound.agree (fin_map.get a.core.cells.cells n) (status n a.log.items) (slice_get a.entries.items n) (sound.agree.each n)) ∙ ap (passing (λ c. is_undropped c.state)) takes.found ∙ ap is_undropped takes.future) in
        sym (ap (λ b. b || cancelled n a.log.items) (not-true (dropped n a.log.items) alive.1)) ∙ (sound.closing was_closed).marked n alive.0

    pub drain_done : {task : Taken P} {core : Core P T (Unit {0})} → TakesFront a.core.cells core.cells.global task → core ≡ record a.core { cells = after_drain_next a.core.cells }
        → {entries : List (TaskEntry P)} → ((e : TaskEntry P) → slice_get a.entries.items task.id.number ≡ Some e → entries ≡ slice_set a.entries.items task.id.number (out_entry e task))
        → {log : List (Event T)} → log ≡ a.log.items ++ Took task.id.number (purpose_of task.cancelled) ∷ [] → {room : ℕ} → room ≡ vec_capacity a.log → {answer : Reply T} → answer ≡ take_reply task.id.number task.cancelled
        → Done (stepped a (a.accepted + 1) core log entries a.notices a.picks) core.cells entries a.rings.items room (drain_row w.global w) answer
    drain_done {task} {core} takes core_is {entries} entries_are {log} log_is capacity answers =
        let n = task.id.number in
        let room = rw (← view) at far in
        let core_now : core ≡ record a.core { cells = after_take a.core.cells } = core_is ∙ ap (λ (t : Table P T (Unit {0})). record a.core { cells = t }) drains in
        let cells_are : core.cells ≡ record (with_taken a.core.cells n) { global = core.cells.global } = ap (λ c. c.cells) core_now ∙ ap (take_first a.core.cells) takes.front in
        let fixed : fixed_part core.cells ≡ fixed_part a.core.cells = ap fixed_part cells_are ∙ taken_runners a sound view far a.core.cells n in
        let took = took_task a sound view far (record { global = core.cells.global; locals = (with_taken a.core.cells n).locals }) takes.taken cells_are entries_are log_is in
        let tasks = took.tasks in
        let events = took.events in
        let same = cells_alone a.core core (after_take a.core.cells) core_now in
        let drop : take_reply {T = T} n task.cancelled ≡ reply.Drop n = ap (λ b. take_reply {T = T} n b) (sym took.cancelled ∙ taken_cancelled takes.taken) in
        let queued : a.core.cells.global ≢ [] = λ none. absurd (cc (sym takes.front, none)) in
        rw (← view, same, capacity, answers, drop) (record {
          sound =
              record {
                agree = took.agree;
                notices = notices_again sound.notices refl refl refl refl refl (inr (record { global = λ none. absurd (queued none); all = λ none. absurd (queued (last_empty (local_entries a.core.cells.locals) a.core.cells.global none)) }, refl));
                tickers = sound.tickers;
                runners = runners_same sound.runners fixed;
                closing = λ _. let closed = sound.closing was_closed in record { over = closed.over; emptied = ap local_entries (same_locals fixed) ∙ closed.emptied; marked = took.marks closed.marked };
                room = room_again sound.room refl room _ refl refl (omega arith) (let before = length-infos a.entries.items in let after = length-infos entries in omega arith) (omega arith) (omega arith) (same_closed fixed) refl;
              };
          does = by_row a.core.cells.global takes.front took.world (same_locals fixed) (same_closed fixed);
        })
      where
        by_row : (queue : List ℕ) → queue ≡ task.id.number ∷ core.cells.global → record (execution_of a) { log = log; tasks = infos entries } ≡ taking task.id.number a.core.cells.global (execution_of a) → core.cells.locals ≡ a.core.cells.locals → core.cells.closed ≡ a.core.cells.closed
            → row (drain_row queue (execution_of a)) (reply.Drop task.id.number) (record (execution_of a) { log = log; accepted = a.accepted + 1; global = core.cells.global; locals = core.cells.locals; tasks = infos entries; closed = core.cells.closed })
        by_row queue front world locals shut = rw (front, locals, shut) (refl, ap (λ (x : Execution T). counted (record x { global = core.cells.global })) world)
