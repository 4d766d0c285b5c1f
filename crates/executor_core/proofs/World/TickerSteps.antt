-- A ticker takes a step.
use Rattle.std.proofs.Common.{◌≡◌, ◌≢◌, ℕ, ◌+◌, ◌-◌, ◌<◌, ◌≤◌, Bool, true, false, ◌||◌, ◌&&◌, not, cond, ◌⊎◌, inl, inr, List, [], ◌∷◌, ◌++◌, length, Option, Some, None, Ok, Err, is_some, refl, sym, ap, subst, ◌∙◌, arith}
use Rattle.std.proofs.lemmas.Bool.{cases_Bool, cases_lt, and_parts, not-true, eq-eqb, eqb-true, lt-ltb, le-ltb, ltb-true, or_left, or_right, or_cases, true≢false, false≢true, cond-true, cond-false}
use Rattle.std.proofs.lemmas.List.Sums.{count_by-le-length, sum_by_push}
use Rattle.std.specs.Prelude.{Result, nat_lt, ◌==◌, slice_get, slice_set}
use Rattle.std.specs.FinSet as set
use Rattle.std.specs.Vec.{vec_capacity}
use Rattle.executor_core.specs.Cells.{Table}
use Rattle.executor_core.specs.Cells.Calls.{IsTaken, with_taken, with_queues, search_to, after_reserve_runner}
use Rattle.executor_core.specs.Cells.Law.{queues_of}
use Rattle.executor_core.specs.Queues.{RunnerQueue, QueueLists, is_registered}
use Rattle.executor_core.specs.Ring.{IdRing}
use Rattle.executor_core.specs.SpawnError.{last_number}
use Rattle.executor_core.specs.Sleepers.{SleeperList, SleeperLaw, is_notified, is_notified_number, has_place}
use Rattle.executor_core.specs.Sleepers.Calls.{closed, after_reserve, after_release, next_number, inserted, after_insert, insert_answer, again, change_of, after_update, update_answer, after_remove}
use Rattle.executor_core.specs.World.{Execution}
use Rattle.executor_core.specs.World.Agreement.{Agree}
use Rattle.executor_core.specs.World.Promises.{kept_notices, notices_out, holds, holder_spends, FlagLaw, NoNoticeLost, NumbersTied, TickersTied}
use Rattle.executor_core.specs.World.Steps.{row, counted, noticed, taking, ticker, take_reply, purpose_of, with_ticker, with_queues as with_queues_row, found_by, found_row, search_to_row, placed, ticker_row, tick_row, run_row, poll_row, search_row, insert_row, update_row, yield_row, removed_reply, remove_row, store_row, drop_row, Makes}
use Rattle.executor_core.specs.World.Phases.{is_awake, is_run, is_over, waits as is_waiting, at_rest, in_search, in_sleep, in_wake, in_store, in_leaving, has_ended, gave_up, needs_queue, notices_in, has_to_search, ticker_or, new_ticker}
use Rattle.executor_core.specs.World.Tickers.{is_new_run, may_search, may_go, after_task, polled, searched, slept, rested, woke, dropped, ended, after_store, stored}
use Rattle.executor_core.specs.World.Entries.{infos, out_entry}
use Rattle.executor_core.specs.World.Runners.{new_ring, RunnersTied}
use Rattle.executor_core.specs.World.View.{execution_of, IsWorld}
use Rattle.executor_core.proofs.ListLemmas.{sum_by-at, length-push, length-slice_set}
use Rattle.executor_core.proofs.SleeperUseLemmas.{update_used, update_places, sleeps_on, sleeps_again, never_unknown, remove_len, still_notified}
use Rattle.executor_core.proofs.World.Notices.{same_queues, Covers, no_notice_lost, some_in_use, kept_is, covered_searching, covered_noticed, covered_empty, covered_tick, covered_quiet, flag_held, flag_stored, flag_quiet, notices_added}
use Rattle.executor_core.proofs.World.Agreement.{same_cells}
use Rattle.executor_core.proofs.World.Polls.{cells_alone, TookTask, took_task, taken_runners}
use Rattle.executor_core.proofs.World.Runners.{shapes, same_closed, runners_queued, runners_gone, runners_dropped, runners_shaped, runners_ticked, runners_run, new_awake, restless_not_new}
use Rattle.executor_core.proofs.World.Searches.{search_vain, front_vain, found_shapes}
use Rattle.executor_core.proofs.World.Entries.{length-infos}
use Rattle.executor_core.proofs.World.Room.{room_again}
use Rattle.executor_core.proofs.World.Steps.{stepped, Done}
use Rattle.executor_core.proofs.World.Tickers.{known, stores_same, stores_taken, stores_given, place_free, number_used, tied_phase, tied_ended, tied_inserted, tied_removed, tied_added, stores_added, reserve_release}
use Rattle.executor_core.specs.declared.task.values.Again.{Again}
use Rattle.executor_core.specs.declared.task.values.Change.{Change}
use Rattle.executor_core.specs.declared.task.polling.Taken.{Taken}
use Rattle.executor_core.specs.declared.sleepers.list.Update.TheVariants.{Asleep, WasNotified, Unknown}
use Rattle.executor_core.specs.declared.plain_core.Core.{Core}
use Rattle.executor_core.specs.declared.interleave.World.TheInside.{Inside}
use Rattle.executor_core.specs.declared.interleave.entry.TaskEntry.{TaskEntry}
use Rattle.executor_core.specs.declared.interleave.event.Event.{Event}
use Rattle.executor_core.specs.declared.interleave.event.Event.TheVariants.{Took}
use Rattle.executor_core.specs.declared.interleave.reply.Reply.{Reply}
use Rattle.executor_core.specs.declared.interleave.reply.Reply.TheVariants as reply
use Rattle.executor_core.specs.declared.interleave.ticker.ListChange.{ListChange}
use Rattle.executor_core.specs.declared.interleave.ticker.ListChange.TheVariants.{Slept, Woke, Dropped}
use Rattle.executor_core.specs.declared.interleave.ticker.Phase.{Phase}
use Rattle.executor_core.specs.declared.interleave.ticker.Phase.TheVariants.{Rest, Search, Sleep, Wake, Store, Ended}
use Rattle.executor_core.specs.declared.interleave.ticker.Ticker.{Ticker}

-- a phase that passes its test
pub is_rest : (p : Phase) → at_rest p ≡ true → p ≡ Rest
is_rest p h = grind arith

is_search : (p : Phase) → in_search p ≡ true → p ≡ Search
is_search p h = grind arith

is_sleep : (p : Phase) → in_sleep p ≡ true → p ≡ Sleep
is_sleep p h = grind arith

is_wake : (p : Phase) → in_wake p ≡ true → p ≡ Wake
is_wake p h = grind arith

is_ended : (p : Phase) → has_ended p ≡ true → p ≡ Ended
is_ended p h = grind arith

is_store : (p : Phase) → in_store p ≡ true → (change : ListChange) × (p ≡ Store change)
is_store p h = grind arith

-- one notice more floats, if some are kept
floating : (kept n : ℕ) → (cond (nat_lt 0 kept) (n + 1) n ≤ n + 1) × (cond (nat_lt 0 kept) (n + 1) n ≤ n + kept)
floating kept n = grind (arith, ltb-true)

-- a phase that keeps nothing and changes nothing
record IsQuiet (p : Phase) : Type 0 where
  pub stored : in_store p ≡ false
  pub ended : has_ended p ≡ false
  pub kept : notices_in p ≡ 0
  pub search : has_to_search p ≡ false
  pub over : is_over p ≡ false

waits_quiet : (p : Phase) → at_rest p || in_leaving p ≡ true → IsQuiet p
waits_quiet p h = grind arith

over_ended : (p : Phase) → is_over p ≡ false → has_ended p ≡ false
over_ended p h = grind arith

-- if a ticker takes steps, the executor is not closed
pub goes_open : {P T : Type 0} (a : Inside P T) → IsWorld (execution_of a) a.core.cells a.entries.items a.rings.items (vec_capacity a.log) → (k : ℕ) (t : Ticker) → slice_get a.tickers.items k ≡ Some t → is_over t.phase ≡ false → a.core.cells.closed ≡ false
goes_open a sound k t found goes = grind (arith, cases_Bool)

-- a ticker that may search is a tick, or its runner is registered
may_search_queued : (locals : List (RunnerQueue ℕ)) (t : Ticker) → may_search locals t ≡ true → (r : ℕ) → t.runner ≡ Some r → is_registered r locals ≡ true
may_search_queued locals t may r is = sym (rw is refl) ∙ may

abbrev is_given : Result (ℕ × Change Again) (Unit {0}) → Bool
is_given (Ok given) = true
is_given (Err waker) = false

-- the number that an insertion gave
abbrev given_number : Result (ℕ × Change Again) (Unit {0}) → ℕ
given_number (Ok given) = given.0
given_number (Err waker) = 0

-- whether the ticker is awake, as it was read
pub awake_now : {P T : Type 0} (a : Inside P T) {w : Execution T} → execution_of a ≡ w → (k : ℕ) {t : Ticker} → t ≡ ticker_or (slice_get a.tickers.items k) → {read b : Bool} → read ≡ is_awake t → read ≡ b → is_awake (ticker k w) ≡ b
awake_now a view k t_is read_is is = ap (λ w. is_awake (ticker k w)) (sym view) ∙ ap is_awake (sym t_is) ∙ sym read_is ∙ is

-- whether the ticker is a new run, as it was read
pub is_new_now : {P T : Type 0} (a : Inside P T) {w : Execution T} → execution_of a ≡ w → (t : Ticker) {new : Bool} → new ≡ is_new_run w.locals t → new ≡ is_new_run a.core.cells.locals t
is_new_now {T = T} a view t is = is ∙ ap (λ (w : Execution T). is_new_run w.locals t) (sym view)

-- one that is dropped while it has a number needs the lock
pub may_drop_asleep : (rests up free : Bool) → up ≡ false → rests && (up || free) ≡ true → rests && free ≡ true
may_drop_asleep rests up free asleep enabled = sym (ap (λ b. rests && (b || free)) asleep) ∙ enabled

module _ {P T : Type 0} (a : Inside P T) (sound : IsWorld (execution_of a) a.core.cells a.entries.items a.rings.items (vec_capacity a.log)) {w : Execution T} (view : execution_of a ≡ w) (far : w.accepted ≢ w.limit) where
  -- the world after a ticker's step
  abbrev pub ticked : Core P T (Unit {0}) → List (Event T) → List (TaskEntry P) → ℕ → List Ticker → Option ℕ → Execution T
  ticked core log entries notices tickers holder = record (stepped a (a.accepted + 1) core log entries notices a.picks) { tickers = tickers; holder = holder }

  -- what a ticker's step left fits together
  pub ticked_sound : (core : Core P T (Unit {0})) (log : List (Event T)) (entries : List (TaskEntry P)) (notices : ℕ) (tickers : List Ticker) (holder : Option ℕ) {rings : List (Option IdRing)} → Agree core.cells log entries → length entries ≡ length a.entries.items → length log ≤ length a.log.items + 1 → length tickers ≤ length a.tickers.items + 1
      → NoNoticeLost (ticked core log entries notices tickers holder) → TickersTied tickers holder core.sleepers → RunnersTied a.local tickers core.cells rings → notices_out (ticked core log entries notices tickers holder) ≤ notices_out (execution_of a) + 1 → a.core.cells.closed ≡ false → core.cells.closed ≡ a.core.cells.closed
      → IsWorld (ticked core log entries notices tickers holder) core.cells entries rings (vec_capacity a.log)
  ticked_sound core log entries notices tickers holder agree tasks events made law tied runners few unclosed as_before = grind (arith, room_again, length-infos)

  -- a ticker was made, unless memory for it was refused
  pub make_refused : (row : Execution T → Execution T) {core : Core P T (Unit {0})} → core ≡ a.core → {tickers : List Ticker} → tickers ≡ a.tickers.items → {rings : List (Option IdRing)} → rings ≡ a.rings.items
      → IsWorld (record (stepped a a.accepted core a.log.items a.entries.items a.notices a.picks) { tickers = tickers }) core.cells a.entries.items rings (vec_capacity a.log) × Makes row w reply.OutOfMemory (record (stepped a a.accepted core a.log.items a.entries.items a.notices a.picks) { tickers = tickers })
  make_refused row core_is tickers_are rings_are = rw (← view, core_is, tickers_are, rings_are) (sound, inl (refl, refl))

  make_sound : w.closed ≡ false → (runner : Option ℕ) (cells : Table P T (Unit {0})) {rings : List (Option IdRing)} → Agree cells a.log.items a.entries.items → cells.global ≡ a.core.cells.global → cells.locals ≡ a.core.cells.locals → RunnersTied a.local (a.tickers.items ++ new_ticker runner ∷ []) cells rings → cells.closed ≡ a.core.cells.closed
      → IsWorld (ticked (record a.core { cells = cells; sleepers = after_reserve a.core.sleepers }) a.log.items a.entries.items a.notices (a.tickers.items ++ new_ticker runner ∷ []) a.holder) cells a.entries.items rings (vec_capacity a.log)
  make_sound unclosed runner cells agree global locals runners as_before =
      let core : Core P T (Unit {0}) = record a.core { cells = cells; sleepers = after_reserve a.core.sleepers } in
      let tickers : List Ticker = a.tickers.items ++ new_ticker runner ∷ [] in
      ticked_sound core a.log.items a.entries.items a.notices tickers a.holder agree refl (omega arith) (let long = length-push a.tickers.items (new_ticker runner) in omega arith)
      (notices_added (execution_of a) (ticked core a.log.items a.entries.items a.notices tickers a.holder) runner sound.notices refl refl refl refl global locals refl refl refl)
      (record { tied = tied_added runner sound.tickers.tied; stores = stores_added runner a.holder a.tickers.items sound.tickers.stores; opened = sound.tickers.opened })
      runners
      (let push = sum_by_push (λ (t : Ticker). notices_in t.phase) a.tickers.items (new_ticker runner) in omega arith)
      (ap (λ (w : Execution T). w.closed) view ∙ unclosed) as_before

  pub tick_done : w.closed ≡ false → {core : Core P T (Unit {0})} → core ≡ record a.core { sleepers = after_reserve a.core.sleepers } → {reserved tickers : List Ticker} {t : Ticker} {k : ℕ} → tickers ≡ reserved ++ t ∷ [] → reserved ≡ a.tickers.items → t ≡ new_ticker None → k ≡ length reserved
      → IsWorld (ticked core a.log.items a.entries.items a.notices tickers a.holder) core.cells a.entries.items a.rings.items (vec_capacity a.log) × Makes tick_row w (reply.Ticker k) (ticked core a.log.items a.entries.items a.notices tickers a.holder)
  tick_done unclosed core_is tickers_are reserved_are new k_is =
      rw (← view, core_is, tickers_are, reserved_are, new, k_is, reserved_are) (
        make_sound unclosed None a.core.cells sound.agree refl refl (runners_ticked sound.runners) refl,
        inr (refl, refl),
      )

  -- the runners of a world do not run out
  pub runner_unreached : {core : Core P T (Unit {0})} → core ≡ record a.core { sleepers = after_reserve a.core.sleepers } → core.cells.next_runner ≡ last_number → ⊥
  runner_unreached core_is last = grind (arith, count_by-le-length)

  -- no place was reserved for the runner, and that of the sleeper was given back
  pub given_back : {first middle core : Core P T (Unit {0})} → first ≡ record a.core { sleepers = after_reserve a.core.sleepers } → middle ≡ first → core ≡ record middle { sleepers = after_release middle.sleepers } → core ≡ a.core
  given_back first_is middle_is core_is =
      core_is ∙ ap (λ (c : Core P T (Unit {0})). let x : Core P T (Unit {0}) = record c { sleepers = after_release c.sleepers } in x) (middle_is ∙ first_is)
      ∙ ap (λ (s : SleeperList (Unit {0})). let x : Core P T (Unit {0}) = record a.core { sleepers = s } in x) (reserve_release sound.tickers.tied)

  -- a run was made, with a ring for its runner
  pub run_done : w.closed ≡ false → {middle core : Core P T (Unit {0})} → middle ≡ record a.core { sleepers = after_reserve a.core.sleepers } → core ≡ record middle { cells = after_reserve_runner middle.cells } → {key : ℕ} → key ≡ middle.cells.next_runner → {ring : IdRing} → ring ≡ new_ring a.local
      → {reserved tickers : List Ticker} {t : Ticker} {k : ℕ} → tickers ≡ reserved ++ t ∷ [] → reserved ≡ a.tickers.items → t ≡ new_ticker (Some key) → k ≡ length reserved → {kept rings : List (Option IdRing)} → rings ≡ kept ++ Some ring ∷ [] → kept ≡ a.rings.items
      → IsWorld (ticked core a.log.items a.entries.items a.notices tickers a.holder) core.cells a.entries.items rings (vec_capacity a.log) × Makes run_row w (reply.Ticker k) (ticked core a.log.items a.entries.items a.notices tickers a.holder)
  run_done unclosed middle_is core_is key_is ring_is tickers_are reserved_are new k_is rings_are kept_are =
      rw (← view, core_is, tickers_are, new, key_is, middle_is, reserved_are, k_is, reserved_are, rings_are, kept_are, ring_is) (
        make_sound unclosed (Some a.core.cells.next_runner) (after_reserve_runner a.core.cells) (record { next = sound.agree.next; each = sound.agree.each; few_polls = sound.agree.few_polls; order = sound.agree.order }) refl refl (runners_run sound.runners) refl,
        inr (refl, ap (λ (n : ℕ). counted (ticker_row (Some n) (execution_of a))) sound.runners.runners),
      )

  module _ (k : ℕ) where
    -- what was kept of the ticker
    abbrev before : Ticker
    before = ticker_or (slice_get a.tickers.items k)

    -- the world after the ticker and the list changed
    abbrev changed : Ticker → SleeperList (Unit {0}) → Execution T
    changed u s = ticked (record a.core { sleepers = s }) a.log.items a.entries.items a.notices (slice_set a.tickers.items k u) a.holder

    -- a run that goes on with its queue is registered
    queued_by : slice_get a.tickers.items k ≡ Some before → needs_queue before.phase ≡ true → (r : ℕ) → before.runner ≡ Some r → is_registered r a.core.cells.locals ≡ true
    queued_by found needs r is = (sound.runners.runs k before r found is).registered needs

    on_queue : (u : Ticker) → slice_get a.tickers.items k ≡ Some before → u.runner ≡ before.runner → needs_queue before.phase ≡ true → RunnersTied a.local (slice_set a.tickers.items k u) a.core.cells a.rings.items
    on_queue u found same needs = runners_queued sound.runners k before u found same (queued_by found needs)

    as_many : (u : Ticker) → length (slice_set a.tickers.items k u) ≤ length a.tickers.items + 1
    as_many u = let long = length-slice_set a.tickers.items k u in omega arith

    -- a ticker that does not hold the lock, and has not ended, goes on with its number, and its notices stay as they are
    quiet_sound : (u : Ticker) → slice_get a.tickers.items k ≡ Some before → in_store before.phase ≡ false → is_over before.phase ≡ false → in_store u.phase ≡ false → gave_up u.phase ≡ false → (in_wake u.phase ≡ true → is_awake u ≡ false) → u.number ≡ before.number → notices_in u.phase ≡ notices_in before.phase
        → (s : SleeperList (Unit {0})) → s.used ≡ a.core.sleepers.used → s.places ≡ a.core.sleepers.places → s.is_open ≡ a.core.sleepers.is_open → length s.unnotified ≡ length a.core.sleepers.unnotified
        → Covers (changed u s) → RunnersTied a.local (slice_set a.tickers.items k u) a.core.cells a.rings.items → IsWorld (changed u s) a.core.cells a.entries.items a.rings.items (vec_capacity a.log)
    quiet_sound u found apart going apart_still stays up number same s used places opened long covers runners =
        let change = kept_is (execution_of a) (changed u s) sound.notices k before u found refl in
        ticked_sound (record a.core { sleepers = s }) a.log.items a.entries.items a.notices (slice_set a.tickers.items k u) a.holder sound.agree refl (omega arith) (as_many u)
        (no_notice_lost (flag_quiet (execution_of a) (changed u s) sound.notices k before u found refl sound.tickers.stores apart refl (rw (used, long) refl) refl refl) covers)
        (record { tied = tied_phase sound.tickers.tied k before found u number (over_ended before.phase going) stays up s used places; stores = stores_same a.tickers.items k before u found a.holder sound.tickers.stores apart apart_still; opened = opened ∙ sound.tickers.opened })
        runners
        (omega arith) (goes_open a sound k before found going) refl

    pub poll_done : at_rest (ticker k w).phase && may_search w.locals (ticker k w) ≡ true → {t u : Ticker} → t ≡ before → u ≡ polled t → {tickers : List Ticker} → tickers ≡ slice_set a.tickers.items k u
        → Done (ticked a.core a.log.items a.entries.items a.notices tickers a.holder) a.core.cells a.entries.items a.rings.items (vec_capacity a.log) (poll_row k w) reply.Done
    poll_done enabled t_is u_is tickers_are =
        let parts = and_parts (at_rest before.phase) (may_search a.core.cells.locals before) (ap (λ (w : Execution T). at_rest (ticker k w).phase && may_search w.locals (ticker k w)) view ∙ enabled) in
        let found = known at_rest refl (slice_get a.tickers.items k) parts.0 in
        let rest = is_rest before.phase parts.0 in
        rw (← view, tickers_are, u_is, t_is) (record {
          sound = quiet_sound (polled before) found (ap in_store rest) (ap is_over rest) refl refl (λ woken. absurd (false≢true woken)) refl (sym (ap notices_in rest)) a.core.sleepers refl refl refl refl (covered_searching (execution_of a) (changed (polled before) a.core.sleepers) sound.notices k before (polled before) found refl refl) (runners_queued sound.runners k before (polled before) found refl (may_search_queued a.core.cells.locals before parts.1));
          does = (refl, refl);
        })

    -- a ticker that had nothing to search and kept nothing is at rest
    rest_covered : slice_get a.tickers.items k ≡ Some before → has_to_search before.phase ≡ false → notices_in before.phase ≡ 0 → (s : SleeperList (Unit {0})) → s.used ≡ a.core.sleepers.used → length s.unnotified ≡ length a.core.sleepers.unnotified
        → Covers (changed (rested before) s)
    rest_covered found quiet none s used long =
        let later : Execution T = changed (rested before) s in
        let change = kept_is (execution_of a) later sound.notices k before (rested before) found refl in
        covered_quiet (execution_of a) later sound.notices k before (rested before) found refl (same_queues refl refl) refl refl (omega arith) quiet (let same = ap set.len used in omega arith) (λ some. rw (used, long) some)

    pub yield_done : in_sleep (ticker k w).phase ≡ true → {t u : Ticker} → t ≡ before → u ≡ rested t → {tickers : List Ticker} → tickers ≡ slice_set a.tickers.items k u
        → Done (ticked a.core a.log.items a.entries.items a.notices tickers a.holder) a.core.cells a.entries.items a.rings.items (vec_capacity a.log) (yield_row k w) reply.Done
    yield_done enabled t_is u_is tickers_are =
        let enabled : in_sleep before.phase ≡ true = rw (← view) at enabled in
        let found = known in_sleep refl (slice_get a.tickers.items k) enabled in
        let asleep = is_sleep before.phase enabled in
        rw (← view, tickers_are, u_is, t_is) (record {
          sound = quiet_sound (rested before) found (ap in_store asleep) (ap is_over asleep) refl refl (λ woken. absurd (false≢true woken)) refl (sym (ap notices_in asleep)) a.core.sleepers refl refl refl refl (rest_covered found (ap has_to_search asleep) (ap notices_in asleep) a.core.sleepers refl refl) (on_queue (rested before) found refl (ap needs_queue asleep));
          does = (refl, refl);
        })

    -- what the search finds, and the queues then
    abbrev pub search_found : ℕ → Option ℕ × QueueLists ℕ
    search_found word = found_by before.runner word (queues_of a.core.cells)

    module _ (word : ℕ) (enabled : in_search (ticker k w).phase ≡ true) where
      was_searching : in_search before.phase ≡ true
      was_searching = rw (← view) at enabled

      was_made : slice_get a.tickers.items k ≡ Some before
      was_made = known in_search refl (slice_get a.tickers.items k) was_searching

      seeks : before.phase ≡ Search
      seeks = is_search before.phase was_searching

      -- the search found nothing
      record Vain : Type 0 where
        pub same : search_found word ≡ (None, queues_of a.core.cells)
        pub covers : Covers (changed (searched false before) a.core.sleepers)

      in_vain : (search_found word).0 ≡ None → Vain
      in_vain none = by_runner before.runner refl none
        where
          later : Execution T
          later = changed (searched false before) a.core.sleepers

          by_runner : (o : Option ℕ) → before.runner ≡ o → (found_by o word (queues_of a.core.cells)).0 ≡ None → Vain
          by_runner None is none =
              let vain = front_vain (queues_of a.core.cells) none in
              record {
                same = ap (λ o. found_by o word (queues_of a.core.cells)) is ∙ vain.1;
                covers = covered_tick (execution_of a) later sound.notices k before (searched false before) was_made refl vain.0 (ap (λ (o : Option ℕ). is_some o) is);
              }
          by_runner (Some r) is none =
              let places : (i : ℕ) (q : RunnerQueue ℕ) → slice_get a.core.cells.locals i ≡ Some q → 0 < q.capacity = λ i q at. subst (λ (c : ℕ). 0 < c) (sym (sound.runners.queues i q at).places) sound.runners.roomy in
              let vain = search_vain r word (queues_of a.core.cells) (queued_by was_made (ap needs_queue seeks) r is) places none in
              record {
                same = ap (λ o. found_by o word (queues_of a.core.cells)) is ∙ vain.2;
                covers = covered_empty (execution_of a) later sound.notices k before (searched false before) was_made refl vain.1 vain.0;
              }

      pub search_none : {t : Ticker} → t ≡ before → (found_by t.runner word (queues_of a.core.cells)).0 ≡ None → {core : Core P T (Unit {0})} → core ≡ record a.core { cells = search_to (found_by t.runner word (queues_of a.core.cells)) a.core.cells } → {u : Ticker} → u ≡ searched false t → {tickers : List Ticker} → tickers ≡ slice_set a.tickers.items k u
          → Done (ticked core a.log.items a.entries.items a.notices tickers a.holder) core.cells a.entries.items a.rings.items (vec_capacity a.log) (search_row k word w) reply.NoTask
      search_none {t} t_is none {core} core_is u_is tickers_are =
          let vain = in_vain (ap (λ (t : Ticker). (found_by t.runner word (queues_of a.core.cells)).0) (sym t_is) ∙ none) in
          let same : core ≡ a.core = core_is ∙ ap (λ (f : Option ℕ × QueueLists ℕ). let c : Core P T (Unit {0}) = record a.core { cells = search_to f a.core.cells } in c) (ap (λ (t : Ticker). found_by t.runner word (queues_of a.core.cells)) t_is ∙ vain.same) in
          rw (← view, tickers_are, u_is, t_is, same) (record {
            sound = quiet_sound (searched false before) was_made (ap in_store seeks) (ap is_over seeks) refl refl (λ woken. absurd (false≢true woken)) refl (sym (ap notices_in seeks)) a.core.sleepers refl refl refl refl vain.covers (on_queue (searched false before) was_made refl (ap needs_queue seeks));
            does = subst (λ f. row (search_to_row k f (execution_of a)) reply.NoTask (ticked a.core a.log.items a.entries.items a.notices (slice_set a.tickers.items k (searched false before)) a.holder)) (sym vain.same) (refl, refl);
          })

      -- the search found a task
      module _ {t : Ticker} (t_is : t ≡ before) {task : Taken P} (takes : IsTaken a.core.cells task) (finds : (found_by t.runner word (queues_of a.core.cells)).0 ≡ Some task.id.number) {core : Core P T (Unit {0})} (core_is : core ≡ record a.core { cells = search_to (found_by t.runner word (queues_of a.core.cells)) a.core.cells })
          {entries : List (TaskEntry P)} (entries_are : (e : TaskEntry P) → slice_get a.entries.items task.id.number ≡ Some e → entries ≡ slice_set a.entries.items task.id.number (out_entry e task)) {log : List (Event T)} (log_is : log ≡ a.log.items ++ Took task.id.number (purpose_of task.cancelled) ∷ [])
          {u : Ticker} (u_is : u ≡ searched true t) {tickers : List Ticker} (tickers_are : tickers ≡ slice_set a.tickers.items k u) {room : ℕ} (capacity : room ≡ vec_capacity a.log) {answer : Reply T} (answers : answer ≡ take_reply task.id.number task.cancelled) where
        abbrev left : QueueLists ℕ
        left = (search_found word).1

        found_now : search_found word ≡ (Some task.id.number, left)
        found_now = ap (λ (o : Option ℕ). (o, left)) (ap (λ (t : Ticker). (found_by t.runner word (queues_of a.core.cells)).0) (sym t_is) ∙ finds)

        cells_are : core.cells ≡ with_queues left (with_taken a.core.cells task.id.number)
        cells_are = ap (λ c. c.cells) core_is ∙ ap (λ f. search_to f a.core.cells) (ap (λ (t : Ticker). found_by t.runner word (queues_of a.core.cells)) t_is ∙ found_now)

        took : TookTask a sound view far core.cells task.id.number task.cancelled entries log
        took = took_task a sound view far left takes cells_are entries_are log_is

        runners_left : (v : Ticker) → v.runner ≡ before.runner → RunnersTied a.local (slice_set a.tickers.items k v) core.cells a.rings.items
        runners_left v same =
            let part = taken_runners a sound view far a.core.cells task.id.number in
            runners_shaped (on_queue v was_made same (ap needs_queue seeks)) (ap (λ c. shapes c.locals) cells_are ∙ found_shapes before.runner word (queues_of a.core.cells)) (ap (λ c. c.next_runner) cells_are ∙ ap (λ p. p.1.0) part) (ap (λ c. c.free_places) cells_are ∙ ap (λ p. p.1.1.0) part)

        cells_now : core ≡ record a.core { cells = core.cells }
        cells_now = cells_alone a.core core (search_to (found_by t.runner word (queues_of a.core.cells)) a.core.cells) core_is

        -- the world is what the row says, once the ticker and what floats are
        found_is : (later : Execution T) → later ≡ counted (found_row (is_awake before) k (with_queues_row left (taking task.id.number a.core.cells.global (execution_of a)))) → row (search_row k word w) answer later
        found_is later is = rw (← view, answers) (subst (λ f. row (search_to_row k f (execution_of a)) (take_reply task.id.number task.cancelled) later) (sym found_now) (ap (take_reply task.id.number) (sym took.cancelled), is))

        as_before : core.cells.closed ≡ a.core.cells.closed
        as_before = ap (λ c. c.closed) cells_are ∙ same_closed (taken_runners a sound view far a.core.cells task.id.number)

        queues_now : record (execution_of a) { log = log; global = core.cells.global; locals = core.cells.locals; tasks = infos entries; closed = core.cells.closed } ≡ with_queues_row left (taking task.id.number a.core.cells.global (execution_of a))
        queues_now = rw (as_before, ap (λ c. c.global) cells_are, ap (λ c. c.locals) cells_are) (ap (with_queues_row left) took.world)

        -- what the search left fits together: a notice more is out
        found_sound : (v : Ticker) (s : SleeperList (Unit {0})) (notices : ℕ) → v.runner ≡ before.runner → in_store v.phase ≡ false → s.is_open ≡ a.core.sleepers.is_open → is_notified s ≡ is_notified a.core.sleepers → notices + notices_in v.phase ≡ a.notices + 1 → NumbersTied (slice_set a.tickers.items k v) s
            → IsWorld (ticked (record a.core { cells = core.cells; sleepers = s }) log entries notices (slice_set a.tickers.items k v) a.holder) core.cells entries a.rings.items (vec_capacity a.log)
        found_sound v s notices same apart opened notified more tied =
            let world : Execution T = ticked (record a.core { cells = core.cells; sleepers = s }) log entries notices (slice_set a.tickers.items k v) a.holder in
            let change = kept_is (execution_of a) world sound.notices k before v was_made refl in
            let none = ap notices_in seeks in
            let tasks = took.tasks in
            let events = took.events in
            ticked_sound (record a.core { cells = core.cells; sleepers = s }) log entries notices (slice_set a.tickers.items k v) a.holder took.agree tasks (omega arith) (as_many v)
            (no_notice_lost (flag_quiet (execution_of a) world sound.notices k before v was_made refl sound.tickers.stores (ap in_store seeks) refl notified refl refl) (covered_noticed (execution_of a) world sound.notices k before v was_made refl (omega arith)))
            (record { tied = tied; stores = stores_same a.tickers.items k before v was_made a.holder sound.tickers.stores (ap in_store seeks) apart; opened = opened ∙ sound.tickers.opened })
            (runners_left v same)
            (omega arith) (goes_open a sound k before was_made (ap is_over seeks)) as_before

        -- one that has a number keeps the notice
        pub wake_done : is_awake t ≡ false → Done (ticked core log entries a.notices tickers a.holder) core.cells entries a.rings.items room (search_row k word w) answer
        wake_done asleep =
            let asleep : is_awake before ≡ false = rw t_is at asleep in
            let v : Ticker = record before { phase = Wake } in
            let u_now : u ≡ v = u_is ∙ ap (searched true) t_is ∙ ap (λ b. record before { phase = cond b (after_task before) Wake }) asleep in
            record {
              sound = rw (capacity, cells_now, tickers_are, u_now) (found_sound v a.core.sleepers a.notices refl refl refl refl (omega arith) (tied_phase sound.tickers.tied k before was_made v refl (ap has_ended seeks) refl (λ _. asleep) a.core.sleepers refl refl));
              does = found_is _ (rw (cells_now, tickers_are, u_now, asleep) (ap (λ (x : Execution T). counted (with_ticker k v x)) queues_now));
            }

        -- a tick that is awake has ended
        pub tick_found : is_awake t ≡ true → is_run t ≡ false → {later : Core P T (Unit {0})} → later ≡ record core { sleepers = after_release core.sleepers } → {notices : ℕ} → notices ≡ a.notices + 1
            → Done (ticked later log entries notices tickers a.holder) later.cells entries a.rings.items room (search_row k word w) answer
        tick_found up tick {later} later_is noted =
            let up : is_awake before ≡ true = rw t_is at up in
            let tick : is_run before ≡ false = rw t_is at tick in
            let v : Ticker = record before { phase = Ended } in
            let gone : searched true before ≡ v = ap (λ b. record before { phase = cond b (after_task before) Wake }) up ∙ ap (λ b. record before { phase = cond b Rest Ended }) tick in
            let u_now : u ≡ v = u_is ∙ ap (searched true) t_is ∙ gone in
            let s : SleeperList (Unit {0}) = after_release a.core.sleepers in
            let later_now : later ≡ record a.core { cells = core.cells; sleepers = s } = later_is ∙ ap (λ (x : Core P T (Unit {0})). record x { sleepers = after_release x.sleepers }) cells_now in
            let places : s.places ≡ a.core.sleepers.places - 1 = cond-true (has_place a.core.sleepers) _ _ (place_free sound.tickers.tied k before was_made up (ap has_ended seeks)) in
            rw (capacity, later_now, tickers_are, u_now, noted) (record {
              sound = found_sound v s (a.notices + 1) refl refl refl refl (omega arith) (tied_ended sound.tickers.tied k before was_made v up (eqb-true before.number 0 up) (ap has_ended seeks) refl refl s refl places);
              does = found_is _ (rw (up, tick) (ap (λ (x : Execution T). counted (with_ticker k v (placed (noticed x)))) queues_now));
            })

        -- a run that is awake is at rest
        pub run_found : is_awake t ≡ true → is_run t ≡ true → {notices : ℕ} → notices ≡ a.notices + 1
            → Done (ticked core log entries notices tickers a.holder) core.cells entries a.rings.items room (search_row k word w) answer
        run_found up run noted =
            let up : is_awake before ≡ true = rw t_is at up in
            let run : is_run before ≡ true = rw t_is at run in
            let v : Ticker = record before { phase = Rest } in
            let rests : searched true before ≡ v = ap (λ b. record before { phase = cond b (after_task before) Wake }) up ∙ ap (λ b. record before { phase = cond b Rest Ended }) run in
            let u_now : u ≡ v = u_is ∙ ap (searched true) t_is ∙ rests in
            record {
              sound = rw (capacity, cells_now, tickers_are, u_now, noted) (found_sound v a.core.sleepers (a.notices + 1) refl refl refl refl (omega arith) (tied_phase sound.tickers.tied k before was_made v refl (ap has_ended seeks) refl (λ woken. absurd (false≢true woken)) a.core.sleepers refl refl));
              does = found_is _ (rw (cells_now, tickers_are, u_now, noted, up, run) (ap (λ (x : Execution T). counted (with_ticker k v (noticed x))) queues_now));
            }

    -- the world after the ticker took the sleepers' lock and changed the list
    abbrev held_world : Ticker → SleeperList (Unit {0}) → Execution T
    held_world u s = ticked (record a.core { sleepers = s }) a.log.items a.entries.items a.notices (slice_set a.tickers.items k u) (Some k)

    nobody_holds : (b : Bool) → b && not (is_some w.holder) ≡ true → (b ≡ true) × (a.holder ≡ None)
    nobody_holds b enabled = grind (arith, and_parts, not-true)

    held_sound : (u : Ticker) (s : SleeperList (Unit {0})) → slice_get a.tickers.items k ≡ Some before → a.holder ≡ None → in_store u.phase ≡ true → notices_in u.phase ≤ notices_in before.phase + 1 → s.is_open ≡ true → is_over before.phase ≡ false
        → FlagLaw (held_world u s) → Covers (held_world u s) → NumbersTied (slice_set a.tickers.items k u) s → RunnersTied a.local (slice_set a.tickers.items k u) a.core.cells a.rings.items → IsWorld (held_world u s) a.core.cells a.entries.items a.rings.items (vec_capacity a.log)
    held_sound u s found free storing few opened going flag covers tied runners =
        let change = kept_is (execution_of a) (held_world u s) sound.notices k before u found refl in
        ticked_sound (record a.core { sleepers = s }) a.log.items a.entries.items a.notices (slice_set a.tickers.items k u) (Some k) sound.agree refl (omega arith) (as_many u)
        (no_notice_lost flag covers)
        (record { tied = tied; stores = stores_taken a.tickers.items k before u found a.holder sound.tickers.stores free storing; opened = opened })
        runners
        (omega arith) (goes_open a sound k before found going) refl

    -- one that is awake goes to sleep
    module _ (enabled : in_sleep (ticker k w).phase && not (is_some w.holder) ≡ true) (up : is_awake (ticker k w) ≡ true) where
      found_asleep : slice_get a.tickers.items k ≡ Some before
      found_asleep = known in_sleep refl (slice_get a.tickers.items k) (rw (← view) at (nobody_holds _ enabled).0)

      phase_asleep : before.phase ≡ Sleep
      phase_asleep = is_sleep before.phase (rw (← view) at (nobody_holds _ enabled).0)

      pub has_room : has_place a.core.sleepers ≡ true
      has_room = place_free sound.tickers.tied k before found_asleep (rw (← view) at up) (ap has_ended phase_asleep)

      pub insert_closed : a.core.sleepers.is_open ≡ false
      insert_closed = sound.tickers.opened ∙ ap is_some (nobody_holds _ enabled).1

      pub insert_refused : {x : Unit {0}} → ◌≡◌ {A = Result (ℕ × Change Again) (Unit {0})} (Err x) (insert_answer a.core.sleepers tt) → ⊥
      insert_refused answered = let is : false ≡ true = ap is_given answered ∙ ap is_given (cond-true (has_place a.core.sleepers) (Ok (next_number a.core.sleepers, change_of (inserted a.core.sleepers tt) again)) (Err tt) has_room) in false≢true is

      pub insert_done : SleeperLaw a.core.sleepers → {core : Core P T (Unit {0})} → core ≡ record a.core { sleepers = after_insert a.core.sleepers tt } → {number : ℕ} {asks : Change Again} → ◌≡◌ {A = Result (ℕ × Change Again) (Unit {0})} (Ok (number, asks)) (insert_answer a.core.sleepers tt)
          → {t u : Ticker} → t ≡ before → u ≡ slept number t → {tickers : List Ticker} → tickers ≡ slice_set a.tickers.items k u
          → Done (ticked core a.log.items a.entries.items a.notices tickers (Some k)) core.cells a.entries.items a.rings.items (vec_capacity a.log) (insert_row k w) (reply.Number number)
      insert_done law {core} core_is {number} answered t_is u_is tickers_are =
          let up : is_awake before ≡ true = rw (← view) at up in
          let s : SleeperList (Unit {0}) = inserted a.core.sleepers tt in
          let list : after_insert a.core.sleepers tt ≡ s = cond-true (has_place a.core.sleepers) _ _ has_room in
          let given : number ≡ next_number a.core.sleepers = ap given_number answered ∙ ap given_number (cond-true (has_place a.core.sleepers) (Ok (next_number a.core.sleepers, change_of s again)) (Err tt) has_room) in
          let v : Ticker = slept (next_number a.core.sleepers) before in
          rw (← view, core_is, tickers_are, u_is, given, t_is) (record {
            sound = rw list (held_sound v s found_asleep (nobody_holds _ enabled).1 refl (omega arith) refl (ap is_over phase_asleep) (flag_held (execution_of a) (held_world v s) sound.notices k before v found_asleep refl refl refl) (covered_searching (execution_of a) (held_world v s) sound.notices k before v found_asleep refl refl)
                (tied_inserted sound.tickers.tied k before found_asleep law v up (ap has_ended phase_asleep) refl refl refl s refl refl) (on_queue v found_asleep refl (ap needs_queue phase_asleep)));
            does = (refl, refl);
          })

    -- one that has a number goes to sleep
    module _ (enabled : in_sleep (ticker k w).phase && not (is_some w.holder) ≡ true) (asleep : is_awake (ticker k w) ≡ false) {t : Ticker} (t_is : t ≡ before) where
      found_again : slice_get a.tickers.items k ≡ Some before
      found_again = known in_sleep refl (slice_get a.tickers.items k) (rw (← view) at (nobody_holds _ enabled).0)

      phase_again : before.phase ≡ Sleep
      phase_again = is_sleep before.phase (rw (← view) at (nobody_holds _ enabled).0)

      has_number : set.contains a.core.sleepers.used before.number ≡ true
      has_number = number_used sound.tickers.tied k before found_again (rw (← view) at asleep)

      pub update_closed : a.core.sleepers.is_open ≡ false
      update_closed = sound.tickers.opened ∙ ap is_some (nobody_holds _ enabled).1

      pub update_known : (x : Unit {0}) → Unknown x ≡ update_answer a.core.sleepers t.number tt → ⊥
      update_known x answered = never_unknown a.core.sleepers before.number tt has_number x (rw t_is at answered)

      module _ {core : Core P T (Unit {0})} (core_is : core ≡ record a.core { sleepers = after_update a.core.sleepers t.number tt }) {u : Ticker} {tickers : List Ticker} (tickers_are : tickers ≡ slice_set a.tickers.items k u) where
        -- nobody notified it
        pub parked_done : (old : Unit {0}) → Asleep old ≡ update_answer a.core.sleepers t.number tt → u ≡ rested t → Done (ticked core a.log.items a.entries.items a.notices tickers a.holder) core.cells a.entries.items a.rings.items (vec_capacity a.log) (update_row k w) reply.Parked
        parked_done old answered u_is =
            let s : SleeperList (Unit {0}) = after_update a.core.sleepers before.number tt in
            let on = sleeps_on a.core.sleepers before.number tt old (rw t_is at answered) in
            let used = update_used a.core.sleepers before.number tt in
            rw (← view, core_is, tickers_are, u_is, t_is) (record {
              sound = quiet_sound (rested before) found_again (ap in_store phase_again) (ap is_over phase_again) refl refl (λ woken. absurd (false≢true woken)) refl (sym (ap notices_in phase_again)) s used (update_places a.core.sleepers before.number tt) on.opened on.long (rest_covered found_again (ap has_to_search phase_again) (ap notices_in phase_again) s used on.long) (on_queue (rested before) found_again refl (ap needs_queue phase_again));
              does = rw on.unnotified (refl, refl);
            })

        -- it was notified
        pub again_done : (asks : Change Again) → WasNotified asks ≡ update_answer a.core.sleepers t.number tt → u ≡ slept t.number t → Done (ticked core a.log.items a.entries.items a.notices tickers (Some k)) core.cells a.entries.items a.rings.items (vec_capacity a.log) (update_row k w) reply.Again
        again_done asks answered u_is =
            let s : SleeperList (Unit {0}) = after_update a.core.sleepers before.number tt in
            let on = sleeps_again a.core.sleepers before.number tt asks (rw t_is at answered) in
            let v : Ticker = slept before.number before in
            rw (← view, core_is, tickers_are, u_is, t_is) (record {
              sound = held_sound v s found_again (nobody_holds _ enabled).1 refl (omega arith) on.opened (ap is_over phase_again) (flag_held (execution_of a) (held_world v s) sound.notices k before v found_again refl refl refl) (covered_searching (execution_of a) (held_world v s) sound.notices k before v found_again refl refl)
                  (tied_phase sound.tickers.tied k before found_again v refl (ap has_ended phase_again) refl (λ woken. absurd (false≢true woken)) s (update_used a.core.sleepers before.number tt) (update_places a.core.sleepers before.number tt)) (on_queue v found_again refl (ap needs_queue phase_again));
              does = rw on.notified (refl, refl);
            })

    -- a ticker that found a task removes its number
    module _ (enabled : in_wake (ticker k w).phase && not (is_some w.holder) ≡ true) where
      found_awake : slice_get a.tickers.items k ≡ Some before
      found_awake = known in_wake refl (slice_get a.tickers.items k) (rw (← view) at (nobody_holds _ enabled).0)

      pub remove_closed : a.core.sleepers.is_open ≡ false
      remove_closed = sound.tickers.opened ∙ ap is_some (nobody_holds _ enabled).1

      pub remove_done : {core : Core P T (Unit {0})} {t u : Ticker} {notified : Bool} → core ≡ record a.core { sleepers = after_remove a.core.sleepers t.number } → notified ≡ is_notified_number a.core.sleepers t.number → t ≡ before → u ≡ woke notified t
          → {tickers : List Ticker} → tickers ≡ slice_set a.tickers.items k u → {answer : Reply T} → answer ≡ removed_reply notified
          → Done (ticked core a.log.items a.entries.items a.notices tickers (Some k)) core.cells a.entries.items a.rings.items (vec_capacity a.log) (remove_row k w) answer
      remove_done {t = t} core_is notified_is t_is u_is tickers_are answers =
          let waking : in_wake before.phase ≡ true = rw (← view) at (nobody_holds _ enabled).0 in
          let phase = is_wake before.phase waking in
          let s : SleeperList (Unit {0}) = after_remove a.core.sleepers before.number in
          let b : Bool = is_notified_number a.core.sleepers before.number in
          let v : Ticker = woke b before in
          let change = kept_is (execution_of a) (held_world v s) sound.notices k before v found_awake refl in
          let kept : notices_in before.phase ≡ 1 = ap notices_in phase in
          let stands = sum_by-at (λ (t : Ticker). notices_in t.phase) a.tickers.items k before found_awake in
          let more = at_most b in
          rw (← view, core_is, tickers_are, u_is, answers, notified_is, t_is) (record {
            sound = held_sound v s found_awake (nobody_holds _ enabled).1 refl (omega arith) refl (ap is_over phase) (flag_held (execution_of a) (held_world v s) sound.notices k before v found_awake refl refl (or_left _ false (lt-ltb 0 (1 + cond b 1 0) (omega arith)))) (covered_noticed (execution_of a) (held_world v s) sound.notices k before v found_awake refl (omega arith))
                (tied_removed sound.tickers.tied k before found_awake v (sound.tickers.tied.asleep k before found_awake waking) refl (ap has_ended phase) refl refl s refl refl) (on_queue v found_awake refl (ap needs_queue phase));
            does = (refl, refl);
          })
        where
          at_most : (b : Bool) → cond b 1 0 ≤ 1
          at_most true = omega arith
          at_most false = omega arith

    -- a ticker that may be dropped is at rest, or left
    module _ (goes : may_go w.locals (ticker k w) ≡ true) where
      waits : at_rest before.phase || in_leaving before.phase ≡ true
      waits = grind (arith, or_cases, or_left, and_parts, or_right)

      found_there : slice_get a.tickers.items k ≡ Some before
      found_there = known (λ p. at_rest p || in_leaving p) refl (slice_get a.tickers.items k) waits

      quiet : IsQuiet before.phase
      quiet = waits_quiet before.phase waits

    -- a ticker is dropped while it is awake, and a new run gives its runner's place back
    pub drop_awake_done : may_go w.locals (ticker k w) ≡ true → is_awake (ticker k w) ≡ true → {t u : Ticker} → t ≡ before → {new : Bool} → new ≡ is_new_run a.core.cells.locals t → u ≡ ended t → {tickers : List Ticker} → tickers ≡ slice_set a.tickers.items k u
        → {middle core : Core P T (Unit {0})} → middle ≡ record a.core { cells = record a.core.cells { free_places = cond new (a.core.cells.free_places - 1) a.core.cells.free_places } } → core ≡ record middle { sleepers = after_release middle.sleepers }
        → Done (ticked core a.log.items a.entries.items a.notices tickers a.holder) core.cells a.entries.items a.rings.items (vec_capacity a.log) (drop_row k w) reply.Awake
    drop_awake_done goes up t_is new_is u_is tickers_are middle_is core_is =
        let up : is_awake before ≡ true = rw (← view) at up in
        let found = found_there goes in
        let rest = quiet goes in
        let cells : Table P T (Unit {0}) = record a.core.cells { free_places = cond (is_new_run a.core.cells.locals before) (a.core.cells.free_places - 1) a.core.cells.free_places } in
        let s : SleeperList (Unit {0}) = after_release a.core.sleepers in
        let v : Ticker = ended before in
        let core_now : Core P T (Unit {0}) = record a.core { cells = cells; sleepers = s } in
        let world : Execution T = ticked core_now a.log.items a.entries.items a.notices (slice_set a.tickers.items k v) a.holder in
        let change = kept_is (execution_of a) world sound.notices k before v found refl in
        let none = rest.kept in
        let places : s.places ≡ a.core.sleepers.places - 1 = cond-true (has_place a.core.sleepers) _ _ (place_free sound.tickers.tied k before found up rest.ended) in
        rw (← view, core_is, middle_is, new_is, tickers_are, u_is, t_is) (record {
          sound = ticked_sound core_now a.log.items a.entries.items a.notices (slice_set a.tickers.items k v) a.holder (same_cells sound.agree refl refl) refl (omega arith) (as_many v)
              (no_notice_lost (flag_quiet (execution_of a) world sound.notices k before v found refl sound.tickers.stores rest.stored refl refl refl refl)
              (covered_quiet (execution_of a) world sound.notices k before v found refl (same_queues refl refl) refl refl (omega arith) rest.search (omega arith) (λ some. some)))
              (record { tied = tied_ended sound.tickers.tied k before found v up (eqb-true before.number 0 up) rest.ended refl refl s refl places; stores = stores_same a.tickers.items k before v found a.holder sound.tickers.stores rest.stored refl; opened = sound.tickers.opened })
              (by_new found v (is_new_run a.core.cells.locals before) refl refl refl refl)
              (omega arith) (goes_open a sound k before found rest.over) refl;
          does = rw up (refl, refl);
        })
      where
        by_new : slice_get a.tickers.items k ≡ Some before → (v : Ticker) (b : Bool) → is_new_run a.core.cells.locals before ≡ b → v.runner ≡ before.runner → is_waiting v.phase ≡ false → needs_queue v.phase ≡ false
            → RunnersTied a.local (slice_set a.tickers.items k v) (record a.core.cells { free_places = cond b (a.core.cells.free_places - 1) a.core.cells.free_places }) a.rings.items
        by_new found v true new same goes leaves = runners_dropped sound.runners k before v found same new goes leaves refl
        by_new found v false old same goes leaves = runners_gone sound.runners k before v found same old goes leaves

    -- a ticker that has a number is dropped
    module _ (enabled : may_go w.locals (ticker k w) && not (is_some w.holder) ≡ true) (asleep : is_awake (ticker k w) ≡ false) where
      goes_asleep : may_go w.locals (ticker k w) ≡ true
      goes_asleep = (and_parts (may_go w.locals (ticker k w)) (not (is_some w.holder)) enabled).0

      found_rest : slice_get a.tickers.items k ≡ Some before
      found_rest = found_there goes_asleep

      rests : IsQuiet before.phase
      rests = quiet goes_asleep

      -- a new run is awake
      not_new : is_new_run a.core.cells.locals before ≡ false
      not_new = elim (cases_Bool (is_new_run a.core.cells.locals before)) [
        | inl new ↦ absurd (true≢false (sym (eq-eqb before.number 0 (new_awake sound.runners k before found_rest new)) ∙ (rw (← view) at asleep)))
        | inr old ↦ old
      ]

      pub drop_closed : a.core.sleepers.is_open ≡ false
      drop_closed = sound.tickers.opened ∙ ap is_some (nobody_holds _ enabled).1

      abbrev dropped_world : Bool → Execution T
      dropped_world b = held_world (dropped b before) (after_remove a.core.sleepers before.number)

      kept_by : (b : Bool) → kept_notices (dropped_world b) ≡ kept_notices (execution_of a) + cond b 1 0
      kept_by b = let change = kept_is (execution_of a) (dropped_world b) sound.notices k before (dropped b before) found_rest refl in let none = rests.kept in omega arith

      -- the notice of a notified number stands in the change; if another number is notified, it stays so
      drop_law : SleeperLaw a.core.sleepers → (b : Bool) → is_notified_number a.core.sleepers before.number ≡ b → NoNoticeLost (dropped_world b)
      drop_law law true notified =
          let kept = kept_by true in
          no_notice_lost (flag_held (execution_of a) (dropped_world true) sound.notices k before (dropped true before) found_rest refl refl refl) (covered_noticed (execution_of a) (dropped_world true) sound.notices k before (dropped true before) found_rest refl (omega arith))
      drop_law law false unnotified =
          let there = number_used sound.tickers.tied k before found_rest (rw (← view) at asleep) in
          let keeps = still_notified law before.number there unnotified in
          let kept = kept_by false in
          let shorter = remove_len a.core.sleepers.used before.number there in
          no_notice_lost
          (λ on. elim (or_cases (is_notified a.core.sleepers || nat_lt 0 a.picks) (holder_spends a.holder a.tickers.items) (sound.notices.flag_law on)) [
            | inl other ↦ elim (or_cases (is_notified a.core.sleepers) (nat_lt 0 a.picks) other) [
              | inl notified ↦ or_left _ _ (or_left _ (nat_lt 0 a.picks) (or_right (set.len (set.remove a.core.sleepers.used before.number) == 0) _ (keeps (some_in_use a.core.sleepers notified (used_more there)))))
              | inr out ↦ or_left _ _ (or_right (is_notified (after_remove a.core.sleepers before.number)) _ out)
            ]
            | inr spends ↦ absurd (false≢true (sym (ap (λ h. holder_spends h a.tickers.items) (nobody_holds _ enabled).1) ∙ spends))
          ])
          (covered_quiet (execution_of a) (dropped_world false) sound.notices k before (dropped false before) found_rest refl (same_queues refl refl) refl refl (omega arith) rests.search (omega arith) keeps)
        where
          used_more : set.contains a.core.sleepers.used before.number ≡ true → 0 < set.len a.core.sleepers.used
          used_more there =
              let count = sound.tickers.tied.sleeping in
              let stands = sum_by-at (λ (t : Ticker). cond (not (is_awake t)) 1 0) a.tickers.items k before found_rest in
              let itself : ◌≡◌ {A = ℕ} (cond (not (is_awake before)) 1 0) 1 = ap (λ b. cond (not b) 1 0) (rw (← view) at asleep) in
              omega arith

      pub drop_asleep_done : SleeperLaw a.core.sleepers → {core : Core P T (Unit {0})} {t u : Ticker} {notified : Bool} → core ≡ record a.core { sleepers = after_remove a.core.sleepers t.number } → notified ≡ is_notified_number a.core.sleepers t.number → t ≡ before → u ≡ dropped notified t
          → {tickers : List Ticker} → tickers ≡ slice_set a.tickers.items k u → {answer : Reply T} → answer ≡ removed_reply notified
          → Done (ticked core a.log.items a.entries.items a.notices tickers (Some k)) core.cells a.entries.items a.rings.items (vec_capacity a.log) (drop_row k w) answer
      drop_asleep_done law core_is notified_is t_is u_is tickers_are answers =
          let asleep : is_awake before ≡ false = rw (← view) at asleep in
          let s : SleeperList (Unit {0}) = after_remove a.core.sleepers before.number in
          let b : Bool = is_notified_number a.core.sleepers before.number in
          let v : Ticker = dropped b before in
          let held = drop_law law b refl in
          let none : notices_in before.phase ≡ 0 = rests.kept in
          let more = at_most b in
          rw (← view, core_is, tickers_are, u_is, answers, notified_is, t_is) (record {
            sound = held_sound v s found_rest (nobody_holds _ enabled).1 refl (omega arith) refl rests.over held.flag_law (held.covered, held.runs_covered) (tied_removed sound.tickers.tied k before found_rest v asleep refl rests.ended refl refl s refl refl) (runners_gone sound.runners k before v found_rest refl not_new refl refl);
            does = rw asleep (refl, refl);
          })
        where
          at_most : (b : Bool) → cond b 1 0 ≤ 1
          at_most true = omega arith
          at_most false = omega arith

    -- the flag is stored, and the lock given up
    module _ (enabled : holds k w.holder ≡ true) where
      holder_is : a.holder ≡ Some k
      holder_is = grind (arith, eqb-true)

      storing : in_store before.phase ≡ true
      storing = sound.tickers.stores k ∙ ap (holds k) holder_is ∙ eq-eqb k k refl

      found_storing : slice_get a.tickers.items k ≡ Some before
      found_storing = known in_store refl (slice_get a.tickers.items k) storing

      storing_goes : is_over before.phase ≡ false
      storing_goes = let change = is_store before.phase storing in ap is_over change.1

      going : has_ended before.phase ≡ false
      going = let change = is_store before.phase storing in ap has_ended change.1

      module _ {core : Core P T (Unit {0})} {notified : Bool} (says : notified ≡ is_notified a.core.sleepers) (core_is : core ≡ record a.core { flag = notified; sleepers = closed a.core.sleepers }) {t u : Ticker} (t_is : t ≡ before) (u_is : u ≡ stored t) {tickers : List Ticker} (tickers_are : tickers ≡ slice_set a.tickers.items k u) {notices : ℕ} (floats : notices ≡ cond (nat_lt 0 (notices_in t.phase)) (a.notices + 1) a.notices) where
        -- its notices float as one
        abbrev floated : ℕ
        floated = cond (nat_lt 0 (notices_in before.phase)) (a.notices + 1) a.notices

        abbrev stored_world : Ticker → SleeperList (Unit {0}) → Execution T
        stored_world v s = ticked (record a.core { flag = is_notified a.core.sleepers; sleepers = s }) a.log.items a.entries.items floated (slice_set a.tickers.items k v) None

        stored_sound : (v : Ticker) (s : SleeperList (Unit {0})) → in_store v.phase ≡ false → notices_in v.phase ≡ 0 → (0 < notices_in before.phase) ⊎ Covers (stored_world v s) → NumbersTied (slice_set a.tickers.items k v) s → s.is_open ≡ false → is_notified a.core.sleepers ≡ is_notified s → RunnersTied a.local (slice_set a.tickers.items k v) a.core.cells a.rings.items
            → IsWorld (stored_world v s) a.core.cells a.entries.items a.rings.items (vec_capacity a.log)
        stored_sound v s apart none covers tied opened says runners =
            let world : Execution T = stored_world v s in
            let kept = kept_is (execution_of a) world sound.notices k before v found_storing refl in
            let stands = sum_by-at (λ (t : Ticker). notices_in t.phase) a.tickers.items k before found_storing in
            let float = floating (notices_in before.phase) a.notices in
            let covered : Covers world = elim covers [
              | inl some ↦ let more : floated ≡ a.notices + 1 = cond-true (nat_lt 0 (notices_in before.phase)) _ _ (lt-ltb 0 _ some) in covered_noticed (execution_of a) world sound.notices k before v found_storing refl (omega arith)
              | inr covers ↦ covers
            ] in
            ticked_sound (record a.core { flag = is_notified a.core.sleepers; sleepers = s }) a.log.items a.entries.items floated (slice_set a.tickers.items k v) None sound.agree refl (omega arith) (as_many v)
            (no_notice_lost (flag_stored (execution_of a) world sound.notices k before v found_storing refl says) covered)
            (record { tied = tied; stores = stores_given a.tickers.items k before v found_storing a.holder sound.tickers.stores holder_is apart; opened = opened })
            runners
            (omega arith) (goes_open a sound k before found_storing storing_goes) refl

        -- one that goes on: it went to sleep and searches once more, or it is a run that found a task
        record GoesOn (v : Ticker) : Type 0 where
          pub is : stored before ≡ v
          pub apart : in_store v.phase ≡ false
          pub none : notices_in v.phase ≡ 0
          pub number : v.number ≡ before.number
          pub stays : gave_up v.phase ≡ false
          pub still : in_wake v.phase ≡ false
          pub runner : v.runner ≡ before.runner
          pub needs : needs_queue before.phase ≡ true
          pub covers : (0 < notices_in before.phase) ⊎ (has_to_search v.phase ≡ true)

        goes_on : has_ended (stored before).phase ≡ false → (v : Ticker) × GoesOn v
        goes_on on = grind (arith, is_store, storing, cases_Bool)

        pub store_on : has_ended (stored t).phase ≡ false → Done (ticked core a.log.items a.entries.items notices tickers None) core.cells a.entries.items a.rings.items (vec_capacity a.log) (store_row k w) (reply.Stored notified)
        store_on on =
            let on : has_ended (stored before).phase ≡ false = rw t_is at on in
            let next = goes_on on in
            let v : Ticker = next.0 in
            let covers : (0 < notices_in before.phase) ⊎ Covers (stored_world v (closed a.core.sleepers)) = elim next.1.covers [
              | inl some ↦ inl some
              | inr seeks ↦ inr (covered_searching (execution_of a) (stored_world v (closed a.core.sleepers)) sound.notices k before v found_storing refl seeks)
            ] in
            rw (← view, core_is, says, tickers_are, u_is, floats, t_is) (record {
              sound = rw next.1.is (stored_sound v (closed a.core.sleepers) next.1.apart next.1.none covers (tied_phase sound.tickers.tied k before found_storing v next.1.number going next.1.stays (λ woken. absurd (true≢false (sym woken ∙ next.1.still))) (closed a.core.sleepers) refl refl) refl refl (on_queue v found_storing next.1.runner next.1.needs));
              does = rw on (refl, refl);
            })

        -- one that has ended gives its place back
        record GoesAway : Type 0 where
          pub number : before.number ≡ 0
          pub quiet : has_to_search before.phase ≡ false
          pub runners : RunnersTied a.local (slice_set a.tickers.items k (record before { phase = Ended })) a.core.cells a.rings.items

        goes_away : has_ended (stored before).phase ≡ true → GoesAway
        goes_away ends = let change = is_store before.phase storing in by_change change.0 change.1
          where
            by_change : (change : ListChange) → before.phase ≡ Store change → GoesAway
            by_change Slept is = absurd (true≢false (sym ends ∙ ap (λ p. has_ended (after_store before p)) is))
            by_change (Woke b) is =
                record {
                  number = sound.tickers.tied.awake k before found_storing (ap gave_up is);
                  quiet = ap has_to_search is;
                  runners = on_queue (record before { phase = Ended }) found_storing refl (ap needs_queue is);
                }
            by_change (Dropped b) is =
                record {
                  number = sound.tickers.tied.awake k before found_storing (ap gave_up is);
                  quiet = ap has_to_search is;
                  runners = runners_gone sound.runners k before (record before { phase = Ended }) found_storing refl (restless_not_new a.core.cells.locals before (ap is_waiting is)) refl refl;
                }

        pub store_ended : has_ended (stored t).phase ≡ true → {later : Core P T (Unit {0})} → later ≡ record core { sleepers = after_release core.sleepers }
            → Done (ticked later a.log.items a.entries.items notices tickers None) later.cells a.entries.items a.rings.items (vec_capacity a.log) (store_row k w) (reply.Stored notified)
        store_ended ends {later} later_is =
            let ends : has_ended (stored before).phase ≡ true = rw t_is at ends in
            let gone = goes_away ends in
            let up : is_awake before ≡ true = eq-eqb before.number 0 gone.number in
            let v : Ticker = record before { phase = Ended } in
            let is : stored before ≡ v = ap (λ p. record before { phase = p }) (is_ended (after_store before before.phase) ends) in
            let s : SleeperList (Unit {0}) = after_release (closed a.core.sleepers) in
            let places : s.places ≡ a.core.sleepers.places - 1 = cond-true (has_place a.core.sleepers) _ _ (place_free sound.tickers.tied k before found_storing up going) in
            let kept = kept_is (execution_of a) (stored_world v s) sound.notices k before v found_storing refl in
            let stands = sum_by-at (λ (t : Ticker). notices_in t.phase) a.tickers.items k before found_storing in
            let covers : (0 < notices_in before.phase) ⊎ Covers (stored_world v s) = elim (cases_lt 0 (notices_in before.phase)) [
              | inl some ↦ inl some
              | inr none ↦ let same : floated ≡ a.notices = cond-false (nat_lt 0 (notices_in before.phase)) _ _ (le-ltb 0 _ none) in inr (covered_quiet (execution_of a) (stored_world v s) sound.notices k before v found_storing refl (same_queues refl refl) refl refl (omega arith) gone.quiet (omega arith) (λ some. some))
            ] in
            rw (← view, later_is, core_is, says, tickers_are, u_is, floats, t_is) (record {
              sound = rw is (stored_sound v s refl refl covers (tied_ended sound.tickers.tied k before found_storing v up gone.number going refl refl s refl places) refl refl gone.runners);
              does = rw ends (refl, refl);
            })
