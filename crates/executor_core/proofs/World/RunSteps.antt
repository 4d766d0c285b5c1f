-- A run registers its runner, takes its fair part, or unregisters.
use Rattle.std.proofs.Common.{◌≡◌, ◌≢◌, ℕ, zero, suc, ◌+◌, ◌≤◌, Bool, true, false, ◌&&◌, cond, inl, inr, List, [], ◌∷◌, ◌++◌, length, drop, Option, Some, None, is_some, refl, sym, ap, ◌∙◌, arith}
use Rattle.std.proofs.lemmas.Bool.{cases_Bool, and_parts, lt-ltb, true≢false, false≢true, cond-true, cond-false}
use Rattle.std.proofs.lemmas.List.{append-nil}
use Rattle.std.proofs.lemmas.List.Sorted.{length_permutation}
use Rattle.std.specs.List.Sorted.{IsPermutation}
use Rattle.std.specs.Prelude.{nat_lt, ◌↔◌, slice_get, slice_set, slice_index_or}
use Rattle.std.specs.Vec.{vec_capacity}
use Rattle.executor_core.specs.Cells.{Table}
use Rattle.executor_core.specs.Cells.Calls.{after_register, may_register, after_fair, after_unregister, unregister_queues}
use Rattle.executor_core.specs.Cells.Law.{queued_of, queues_of}
use Rattle.executor_core.specs.Queues.{QueueLists, position_of, is_registered, entries_of, entries_at, local_entries_at, unregistered, unregistered_at, fair, fair_count}
use Rattle.executor_core.specs.Ring.{IdRing}
use Rattle.executor_core.specs.World.{Execution}
use Rattle.executor_core.specs.World.Runners.{new_ring, RunnersTied}
use Rattle.executor_core.specs.World.Steps.{ticker, notice_reply, register_row, fair_row, unregister_row}
use Rattle.executor_core.specs.World.Phases.{at_rest, waits, in_store, has_ended, has_to_search, notices_in, is_run, is_over, ticker_or}
use Rattle.executor_core.specs.World.Tickers.{runner_or, runner_of, has_queue, is_new_run, may_register as may_register_run, left}
use Rattle.executor_core.specs.World.View.{execution_of, IsWorld}
use Rattle.executor_core.proofs.ListLemmas.{length-slice_set}
use Rattle.executor_core.proofs.QueueLemmas.{registered-entries, fair-permutes, unregistered-permutes}
use Rattle.executor_core.proofs.World.Agreement.{same_cells}
use Rattle.executor_core.proofs.World.Notices.{Covers, no_notice_lost, notices_again, kept_is, covered_noticed, covered_quiet, flag_quiet}
use Rattle.executor_core.proofs.World.Room.{room_again}
use Rattle.executor_core.proofs.World.Runners.{run_is, not_run, new_places, runners_registered, runners_unregistered, runners_shaped}
use Rattle.executor_core.proofs.World.Searches.{no_items, fair_shapes}
use Rattle.executor_core.proofs.World.Steps.{stepped, Done}
use Rattle.executor_core.proofs.World.Tickers.{known, stores_same, tied_phase}
use Rattle.executor_core.proofs.World.TickerSteps.{is_rest, goes_open, ticked, ticked_sound}
use Rattle.executor_core.specs.declared.plain_core.Core.{Core}
use Rattle.executor_core.specs.declared.interleave.World.TheInside.{Inside}
use Rattle.executor_core.specs.declared.interleave.reply.Reply.{Reply}
use Rattle.executor_core.specs.declared.interleave.reply.Reply.TheVariants as reply
use Rattle.executor_core.specs.declared.interleave.ticker.Ticker.{Ticker}

-- what is a permutation of nothing
permuted_none : (xs ys : List ℕ) → IsPermutation xs ys → xs ≡ [] → ys ≡ []
permuted_none xs ys permutes none = no_items ys (length_permutation xs ys permutes ∙ ap length none)

get_at : {X : Type 0} (xs : List X) (i : ℕ) (d x : X) → slice_get xs i ≡ Some x → slice_index_or xs i d ≡ x
get_at [] i d x is = absurd (cc)
get_at (z ∷ zs) zero d x is = cc
get_at (z ∷ zs) (suc i) d x is = get_at zs i d x is

drop-none : {X : Type 0} (n : ℕ) (xs : List X) → xs ≡ [] → drop n xs ≡ []
drop-none n xs none = grind arith

fair_global : (k : ℕ) (q : QueueLists ℕ) → q.global ≡ [] → (fair k q).global ≡ []
fair_global k q none = grind (arith, drop-none)

unregistered_global : (k : ℕ) (q : QueueLists ℕ) → nat_lt 0 (length (entries_of k q.locals)) ≡ false → q.global ≡ [] → (unregistered k q).global ≡ []
unregistered_global k q nothing none = by_position (position_of k q.locals) nothing
  where
    by_entries : (entries : List ℕ) → nat_lt 0 (length entries) ≡ false → q.global ++ entries ≡ []
    by_entries [] nothing = append-nil q.global ∙ none
    by_entries (x ∷ xs) nothing = absurd (true≢false (sym (lt-ltb 0 (length (x ∷ xs)) (omega arith)) ∙ nothing))

    by_position : (o : Option ℕ) → nat_lt 0 (length (local_entries_at o q.locals)) ≡ false → (unregistered_at o q).global ≡ []
    by_position None nothing = none
    by_position (Some i) nothing = by_entries (entries_at i q.locals) nothing

module _ {P T : Type 0} (a : Inside P T) (sound : IsWorld (execution_of a) a.core.cells a.entries.items a.rings.items (vec_capacity a.log)) {w : Execution T} (view : execution_of a ≡ w) (far : w.accepted ≢ w.limit) (k : ℕ) where
  -- what was kept of the run
  abbrev before : Ticker
  before = ticker_or (slice_get a.tickers.items k)

  -- the world after the queues changed
  queued_sound : (cells : Table P T (Unit {0})) (rings : List (Option IdRing)) → cells.next ≡ a.core.cells.next → cells.cells ≡ a.core.cells.cells → (a.core.cells.global ≡ [] → cells.global ≡ []) → (queued_of a.core.cells ≡ [] → queued_of cells ≡ []) → RunnersTied a.local a.tickers.items cells rings → a.core.cells.closed ≡ false → cells.closed ≡ a.core.cells.closed
      → IsWorld (stepped a (a.accepted + 1) (record a.core { cells = cells }) a.log.items a.entries.items a.notices a.picks) cells a.entries.items rings (vec_capacity a.log)
  queued_sound cells rings next same empty nothing runners unclosed as_before = grind (arith, same_cells, notices_again, room_again)

  -- a new run registers its runner
  module _ (enabled : may_register_run w.locals (ticker k w) ≡ true) {t : Ticker} (t_is : t ≡ before) where
    rests_new : (at_rest before.phase ≡ true) × (is_new_run a.core.cells.locals before ≡ true)
    rests_new = and_parts (at_rest before.phase) (is_new_run a.core.cells.locals before) (ap (λ (w : Execution T). may_register_run w.locals (ticker k w)) view ∙ enabled)

    is_new : is_new_run a.core.cells.locals before ≡ true
    is_new = rests_new.1

    found_new : slice_get a.tickers.items k ≡ Some before
    found_new = known at_rest refl (slice_get a.tickers.items k) rests_new.0

    open_new : a.core.cells.closed ≡ false
    open_new = goes_open a sound k before found_new (ap is_over (is_rest before.phase rests_new.0))

    pub new_is_run : t.runner ≡ None → ⊥
    new_is_run none = true≢false (sym is_new ∙ not_run before (ap (λ (t : Ticker). t.runner) (sym t_is) ∙ none) a.core.cells.locals)

    module _ {r : ℕ} (runner : t.runner ≡ Some r) where
      runner_is : before.runner ≡ Some r
      runner_is = ap (λ (t : Ticker). t.runner) (sym t_is) ∙ runner

      -- its ring waits
      pub ring_there : slice_index_or a.rings.items r None ≡ Some (new_ring a.local)
      ring_there = get_at a.rings.items r None (Some (new_ring a.local)) ((sound.runners.runs k before r found_new runner_is).ring is_new)

      pub no_ring : None ≡ slice_index_or a.rings.items r None → ⊥
      no_ring none = let both = none ∙ ring_there in absurd (cc)

      pub ring_waits : {ring : IdRing} → Some ring ≡ slice_index_or a.rings.items r None → ring ≡ new_ring a.local
      ring_waits is = let both = is ∙ ring_there in cc

      pub ring_empty : {ring : IdRing} → Some ring ≡ slice_index_or a.rings.items r None → ring.ids ≡ []
      ring_empty is = ap (λ (i : IdRing). i.ids) (ring_waits is)

      may_now : may_register a.core.cells r ≡ true
      may_now = grind (arith, lt-ltb 0 _ (new_places sound.runners k before found_new is_new), and_parts, run_is, runner_is)

      pub registers : (false ≡ true) ↔ (may_register a.core.cells r ≡ true) → ⊥
      registers variant = false≢true (variant.1 may_now)

      pub register_done : {ring : IdRing} → ring ≡ new_ring a.local → {core : Core P T (Unit {0})} → core ≡ record a.core { cells = after_register a.core.cells r ring.capacity } → {rings : List (Option IdRing)} → rings ≡ slice_set a.rings.items r None
          → Done (stepped a (a.accepted + 1) core a.log.items a.entries.items a.notices a.picks) core.cells a.entries.items rings (vec_capacity a.log) (register_row k w) reply.Done
      register_done {ring} ring_is {core} core_is rings_are =
          let core_now : core ≡ record a.core { cells = after_register a.core.cells r a.local } = core_is ∙ ap (λ (i : IdRing). let c : Core P T (Unit {0}) = record a.core { cells = after_register a.core.cells r i.capacity } in c) ring_is in
          let cells : Table P T (Unit {0}) = after_register a.core.cells r a.local in
          let named : runner_of before ≡ r = ap runner_or runner_is in
          rw (← view, core_now, rings_are) (record {
            sound = queued_sound cells (slice_set a.rings.items r None) refl refl (λ none. none) (λ none. registered-entries r a.local (queues_of a.core.cells) ∙ none) (runners_registered sound.runners k before r found_new runner_is is_new) open_new refl;
            does = rw named (refl, refl);
          })

  -- a run at rest whose runner is registered
  module _ (enabled : at_rest (ticker k w).phase && has_queue w.locals (ticker k w) ≡ true) {t : Ticker} (t_is : t ≡ before) where
    rests : (at_rest before.phase ≡ true) × (has_queue a.core.cells.locals before ≡ true)
    rests = and_parts (at_rest before.phase) (has_queue a.core.cells.locals before) (ap (λ (w : Execution T). at_rest (ticker k w).phase && has_queue w.locals (ticker k w)) view ∙ enabled)

    found_rest : slice_get a.tickers.items k ≡ Some before
    found_rest = known at_rest refl (slice_get a.tickers.items k) rests.0

    open_rest : a.core.cells.closed ≡ false
    open_rest = goes_open a sound k before found_rest (ap is_over (is_rest before.phase rests.0))

    pub rest_is_run : t.runner ≡ None → ⊥
    rest_is_run none = false≢true (ap is_some (sym none) ∙ ap is_run t_is ∙ (and_parts (is_run before) _ rests.1).0)

    module _ {r : ℕ} (runner : t.runner ≡ Some r) where
      runner_there : before.runner ≡ Some r
      runner_there = ap (λ (t : Ticker). t.runner) (sym t_is) ∙ runner

      named_there : runner_of before ≡ r
      named_there = ap runner_or runner_there

      queue_there : is_registered r a.core.cells.locals ≡ true
      queue_there = ap (λ r. is_registered r a.core.cells.locals) (sym named_there) ∙ (and_parts (is_run before) _ rests.1).1

      pub fair_done : {core : Core P T (Unit {0})} → core ≡ record a.core { cells = after_fair a.core.cells r } → {moved : ℕ} → moved ≡ fair_count r (queues_of a.core.cells)
          → Done (stepped a (a.accepted + 1) core a.log.items a.entries.items a.notices a.picks) core.cells a.entries.items a.rings.items (vec_capacity a.log) (fair_row k w) (reply.Moved moved)
      fair_done {core} core_is moved_is =
          let cells : Table P T (Unit {0}) = after_fair a.core.cells r in
          rw (← view, core_is, moved_is) (record {
            sound = queued_sound cells a.rings.items refl refl (fair_global r (queues_of a.core.cells)) (permuted_none (queued_of a.core.cells) (queued_of cells) (fair-permutes r (queues_of a.core.cells))) (runners_shaped sound.runners (fair_shapes r (queues_of a.core.cells)) refl refl) open_rest refl;
            does = rw named_there (refl, refl);
          })

      pub unregister_done : {core : Core P T (Unit {0})} → core ≡ record a.core { cells = after_unregister a.core.cells r } → {some : Bool} → some ≡ unregister_queues a.core.cells r → {u : Ticker} → u ≡ left t → {tickers : List Ticker} → tickers ≡ slice_set a.tickers.items k u
          → {notices : ℕ} → notices ≡ cond some (a.notices + 1) a.notices → {kept : Bool} → kept ≡ some → {answer : Reply T} → answer ≡ notice_reply kept
          → Done (ticked a sound view far core a.log.items a.entries.items notices tickers a.holder) core.cells a.entries.items a.rings.items (vec_capacity a.log) (unregister_row k w) answer
      unregister_done {core} core_is some_is u_is tickers_are noticed keeps answers =
          let cells : Table P T (Unit {0}) = after_unregister a.core.cells r in
          let some : Bool = unregister_queues a.core.cells r in
          let v : Ticker = left before in
          let n : ℕ = cond some (a.notices + 1) a.notices in
          let phase = is_rest before.phase rests.0 in
          let world : Execution T = ticked a sound view far (record a.core { cells = cells }) a.log.items a.entries.items n (slice_set a.tickers.items k v) a.holder in
          let change = kept_is (execution_of a) world sound.notices k before v found_rest refl in
          let none = ap notices_in phase in
          let more = one_more some a.notices in
          let long = length-slice_set a.tickers.items k v in
          let covers : Covers world = elim (cases_Bool some) [
            | inl queues ↦ let noticed : n ≡ a.notices + 1 = cond-true some _ _ queues in covered_noticed (execution_of a) world sound.notices k before v found_rest refl (omega arith)
            | inr nothing ↦
                let same : n ≡ a.notices = cond-false some _ _ nothing in
                covered_quiet (execution_of a) world sound.notices k before v found_rest refl (record { global = unregistered_global r (queues_of a.core.cells) nothing; all = permuted_none (queued_of a.core.cells) (queued_of cells) (unregistered-permutes r (queues_of a.core.cells)) }) refl refl (omega arith) (ap has_to_search phase) (omega arith) (λ some. some)
          ] in
          rw (← view, core_is, tickers_are, u_is, t_is, answers, keeps, noticed, some_is) (record {
            sound = ticked_sound a sound view far (record a.core { cells = cells }) a.log.items a.entries.items n (slice_set a.tickers.items k v) a.holder (same_cells sound.agree refl refl) refl (omega arith) (omega arith)
                (no_notice_lost (flag_quiet (execution_of a) world sound.notices k before v found_rest refl sound.tickers.stores (ap in_store phase) refl refl refl refl) covers)
                (record { tied = tied_phase sound.tickers.tied k before found_rest v refl (ap has_ended phase) refl (λ woken. absurd (false≢true woken)) a.core.sleepers refl refl; stores = stores_same a.tickers.items k before v found_rest a.holder sound.tickers.stores (ap in_store phase) refl; opened = sound.tickers.opened })
                (runners_unregistered sound.runners k before v r found_rest refl runner_there refl refl queue_there)
                (omega arith) open_rest refl;
            does = rw named_there (refl, refl);
          })
        where
          one_more : (b : Bool) (n : ℕ) → cond b (n + 1) n ≤ n + 1
          one_more true n = omega arith
          one_more false n = omega arith
