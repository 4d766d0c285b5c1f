-- A task is spawned; and the world before its first step.
use Rattle.std.proofs.Common.{◌≡◌, ◌≢◌, ℕ, ◌+◌, ◌*◌, ◌<◌, ◌≤◌, ◌||◌, not, true, false, List, [], ◌∷◌, ◌++◌, length, Option, Some, None, refl, sym, ap, subst, ◌∙◌, inl, inr, arith}
use Rattle.std.proofs.lemmas.Bool.{cases_eq, true≢false}
use Rattle.std.specs.Prelude.{slice_get, sum_by}
use Rattle.std.specs.Ordering.{nat_cmp}
use Rattle.std.specs.FinMap as map
use Rattle.std.specs.Vec.{vec_capacity}
use Rattle.executor_core.specs.Cells.{Slotted, Table}
use Rattle.executor_core.specs.Cells.Calls.{after_spawn, IsFree, empty_table}
use Rattle.executor_core.specs.Cell.Changes.{new_cell}
use Rattle.executor_core.specs.Sleepers.Calls.{no_sleepers}
use Rattle.executor_core.specs.Ring.{IdRing}
use Rattle.executor_core.specs.SpawnError.{last_number}
use Rattle.executor_core.specs.World.{Execution}
use Rattle.executor_core.specs.World.Entries.{infos}
use Rattle.executor_core.specs.World.Log.{dropped}
use Rattle.executor_core.specs.World.Steps.{new_info, Spawns}
use Rattle.executor_core.specs.World.View.{execution_of, IsWorld}
use Rattle.executor_core.specs.World.Agreement.{Status, status, no_status, FewPollsFor, NumberAgrees, Agree}
use Rattle.executor_core.proofs.ListLemmas.{get-push_last, get-push_other, get_past, length-push}
use Rattle.executor_core.proofs.SlotLemmas.{insert_same, insert_other}
use Rattle.executor_core.proofs.World.Log.{on_spawn, order-push, status_other}
use Rattle.executor_core.proofs.World.Entries.{infos-push, length-infos, entry_of}
use Rattle.executor_core.proofs.World.Agreement.{number_agrees_by, cell_or_none}
use Rattle.executor_core.proofs.World.Notices.{notices_opening}
use Rattle.executor_core.proofs.World.Runners.{runners_opening}
use Rattle.executor_core.specs.World.Phases.{notices_in}
use Rattle.executor_core.proofs.World.Steps.{stepped, stepped_sound}
use Rattle.executor_core.proofs.World.Tickers.{tied_opening}
use Rattle.executor_core.specs.declared.plain_core.Core.{Core}
use Rattle.executor_core.specs.declared.interleave.World.TheInside.{Inside}
use Rattle.executor_core.specs.declared.interleave.ticker.Ticker.{Ticker}
use Rattle.executor_core.specs.declared.interleave.entry.TaskInfo.{TaskInfo}
use Rattle.executor_core.specs.declared.interleave.entry.TaskEntry.{TaskEntry}
use Rattle.executor_core.specs.declared.interleave.event.Event.{Event}
use Rattle.executor_core.specs.declared.interleave.event.Event.TheVariants.{Spawned}
use Rattle.executor_core.specs.declared.interleave.reply.Reply.TheVariants.{OutOfMemory, Task}

-- the entry of a new task
abbrev new_entry : {P : Type 0} → ℕ → TaskEntry P
new_entry slot = record { info = new_info slot; out = None }

module _ {P T : Type 0} {table : Table P T (Unit {0})} {log : List (Event T)} {entries : List (TaskEntry P)} (agree : Agree table log entries) where
  spawn_holds : (slot : ℕ) (p : P) → Agree (after_spawn table slot p) (log ++ Spawned table.next ∷ []) (entries ++ new_entry slot ∷ [])
  spawn_holds slot p =
      let n = table.next in
      let unknown : slice_get entries n ≡ None = ap (slice_get entries) agree.next ∙ get_past entries in
      let fresh = unspawned (map.get table.cells n) _ (slice_get entries n) unknown (agree.each n) in
      let here : status n (log ++ Spawned n ∷ []) ≡ record no_status { spawned = true } = on_spawn n log ∙ ap (λ (s : Status T). record s { spawned = true }) fresh in
      let found : slice_get (entries ++ new_entry slot ∷ []) n ≡ Some (new_entry slot) = ap (slice_get (entries ++ new_entry slot ∷ [])) agree.next ∙ get-push_last entries (new_entry slot) in
      record {
        next = ap (λ k. k + 1) agree.next ∙ sym (length-push entries (new_entry slot));
        each = λ q. elim (cases_eq q n) [
          | inl same ↦ subst (λ k. NumberAgrees (map.get (after_spawn table slot p).cells k) (status k (log ++ Spawned n ∷ [])) (slice_get (entries ++ new_entry slot ∷ []) k)) (sym same)
              (number_agrees_by _ (Some (record { slot = slot; cell = new_cell p })) _ (record no_status { spawned = true }) _ (Some (new_entry slot)) (insert_same table.cells n _ n refl) here found
              (record { slot = refl; has_handle = refl; awaited = refl; cancelled = refl; state = (record { spawned = refl; dropped = refl; held = refl; outputs = refl; given = refl }, refl); out = refl; polled = tt }))
          | inr far ↦ number_agrees_by _ _ _ _ _ _ (insert_other table.cells n _ q far) (status_other q log (Spawned n) far) (get-push_other entries (new_entry slot) q (λ same. far (same ∙ sym agree.next))) (agree.each q)
        ];
        few_polls = λ q. elim (cases_eq q n) [
          | inl same ↦ subst (λ k. FewPollsFor (status k (log ++ Spawned n ∷ []))) (sym same) (subst FewPollsFor (sym (on_spawn n log)) (agree.few_polls n))
          | inr far ↦ subst FewPollsFor (sym (status_other q log (Spawned n) far)) (agree.few_polls q)
        ];
        order = order-push log (Spawned n) agree.order tt;
      }
    where
      unspawned : (o : Option (Slotted P T (Unit {0}))) (s : Status T) (i : Option (TaskEntry P)) → i ≡ None → NumberAgrees o s i → s ≡ no_status
      unspawned None s None e h = h
      unspawned (Some slotted) s None e h = absurd h
      unspawned o s (Some i) e h = absurd (cc)

  -- a slot without a cell is the slot of no task that is undropped or has its handle
  free_slot : (slot : ℕ) → IsFree table slot → (n : ℕ) (i : TaskInfo) → slice_get (infos entries) n ≡ Some i → not (dropped n log) || i.has_handle ≡ true → i.slot ≢ slot
  free_slot slot free n i found there same = elim (cell_or_none agree n _ (entry_of entries n i found).1) [
    | inl at ↦ free n at.slotted at.here (at.agrees.slot ∙ same)
    | inr none ↦ absurd (cc (there, ap (λ b. not b || i.has_handle) none.agrees.dropped, none.agrees.has_handle))
  ]

module _ {P T : Type 0} (a : Inside P T) (sound : IsWorld (execution_of a) a.core.cells a.entries.items a.rings.items (vec_capacity a.log)) {w : Execution T} (view : execution_of a ≡ w) (far : w.accepted ≢ w.limit) where
  -- the numbers of a world do not run out
  pub last_unreached : a.core.cells.next ≡ last_number → ⊥
  last_unreached is = grind (arith, length-infos)

  -- memory was refused, and nothing changed
  pub spawn_refused : {core : Core P T (Unit {0})} → core ≡ a.core → {entries : List (TaskEntry P)} → entries ≡ a.entries.items
      → IsWorld (stepped a a.accepted core a.log.items entries a.notices a.picks) core.cells entries a.rings.items (vec_capacity a.log) × Spawns w OutOfMemory (stepped a a.accepted core a.log.items entries a.notices a.picks)
  spawn_refused core_is entries_is = rw (← view, core_is, entries_is) (sound, inl (refl, refl))

  pub spawn_done : w.closed ≡ false → (slot : ℕ) (p : P) {number : ℕ} → number ≡ a.core.cells.next → IsFree a.core.cells slot → {core : Core P T (Unit {0})} → core ≡ record a.core { cells = after_spawn a.core.cells slot p } → {entry : TaskEntry P} → entry ≡ new_entry slot
      → {reserved entries : List (TaskEntry P)} → entries ≡ reserved ++ entry ∷ [] → reserved ≡ a.entries.items → {log : List (Event T)} → log ≡ a.log.items ++ Spawned number ∷ [] → {notices : ℕ} → notices ≡ a.notices + 1 → {room : ℕ} → room ≡ vec_capacity a.log
      → IsWorld (stepped a (a.accepted + 1) core log entries notices a.picks) core.cells entries a.rings.items room × Spawns w (Task number) (stepped a (a.accepted + 1) core log entries notices a.picks)
  spawn_done unclosed slot p number_is free core_is entry_is entries_is reserved_is log_is noticed capacity =
      let far = rw (← view) at far in
      rw (← view, core_is, entries_is, reserved_is, entry_is, log_is, number_is, noticed, capacity) (
        stepped_sound a sound refl far true _ _ _ (λ never. absurd (cc)) refl (let long = length-push a.entries.items (new_entry slot) in omega arith) (let long = length-push a.log.items (Spawned a.core.cells.next) in omega arith) (spawn_holds sound.agree slot p) (λ on. absurd (true≢false (sym on ∙ ap (λ (w : Execution T). w.closed) view ∙ unclosed))),
        inr (slot, free_slot sound.agree slot free, ap Task (sound.agree.next ∙ sym (length-infos a.entries.items)), rw (infos-push a.entries.items (new_entry slot), sound.agree.next ∙ sym (length-infos a.entries.items)) refl),
      )

-- before the first step
pub opening_sound : {P T : Type 0} {w : Execution T} {table : Table P T (Unit {0})} {entries : List (TaskEntry P)} {rings : List (Option IdRing)} {room : ℕ} → table ≡ empty_table 0 → w.sleepers ≡ no_sleepers → w.tickers ≡ [] → w.holder ≡ None → w.closed ≡ false → w.log ≡ [] → w.tasks ≡ [] → w.accepted ≡ 0 → w.limit ≤ 1000000 → w.picks + w.notices ≡ 0 → room ≡ 3 * w.limit → entries ≡ [] → rings ≡ [] → 0 < w.local → IsWorld w table entries rings room
opening_sound {P} {T} {w} {table} {entries} {rings} cells_are nobody no_tickers free unclosed no_events no_tasks none bounded unspent capacity no_entries no_rings roomy =
    let tasks = ap length no_tasks in
    let events = ap length no_events in
    let none_made = ap length no_tickers in
    let none_kept = ap (sum_by (λ (t : Ticker). notices_in t.phase)) no_tickers in
    record {
      agree = rw (cells_are, no_events, no_entries) opening_agrees;
      notices = notices_opening w nobody;
      tickers = record { tied = rw (no_tickers, nobody) tied_opening; stores = λ k. rw (no_tickers, free) refl; opened = rw (nobody, free) refl };
      runners = rw (no_tickers, cells_are, no_rings) (runners_opening w.local roomy);
      closing = λ on. absurd (true≢false (sym on ∙ unclosed));
      room = record { within = omega arith; bounded = bounded; few_unspent = omega arith; few_tasks = omega arith; few_events = omega arith; few_before = λ _ _. omega arith; few_tickers = omega arith; enough = omega arith };
    }
  where
    no_split : {E : Type 0} (before : List E) (e : E) (after : List E) → [] ≡ before ++ e ∷ after → ⊥
    no_split [] e after h = cc
    no_split (b ∷ bs) e after h = cc

    opening_agrees : Agree {P = P} {T = T} (empty_table 0) [] []
    opening_agrees =
        record {
          next = refl;
          each = λ n. number_agrees_by _ None _ no_status _ None (map.get-empty nat_cmp n) refl refl refl;
          few_polls = λ n. omega arith;
          order = λ before e after is. absurd (no_split before e after is);
        }
