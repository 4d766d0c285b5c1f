-- What was closed stays so, and what follows of it.
use Rattle.std.proofs.Common.{◌≡◌, ◌≢◌, ℕ, ◌==◌, ◌||◌, Bool, true, false, List, [], ◌∷◌, ◌++◌, Option, cond, refl, sym, ap, ◌∙◌, inl, inr, append_assoc, arith}
use Rattle.std.proofs.lemmas.Bool.{cases_Bool, eqb-true, eq-eqb, or_left, or_right, true≢false, false≢true}
use Rattle.std.proofs.lemmas.List.Sums.{sum_by-cons}
use Rattle.std.specs.Prelude.{slice_get}
use Rattle.std.specs.FinMap as map
use Rattle.executor_core.specs.Numbers.{times}
use Rattle.executor_core.specs.Cells.{Slotted, Table}
use Rattle.executor_core.specs.World.{Execution}
use Rattle.executor_core.specs.World.Log.{is_spawn, is_drop, spawned, dropped, cancelled, held, owed, outputs}
use Rattle.executor_core.specs.World.Promises.{InOrder, OnePlace, all_queues}
use Rattle.executor_core.specs.World.Closing.{NoneOwed, drops, AllMarked, Closing, IsClosed}
use Rattle.executor_core.specs.World.Steps.{drain_row, handle_row}
use Rattle.executor_core.specs.World.Agreement.{Status, status, NumberAgrees, Agree}
use Rattle.executor_core.proofs.World.Agreement.{owed_of, owed_state}
use Rattle.executor_core.proofs.World.Log.{status-push}
use Rattle.executor_core.specs.declared.interleave.entry.TaskEntry.{TaskEntry}
use Rattle.executor_core.specs.declared.interleave.event.Event.{Event}
use Rattle.executor_core.specs.declared.interleave.event.Event.TheVariants.{Dropped}
use Rattle.executor_core.specs.declared.interleave.reply.Reply.TheVariants as reply

either_more : (a b c d : Bool) → a || b ≡ true → (c || a) || (d || b) ≡ true
either_more a b c d h = grind (arith, or_right)

-- more of the log leaves its tasks marked
module _ {T : Type 0} where
  pub marked_push : (log : List (Event T)) (e : Event T) → ((n : ℕ) → is_spawn n e ≡ false) → AllMarked log → AllMarked (log ++ e ∷ [])
  marked_push log e other marked n was =
      let pushed = status-push n log e in
      let before : spawned n log ≡ true = sym (ap (λ s. s.spawned) pushed ∙ ap (λ b. b || spawned n log) (other n)) ∙ was in
      ap (λ s. s.dropped || s.cancelled) pushed ∙ either_more (dropped n log) (cancelled n log) _ _ (marked n before)

  pub marked_push_if : (b : Bool) (log : List (Event T)) (e : Event T) → ((n : ℕ) → is_spawn n e ≡ false) → AllMarked log → AllMarked (cond b (log ++ e ∷ []) log)
  marked_push_if true log e other marked = marked_push log e other marked
  marked_push_if false log e other marked = marked

-- a future is dropped once
module _ {T : Type 0} (n : ℕ) {log : List (Event T)} (order : InOrder log) where
  dropped_push : (before : List (Event T)) (e : Event T) → dropped n (before ++ e ∷ []) ≡ is_drop n e || dropped n before
  dropped_push before e = ap (λ s. s.dropped) (status-push n before e)

  other_drop : (e : Event T) → is_drop n e ≡ true → e ≡ Dropped n
  other_drop e is = grind (arith, eqb-true)

  may_drop : (before : List (Event T)) (e : Event T) (rest : List (Event T)) → log ≡ before ++ e ∷ rest → is_drop n e ≡ true → dropped n before ≡ false
  may_drop before e rest is drop = grind (arith, other_drop)

  further : (before : List (Event T)) (e : Event T) (rest : List (Event T)) → log ≡ before ++ e ∷ rest → log ≡ (before ++ e ∷ []) ++ rest
  further before e rest is = is ∙ sym (append_assoc before (e ∷ []) rest)

  -- none is dropped after a drop
  no_more : (rest before : List (Event T)) → log ≡ before ++ rest → dropped n before ≡ true → drops n rest ≡ 0
  no_more [] before is was = refl
  no_more (e ∷ rest) before is was = grind (arith, no_more rest (before ++ e ∷ []) (further before e rest is) (dropped_push before e ∙ or_right (is_drop n e) (dropped n before) was), cases_Bool, may_drop, further, dropped_push, or_right, sum_by-cons)

  counted_drops : (rest before : List (Event T)) → log ≡ before ++ rest → dropped n before ≡ false → dropped n rest ≡ true → drops n rest ≡ 1
  counted_drops [] before is fresh now = absurd (false≢true now)
  counted_drops (e ∷ rest) before is fresh now =
      let one = sum_by-cons (λ x. cond (is_drop n x) 1 0) e rest in
      elim (cases_Bool (is_drop n e)) [
        | inl drop ↦
            let inner = no_more rest (before ++ e ∷ []) (further before e rest is) (dropped_push before e ∙ or_left (is_drop n e) (dropped n before) drop) in
            let some : ◌≡◌ {A = ℕ} (cond (is_drop n e) 1 0) 1 = ap (λ b. cond {A = ℕ} b 1 0) drop in
            omega arith
        | inr other ↦
            let inner = counted_drops rest (before ++ e ∷ []) (further before e rest is) (dropped_push before e ∙ ap (λ b. b || dropped n before) other ∙ fresh) (sym (ap (λ b. b || dropped n rest) other) ∙ now) in
            let none : ◌≡◌ {A = ℕ} (cond (is_drop n e) 1 0) 0 = ap (λ b. cond {A = ℕ} b 1 0) other in
            omega arith
      ]

  pub dropped_once : dropped n log ≡ true → drops n log ≡ 1
  dropped_once now = counted_drops log [] refl refl now

module _ {P T : Type 0} where
  -- an undropped task that is marked is owed or held
  owed_or_held : (o : Option (Slotted P T (Unit {0}))) (s : Status T) (i : Option (TaskEntry P)) → NumberAgrees o s i → s.spawned ≡ true → s.dropped ≡ false → s.cancelled ≡ true → owed_of s || s.held ≡ true
  owed_or_held o s i h was alive marked = grind (arith, or_left, owed_state, or_right)

  -- a future that gave an output was dropped
  gave_dropped : (o : Option (Slotted P T (Unit {0}))) (s : Status T) (i : Option (TaskEntry P)) → NumberAgrees o s i → s.outputs ≢ [] → s.dropped ≡ true
  gave_dropped o s i h gave = grind arith

-- what holds of a world that was closed
module _ {P T : Type 0} {w : Execution T} {table : Table P T (Unit {0})} {entries : List (TaskEntry P)} (agree : Agree table w.log entries) (one : OnePlace w.log (all_queues w)) (closed : IsClosed w) where
  undropped_kept : (n : ℕ) → spawned n w.log ≡ true → dropped n w.log ≡ false → owed n w.log || held n w.log ≡ true
  undropped_kept n was alive =
      owed_or_held (map.get table.cells n) (status n w.log) (slice_get entries n) (agree.each n) was alive
      (sym (ap (λ b. b || cancelled n w.log) alive) ∙ closed.marked n was)

  -- all that is queued is in the global queue
  queued_is : all_queues w ≡ w.global
  queued_is = ap (λ l. l ++ w.global) closed.emptied

  none_owed : w.global ≡ [] → NoneOwed w.log
  none_owed none n = grind (arith, one n, cases_Bool, queued_is)

  empty_by : NoneOwed w.log → (queue : List ℕ) → w.global ≡ queue → queue ≡ []
  empty_by none [] is = refl
  empty_by none (n ∷ rest) is =
      let placed = one n in
      let there = ap (times n) (queued_is ∙ is) in
      let more = sum_by-cons (λ k. cond (k == n) 1 0) n rest in
      let itself : ◌≡◌ {A = ℕ} (cond (n == n) 1 0) 1 = ap (λ b. cond {A = ℕ} b 1 0) (eq-eqb n n refl) in
      let nobody : ◌≡◌ {A = ℕ} (cond (owed n w.log) 1 0) 0 = ap (λ b. cond {A = ℕ} b 1 0) (none n) in
      absurd (omega arith)

  drains_none : (queue : List ℕ) → (drain_row queue w).0 ≡ reply.NoTask → queue ≡ []
  drains_none queue is = grind arith

  give_output : (n : ℕ) (t : T) → outputs n w.log ≡ t ∷ [] → (handle_row n w).0 ≡ reply.Output t
  give_output n t is =
      let gone = gave_dropped (map.get table.cells n) (status n w.log) (slice_get entries n) (agree.each n) (λ none. absurd (cc (none, is))) in
      rw (gone, is) refl

  pub closing_kept : Closing w
  closing_kept =
      let owed_none : (drain_row w.global w).0 ≡ reply.NoTask → NoneOwed w.log = λ is. none_owed (drains_none w.global is) in
      record {
        undropped = undropped_kept;
        drained = (owed_none, λ none. ap (λ queue. (drain_row queue w).0) (empty_by none w.global refl));
        dropped = λ is nobody n was. elim (cases_Bool (dropped n w.log)) [
          | inl gone ↦ dropped_once n agree.order gone
          | inr alive ↦ absurd (true≢false (sym (undropped_kept n was alive) ∙ (λ i. owed_none is n i || nobody n i)))
        ];
        outputs = λ n t there is. give_output n t is;
      }
