-- What the wake of a task in its poll and the end of that poll, which was pending, keep and give together.
use Rattle.std.proofs.Common.{◌≡◌, ℕ, Bool, true, false, List, [], ◌∷◌, ◌++◌, set, get_or, Option, Some, None, cond, sym, ap, subst, ◌∙◌, arith}
use Rattle.std.proofs.lemmas.List.{set-set, get_or-set_same}
use Rattle.executor_core.specs.Cell.{is_idle, is_held}
use Rattle.executor_core.specs.Cells.View.{numbers_of, table_of, IsSound}
use Rattle.executor_core.specs.Cells.Calls.{after_wake, after_end_pending}
use Rattle.executor_core.specs.Queues.State.{QueueState}
use Rattle.executor_core.specs.Cell.Changes.{takes_back, pended, woken}
use Rattle.executor_core.proofs.TableLemmas.{with_global}
use Rattle.executor_core.proofs.SlotLemmas.{within}
use Rattle.executor_core.proofs.WakeLemmas.{quiet_sound, wake_table}
use Rattle.executor_core.proofs.EndPendingLemmas.{end_pending_queued, end_pending_table}
use Rattle.executor_core.specs.declared.task.cell.Cell.{Cell}
use Rattle.executor_core.specs.declared.task.cell.Numbered.{Numbered}
use Rattle.executor_core.specs.declared.task.cell.TaskId.{TaskId}

module _ {P T W : Type 0} where
  -- a wake marks a cell whose future is out, which takes the future back as before
  marked : (c : Cell P T W) → takes_back c ≡ true → (is_idle c.state ≡ false) × (is_held (woken c).state ≡ true) × ((woken c).woken ≡ true) × (takes_back (woken c) ≡ true)
  marked c h = grind arith

  -- the slots between the wake and the end
  module _ {next undropped : ℕ} {slots : List (Option (Numbered (Cell P T W)))} {ids : List TaskId} (sound : IsSound next slots ids undropped)
      (id : TaskId) (e : Numbered (Cell P T W)) (there : get_or slots id.slot None ≡ Some e) (out : takes_back e.cell ≡ true) where
    abbrev between : Numbered (Cell P T W)
    between = record { number = e.number; cell = woken e.cell }

    there_between : get_or (set slots id.slot (Some between)) id.slot None ≡ Some between
    there_between = get_or-set_same slots id.slot (Some between) None (within slots id.slot e there)

    sound_between : IsSound next (set slots id.slot (Some between)) ids undropped
    sound_between = quiet_sound sound id e there (marked e.cell out).0

    pub end_woken_queued : {later : List TaskId} (p : P) → e.number ≡ id.number → later ≡ ids ++ id ∷ []
        → IsSound next (set slots id.slot (Some (record { number = e.number; cell = pended (woken e.cell) p }))) later undropped
    end_woken_queued {later} p number longer =
        subst (λ l. IsSound next l later undropped) (set-set slots id.slot (Some between) _)
        (end_pending_queued sound_between id between p there_between number (marked e.cell out).1 (marked e.cell out).2 longer)

    pub end_woken_table : {closed : Bool} (q : QueueState) (p : P) (later : List TaskId) → e.number ≡ id.number → numbers_of later ≡ numbers_of q.lists.global ++ id.number ∷ []
        → table_of next (set slots id.slot (Some (record { number = e.number; cell = pended (woken e.cell) p }))) (with_global later q) closed ≡ after_end_pending (after_wake (table_of next slots q closed) id) id p
    end_woken_table {closed} q p later number lists =
        ap (λ l. table_of next l (with_global later q) closed) (sym (set-set slots id.slot (Some between) _))
        ∙ end_pending_table sound_between q id between p later there_between number (marked e.cell out).3 (lists ∙ ap (λ b. cond b (numbers_of q.lists.global ++ id.number ∷ []) (numbers_of q.lists.global)) (sym (marked e.cell out).2))
        ∙ ap (λ t. after_end_pending t id p) (wake_table sound q q.lists.global id e there number (ap (λ b. cond b (numbers_of q.lists.global ++ id.number ∷ []) (numbers_of q.lists.global)) (sym (marked e.cell out).0)))
