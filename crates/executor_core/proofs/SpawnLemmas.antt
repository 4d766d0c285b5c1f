-- What a spawn keeps and gives.
use Rattle.std.proofs.Common.{◌≡◌, ℕ, Bool, false, ◌+◌, List, [], ◌∷◌, ◌++◌, length, get_or, Option, Some, None, cond, refl, sym, ap, subst, ◌∙◌, inl, inr, arith, length-append}
use Rattle.std.specs.FinMap as map
use Rattle.std.specs.Ordering.{nat_cmp}
use Rattle.executor_core.specs.Cells.{Slotted}
use Rattle.executor_core.specs.Numbers.{times}
use Rattle.executor_core.specs.Cells.Law.{scheduled_in, ScheduledOnce}
use Rattle.executor_core.specs.Cells.View.{seen, cells_of, numbers_of, table_of, Placed, IsSound, Settled, is_queueable}
use Rattle.executor_core.specs.Cell.Changes.{new_cell}
use Rattle.executor_core.specs.Cells.Calls.{after_spawn, IsFree, empty_table}
use Rattle.executor_core.specs.Queues.State.{QueueState, no_queues, with_lists, pushed}
use Rattle.executor_core.proofs.TableLemmas.{same_table}
use Rattle.executor_core.proofs.SlotLemmas.{get_sees}
use Rattle.executor_core.specs.declared.task.cell.Cell.{Cell}
use Rattle.executor_core.specs.declared.task.cell.Numbered.{Numbered}
use Rattle.executor_core.specs.declared.task.cell.TaskId.{TaskId}
use Rattle.std.proofs.lemmas.List.Elements.{All-push, All-weaker}
use Rattle.std.proofs.Common.{count_by}
use Rattle.std.proofs.lemmas.Bool.{cases_eq}
use Rattle.std.specs.List.{All}
use Rattle.executor_core.specs.Slots.{Changes}
use Rattle.executor_core.proofs.SlotLemmas.{insert_same, insert_other, Fits, put_distinct, cells_of-put, get-cells_of}
use Rattle.executor_core.proofs.TableLemmas.{law_put, times-push_same, times-push_other, numbers_of-push}
use Rattle.executor_core.proofs.CountLemmas.{recounted}

none_of : {X : Type 0} (o : Option X) → ((x : X) → o ≡ Some x → ⊥) → o ≡ None
none_of o h = grind arith

counts : (u a b s t : ℕ) → u ≡ a + s → b ≡ a + 1 → t + 0 ≡ s + 0 → u + 1 ≡ b + t
counts u a b s t p q r = omega arith

module _ {P T W : Type 0} where
  -- the next number has no cell
  next_absent : {next undropped : ℕ} {slots : List (Option (Numbered (Cell P T W)))} {ids : List TaskId}
      → IsSound next slots ids undropped → map.get (cells_of slots) next ≡ None
  next_absent {next} {slots = slots} sound =
      none_of _ (λ t found.
      let sees = get_sees slots next t found in
      let below = sound.below sees.at sees.cell sees.there in
      let same = sees.number in
      omega arith)

  new_fits : {next undropped : ℕ} {slots : List (Option (Numbered (Cell P T W)))} {ids : List TaskId}
      → IsSound next slots ids undropped → (key : ℕ) → get_or slots key None ≡ None → Fits slots key next
  new_fits sound key vacant = grind arith

  kept_beside : (m : map.FinMap nat_cmp (Slotted P T W)) (n : ℕ) (slotted : Slotted P T W) → map.get m n ≡ None → (other : TaskId) → Placed m other → Placed (map.insert m n slotted) other
  kept_beside m n slotted none other placed = grind (arith, insert_other)

  -- the slots keep their count if neither old nor new slot may be queued later
  same_count : (old new : List (Option (Numbered (Cell P T W)))) (key : ℕ) (slot : Option (Numbered (Cell P T W))) → Changes old new key slot
      → count_by is_queueable new + cond (is_queueable (get_or old key None)) 1 0 ≡ count_by is_queueable old + cond (is_queueable slot) 1 0
  same_count old new key slot changes = grind (arith, recounted)

  pub spawn_sound : {next undropped : ℕ} {slots : List (Option (Numbered (Cell P T W)))} {ids later : List TaskId}
      → IsSound next slots ids undropped
      → (p : P) (new : List (Option (Numbered (Cell P T W)))) (key : ℕ) → get_or slots key None ≡ None
      → Changes slots new key (Some (record { number = next; cell = new_cell p }))
      → later ≡ ids ++ record { number = next; slot = key } ∷ []
      → IsSound (next + 1) new later (undropped + 1)
  spawn_sound {next} {undropped = undropped} {slots = slots} {ids = ids} {later = later} sound p new key vacant changes longer =
      let f : Numbered (Cell P T W) = record { number = next; cell = new_cell p } in
      let id : TaskId = record { number = next; slot = key } in
      let m = cells_of slots in
      let fits = new_fits sound key vacant in
      let cells : cells_of new ≡ map.insert m next (seen key (new_cell p)) = cells_of-put slots new key f sound.distinct fits changes in
      let numbered = sound.numbered in
      let lists : numbers_of later ≡ numbers_of ids ++ next ∷ [] = ap numbers_of longer ∙ numbers_of-push ids id in
      let none = next_absent sound in
      let was : times next (numbers_of ids) ≡ 0 = sound.law next ∙ ap (λ o. cond (scheduled_in o) 1 0) none in
      let more : times next (numbers_of ids ++ next ∷ []) ≡ times next (numbers_of ids) + 1 = times-push_same next (numbers_of ids) in
      let once : times next (numbers_of ids ++ next ∷ []) ≡ 1 = omega (arith, was, more) in
      record {
        below = λ i d found. elim (cases_eq i key) [
          | inl here ↦
              let is : d ≡ f = cc (ap (λ k. get_or new k None) here, found, changes.changed) in
              let number : d.number ≡ next = ap (λ x. x.number) is in
              omega arith
          | inr far ↦ let below = sound.below i d (sym (changes.others i far) ∙ found) in omega arith
        ];
        distinct = put_distinct slots new key f sound.distinct fits changes;
        placed = subst (λ n. All (Placed n) later) (sym cells) (subst (All (Placed (map.insert m next (seen key (new_cell p))))) (sym longer)
            (All-push (Placed (map.insert m next (seen key (new_cell p)))) ids id
            (All-weaker (Placed m) (Placed (map.insert m next (seen key (new_cell p)))) (kept_beside m next (seen key (new_cell p)) none) ids sound.placed)
            (seen key (new_cell p), insert_same m next (seen key (new_cell p)) next refl, refl)));
        law = subst (λ n. ScheduledOnce n (numbers_of later)) (sym cells)
            (law_put m (numbers_of ids) (numbers_of later) next (seen key (new_cell p)) sound.law (ap (times next) lists ∙ once) (λ q far. ap (times q) lists ∙ times-push_other q next (numbers_of ids) far));
        counted = counts _ _ _ _ _ sound.counted (ap length longer ∙ length-append ids (id ∷ [])) (ap (λ o. count_by is_queueable new + cond (is_queueable o) 1 0) (sym vacant) ∙ same_count slots new key (Some f) changes);
        numbered = omega arith;
        settled = λ i d found. elim (cases_eq i key) [
          | inl here ↦
              let is : d ≡ f = cc (ap (λ k. get_or new k None) here, found, changes.changed) in
              subst (λ x. Settled x.cell) (sym is) (λ dropped. absurd (cc (dropped)))
          | inr far ↦ sound.settled i d (sym (changes.others i far) ∙ found)
        ];
      }

  pub spawn_table : {closed : Bool} {next undropped : ℕ} {slots : List (Option (Numbered (Cell P T W)))} {ids : List TaskId}
      → IsSound next slots ids undropped
      → (q : QueueState) (p : P) (new : List (Option (Numbered (Cell P T W)))) (key : ℕ) → get_or slots key None ≡ None
      → Changes slots new key (Some (record { number = next; cell = new_cell p }))
      → table_of (next + 1) new (with_lists (pushed (record { number = next; slot = key }) q.lists) q) closed ≡ after_spawn (table_of next slots q closed) key p
  spawn_table {closed} {next} {slots = slots} sound q p new key vacant changes =
      same_table (table_of (next + 1) slots q closed) _ _ _ _
      (cells_of-put slots new key (record { number = next; cell = new_cell p }) sound.distinct (new_fits sound key vacant) changes)
      (numbers_of-push q.lists.global (record { number = next; slot = key }))

  pub spawn_free : {next undropped : ℕ} {slots : List (Option (Numbered (Cell P T W)))} {ids : List TaskId}
      → IsSound next slots ids undropped
      → (q : QueueState) (closed : Bool) (key : ℕ) → get_or slots key None ≡ None → IsFree (table_of next slots q closed) key
  spawn_free {slots = slots} sound q closed key vacant n s found taken = grind (arith, get_sees slots n s found)

  pub empty_sound : (first : ℕ) → IsSound {P = P} {T = T} {W = W} first [] [] 0
  empty_sound first = grind (arith, get-cells_of)

  pub empty_is : (first : ℕ) → table_of {P = P} {T = T} {W = W} first [] no_queues false ≡ empty_table first
  unfolding cells_of
  empty_is first = refl
