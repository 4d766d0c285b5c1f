-- What a change of every cell keeps, and what is then seen.
use Rattle.std.proofs.Common.{◌≡◌, ℕ, zero, suc, ◌+◌, ◌<◌, ◌||◌, ◌==◌, Bool, true, false, List, [], ◌∷◌, ◌++◌, length, map, get_or, Option, Some, None, cond, refl, sym, ap, subst, ◌∙◌, length-append, append_assoc, arith}
use Rattle.std.specs.Prelude.{option_map, nat_lt, count_by}
use Rattle.std.specs.List.{All, cons_option, flat_map}
use Rattle.std.specs.Ordering.{nat_cmp}
use Rattle.std.specs.Cmp.{nat_cmp_total}
use Rattle.std.specs.FinMap as fin_map
use Rattle.std.specs.FinMap.{find}
use Rattle.std.proofs.Math.ListN.{get_or-map}
use Rattle.std.proofs.lemmas.Bool.{cases_eq, lt-ltb}
use Rattle.std.proofs.lemmas.List.{map-append, length-map}
use Rattle.std.proofs.lemmas.List.Elements.{All-append, All-weaker}
use Rattle.std.proofs.lemmas.List.Sums.{sum_by-cons, sum_by-append}
use Rattle.executor_core.specs.Numbers.{times}
use Rattle.executor_core.specs.Cell.{is_idle, is_held, is_scheduled}
use Rattle.executor_core.specs.Cell.Changes.{state_woken}
use Rattle.executor_core.specs.Cells.{Slotted}
use Rattle.executor_core.specs.Cells.Law.{scheduled_in}
use Rattle.executor_core.specs.Cells.Calls.{each_changed, closing, after_close, close_queues, SlotsDiffer}
use Rattle.executor_core.specs.Cells.View.{seen, by_number, cells_of, table_of, numbers_of, Placed, Settled, IsSound, is_queueable, change_by, changed_slot, idle_id, idle_ids}
use Rattle.executor_core.specs.Queues.{QueueLists, RunnerQueue, all_entries, local_entries, gathered}
use Rattle.executor_core.specs.Slots.{HasCell, IsQueue}
use Rattle.executor_core.specs.Queues.State.{QueueState, with_lists, pushed_all}
use Rattle.executor_core.proofs.SlotLemmas.{get-cells_of, get_sees, sees_get, tied, apart}
use Rattle.executor_core.proofs.WakeLemmas.{settled_woken}
use Rattle.executor_core.proofs.CancelLemmas.{settled_cancelled}
use Rattle.executor_core.proofs.GatherLemmas.{emptied-map}
use Rattle.executor_core.proofs.QueueLemmas.{local_entries-map}
use Rattle.executor_core.proofs.RisingLemmas.{passing, times-rising, idle_rising}
use Rattle.executor_core.specs.declared.task.cell.Cell.{Cell}
use Rattle.executor_core.specs.declared.task.cell.CellState.{CellState}
use Rattle.executor_core.specs.declared.task.cell.Numbered.{Numbered}
use Rattle.executor_core.specs.declared.task.cell.TaskId.{TaskId}

module _ {P T W : Type 0} (change : Cell P T W → Cell P T W) where
  abbrev pub changed : Slotted P T W → Slotted P T W
  changed s = record { slot = s.slot; cell = change s.cell }

  find-changed : (q : ℕ) (es : List (ℕ × Slotted P T W)) → find nat_cmp q (map (λ e. (e.0, changed e.1)) es) ≡ option_map changed (find nat_cmp q es)
  find-changed q [] = refl
  find-changed q (e ∷ rest) = grind (arith, find-changed q rest, cases_eq, tied, apart)

  -- what each number has then
  pub get-each_changed : (cells : fin_map.FinMap nat_cmp (Slotted P T W)) (q : ℕ) → fin_map.get (each_changed change cells) q ≡ option_map changed (fin_map.get cells q)
  get-each_changed cells q =
      fin_map.get-from_entries nat_cmp_total (map (λ e. (e.0, changed e.1)) (fin_map.entries cells)) q
      ∙ find-changed q (fin_map.entries cells) ∙ ap (option_map changed) (sym (fin_map.get-entries cells q))

  by_number-changed : (first : ℕ) (slots : List (Option (Numbered (Cell P T W)))) → by_number first (map (changed_slot change) slots) ≡ map (λ e. (e.0, changed e.1)) (by_number first slots)
  by_number-changed first [] = refl
  by_number-changed first (None ∷ rest) = by_number-changed (first + 1) rest
  by_number-changed first (Some e ∷ rest) = ap (λ l. (e.number, seen first (change e.cell)) ∷ l) (by_number-changed (first + 1) rest)

  get-changed : (slots : List (Option (Numbered (Cell P T W)))) (q : ℕ) → fin_map.get (cells_of (map (changed_slot change) slots)) q ≡ option_map changed (fin_map.get (cells_of slots) q)
  get-changed slots q = grind (arith, get-cells_of, by_number-changed, find-changed)

  pub cells_changed : (slots : List (Option (Numbered (Cell P T W)))) → cells_of (map (changed_slot change) slots) ≡ each_changed change (cells_of slots)
  cells_changed slots =
      fin_map.same_map nat_cmp_total fin_map.nat_cmp-IsAntisymmetric _ _ (λ q. get-changed slots q ∙ sym (get-each_changed (cells_of slots) q))

  -- the cell that a slot had
  record Was (slots : List (Option (Numbered (Cell P T W)))) (i : ℕ) (c : Numbered (Cell P T W)) : Type 0 where
    entry : Numbered (Cell P T W)
    there : get_or slots i None ≡ Some entry
    is : c ≡ record { number = entry.number; cell = change entry.cell }

  was : (slots : List (Option (Numbered (Cell P T W)))) (i : ℕ) (c : Numbered (Cell P T W)) → get_or (map (changed_slot change) slots) i None ≡ Some c → Was slots i c
  was slots i c found = by (get_or slots i None) refl (sym (get_or-map (changed_slot change) slots i None) ∙ found)
    where
      by : (o : Option (Numbered (Cell P T W))) → get_or slots i None ≡ o → changed_slot change o ≡ Some c → Was slots i c
      by None there is = absurd (cc)
      by (Some e) there is = let same : record { number = e.number; cell = change e.cell } ≡ c = cc in record { entry = e; there = there; is = sym same }

module _ {P T : Type 0} where
  -- what is idle is scheduled then, and nothing else is that was not
  scheduled_changed : (s : CellState P T) → cond (is_scheduled s) 1 0 + cond (is_idle s) 1 0 ≡ cond (is_scheduled (state_woken s)) 1 0
  scheduled_changed s = grind arith

  queueable_changed : (s : CellState P T) → cond (is_idle s) 1 0 + cond (is_idle (state_woken s) || is_held (state_woken s)) 1 0 ≡ cond (is_idle s || is_held s) 1 0
  queueable_changed s = grind arith

module _ {P T W : Type 0} where
  settled_changed : (cancels : Bool) (c : Cell P T W) → Settled c → Settled (change_by cancels c)
  settled_changed cancels c settled = grind (arith, settled_cancelled, settled_woken)

  state_changed : (cancels : Bool) (c : Cell P T W) → (change_by cancels c).state ≡ state_woken c.state
  state_changed cancels c = grind arith

  law_changed : (cancels : Bool) (o : Option (Slotted P T W)) → cond (scheduled_in o) 1 0 + cond (passing (λ c. is_idle c.state) o) 1 0 ≡ cond (scheduled_in (option_map (changed (change_by cancels)) o)) 1 0
  law_changed cancels o = grind (arith, scheduled_changed, state_changed)

  slot_count : (cancels : Bool) (n : ℕ) (s : Option (Numbered (Cell P T W))) → length (cons_option (idle_id n s) []) + cond (is_queueable (changed_slot (change_by cancels) s)) 1 0 ≡ cond (is_queueable s) 1 0
  slot_count cancels n s = grind (arith, state_changed, queueable_changed)

  count_changed : (cancels : Bool) (first : ℕ) (slots : List (Option (Numbered (Cell P T W)))) → length (idle_ids first slots) + count_by is_queueable (map (changed_slot (change_by cancels)) slots) ≡ count_by is_queueable slots
  count_changed cancels first [] = refl
  count_changed cancels first (s ∷ rest) =
      let inner = count_changed cancels (first + 1) rest in
      let here = slot_count cancels first s in
      let one = sum_by-cons (λ x. cond (is_queueable x) 1 0) s rest in
      let two = sum_by-cons (λ x. cond (is_queueable x) 1 0) (changed_slot (change_by cancels) s) (map (changed_slot (change_by cancels)) rest) in
      let long = longer (idle_id first s) (idle_ids (first + 1) rest) in
      omega arith
    where
      longer : (o : Option TaskId) (xs : List TaskId) → length (cons_option o xs) ≡ length (cons_option o []) + length xs
      longer None xs = omega arith
      longer (Some x) xs = omega arith

  -- an idle id's number and slot are those of a cell
  idle_placed : (first : ℕ) (slots : List (Option (Numbered (Cell P T W)))) (Q : TaskId → Type 0)
      → ((i : ℕ) (e : Numbered (Cell P T W)) → get_or slots i None ≡ Some e → Q (record { number = e.number; slot = first + i })) → All Q (idle_ids first slots)
  idle_placed first [] Q each = λ k d within. absurd (omega arith)
  idle_placed first (None ∷ rest) Q each = idle_placed (first + 1) rest Q (λ i e there. let same : first + suc i ≡ first + 1 + i = omega arith in subst (λ k. Q (record { number = e.number; slot = k })) same (each (suc i) e there))
  idle_placed first (Some c ∷ rest) Q each =
      let zero_at : first + 0 ≡ first = omega arith in
      by (is_idle c.cell.state) (subst (λ k. Q (record { number = c.number; slot = k })) zero_at (each 0 c refl))
      (idle_placed (first + 1) rest Q (λ i e there. let same : first + suc i ≡ first + 1 + i = omega arith in subst (λ k. Q (record { number = e.number; slot = k })) same (each (suc i) e there)))
    where
      by : (b : Bool) → Q (record { number = c.number; slot = first }) → All Q (idle_ids (first + 1) rest) → All Q (cons_option (cond b (Some (record { number = c.number; slot = first })) None) (idle_ids (first + 1) rest))
      by true here later = All-append Q (record { number = c.number; slot = first } ∷ []) (idle_ids (first + 1) rest) (alone here) later
        where
          alone : Q (record { number = c.number; slot = first }) → All Q (record { number = c.number; slot = first } ∷ [])
          alone here zero d within = here
          alone here (suc k) d within = absurd (omega arith)
      by false here later = later

  placed_changed : (cancels : Bool) (slots : List (Option (Numbered (Cell P T W)))) (id : TaskId) → Placed (cells_of slots) id → Placed (cells_of (map (changed_slot (change_by cancels)) slots)) id
  placed_changed cancels slots id placed =
      (changed (change_by cancels) placed.0, get-changed (change_by cancels) slots id.number ∙ ap (option_map (changed (change_by cancels))) placed.1, placed.2)

  pub changed_sound : {next undropped : ℕ} {slots : List (Option (Numbered (Cell P T W)))} {ids : List TaskId}
      → IsSound next slots ids undropped → (cancels : Bool) → IsSound next (map (changed_slot (change_by cancels)) slots) (ids ++ idle_ids 0 slots) undropped
  changed_sound {next} {undropped} {slots} {ids} sound cancels =
      let change = change_by cancels in
      let new = map (changed_slot change) slots in
      record {
        below = λ i c found. let w = was change slots i c found in subst (λ n. n < next) (sym (ap (λ x. x.number) w.is)) (sound.below i w.entry w.there);
        distinct = λ i j c d at_i at_j same.
            let v = was change slots i c at_i in
            let w = was change slots j d at_j in
            sound.distinct i j v.entry w.entry v.there w.there (sym (ap (λ x. x.number) v.is) ∙ same ∙ ap (λ x. x.number) w.is);
        placed = All-append (Placed (cells_of new)) ids (idle_ids 0 slots)
            (All-weaker (Placed (cells_of slots)) (Placed (cells_of new)) (placed_changed cancels slots) ids sound.placed)
            (idle_placed 0 slots (Placed (cells_of new)) (λ i e there. placed_changed cancels slots (record { number = e.number; slot = 0 + i }) (seen i e.cell, sees_get slots sound.distinct i e there, (let same : i ≡ 0 + i = omega arith in same))));
        law = λ n.
            ap (times n) (map-append (λ (id : TaskId). id.number) ids (idle_ids 0 slots)) ∙ sum_by-append (λ k. cond (k == n) 1 0) (numbers_of ids) (numbers_of (idle_ids 0 slots))
            ∙ (λ i. sound.law n i + (ap (times n) (idle_rising slots sound.distinct) ∙ times-rising (λ c. is_idle c.state) (cells_of slots) n) i)
            ∙ law_changed cancels (fin_map.get (cells_of slots) n) ∙ ap (λ o. cond (scheduled_in o) 1 0) (sym (get-changed change slots n));
        settled = λ i c found. let w = was change slots i c found in subst (λ x. Settled x.cell) (sym w.is) (settled_changed cancels w.entry.cell (sound.settled i w.entry w.there));
        counted =
            let was_counted = sound.counted in
            let count = count_changed cancels 0 slots in
            let long = length-append ids (idle_ids 0 slots) in
            omega arith;
        numbered = sound.numbered;
      }

  -- each cell has a slot of its own
  pub slots_differ : {next undropped : ℕ} {slots : List (Option (Numbered (Cell P T W)))} {ids : List TaskId}
      → IsSound next slots ids undropped → (q : QueueState) (closed : Bool) → SlotsDiffer (table_of next slots q closed)
  slots_differ {slots = slots} sound q closed n k s t at_n at_k same = grind (arith, get_sees slots n s at_n, get_sees slots k t at_k)

-- what is queued then
pub pushed_all-entries : (ids : List TaskId) (q : QueueLists TaskId) → all_entries (pushed_all ids q) ≡ all_entries q ++ ids
pushed_all-entries ids q = sym (append_assoc (flat_map (λ (l : RunnerQueue TaskId). l.entries) q.locals) q.global ids)

-- the ids of what was idle have their cells in the slots before
pub before_queue : {P T W : Type 0} (change : Cell P T W → Cell P T W) (slots : List (Option (Numbered (Cell P T W)))) (ids : List TaskId) → IsQueue (map (changed_slot change) slots) ids → IsQueue slots ids
before_queue {P} {T} {W} change slots ids queue =
    record {
      placed = All-weaker (HasCell (map (changed_slot change) slots)) (HasCell slots) (λ id has. let w = was change slots id.slot has.0 has.1 in (w.entry, w.there, ap (λ (e : Numbered (Cell P T W)). e.number) (sym w.is) ∙ has.2)) ids queue.placed;
      apart = queue.apart;
    }

one_of_two : {X : Type 0} (xs ys : List X) → nat_lt 0 (length (xs ++ ys)) ≡ (nat_lt 0 (length xs) || nat_lt 0 (length ys))
one_of_two [] ys = refl
one_of_two (x ∷ xs) ys = lt-ltb 0 (length (x ∷ xs ++ ys)) (omega arith) ∙ ap (λ b. b || nat_lt 0 (length ys)) (sym (lt-ltb 0 (length (x ∷ xs)) (omega arith)))

-- a close
module _ {P T W : Type 0} {next undropped : ℕ} {slots : List (Option (Numbered (Cell P T W)))} {ids : List TaskId} (sound : IsSound next slots ids undropped) (q : QueueState) (closed : Bool) where
  -- what is put at the global end
  closing_is : numbers_of (idle_ids 0 slots ++ local_entries q.lists.locals) ≡ closing (table_of next slots q closed)
  closing_is = grind (arith, map-append, idle_rising, local_entries-map)

  pub close_table : table_of next (map (changed_slot (change_by true)) slots) (with_lists (gathered (pushed_all (idle_ids 0 slots) q.lists)) q) true ≡ after_close (table_of next slots q closed)
  close_table = grind (arith, append_assoc, map-append, closing_is, cells_changed, emptied-map)

  pub close_notice : (nat_lt 0 (length (idle_ids 0 slots)) || nat_lt 0 (length (local_entries q.lists.locals))) ≡ close_queues (table_of next slots q closed)
  close_notice = grind (arith, one_of_two, length-map, closing_is)
