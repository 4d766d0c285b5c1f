-- Every task whose future is not dropped is woken, or cancelled, by rising slot.
use Rattle.std.proofs.Common.{◌≡◌, ℕ, ◌<◌, ◌==◌, ◌||◌, ◌&&◌, not, Bool, true, false, List, [], ◌∷◌, ◌++◌, map, Option, Some, None, cond, refl, sym, ap, subst, ◌∙◌, inl, inr, append_assoc, append-nil, arith}
use Rattle.std.proofs.lemmas.Bool.{cases_Bool, cases_eq, eq-eqb, ne_eqb, or_right, true≢false}
use Rattle.std.proofs.lemmas.List.Sums.{sum_by-cons}
use Rattle.std.specs.Prelude.{option_map, slice_get}
use Rattle.std.specs.List.{filter}
use Rattle.std.specs.FinMap as fin_map
use Rattle.executor_core.specs.Numbers.{times}
use Rattle.executor_core.specs.Cells.{Slotted, Table}
use Rattle.executor_core.specs.Cell.{is_idle, is_undropped}
use Rattle.executor_core.specs.Cells.Calls.{each_changed, rising, rising_idle, SlotsDiffer}
use Rattle.executor_core.specs.World.Agreement.{Status, status, FewPollsFor, NumberAgrees, Agree}
use Rattle.executor_core.specs.World.Closing.{AllMarked}
use Rattle.executor_core.specs.World.Entries.{infos}
use Rattle.executor_core.specs.World.Log.{spawned, dropped, cancelled, idle}
use Rattle.executor_core.specs.World.Promises.{InOrder, MayFollow}
use Rattle.executor_core.specs.World.Steps.{info_or}
use Rattle.executor_core.proofs.AllTasksLemmas.{changed, get-each_changed}
use Rattle.executor_core.proofs.RisingLemmas.{passing, times-rising, rising-rises, rising_among, once}
use Rattle.executor_core.proofs.World.Agreement.{undropped_state, cells_agree}
use Rattle.executor_core.proofs.World.Entries.{info_at}
use Rattle.executor_core.proofs.World.Log.{status_other, order-push}
use Rattle.executor_core.proofs.World.Marks.{Marking, cancelling, marked_cell, ended_cell}
use Rattle.executor_core.proofs.World.Status.{task_of}
use Rattle.executor_core.specs.declared.task.cell.Cell.{Cell}
use Rattle.executor_core.specs.declared.task.cell.CellState.{CellState}
use Rattle.executor_core.specs.declared.task.cell.CellState.TheVariants.{Idle, Scheduled, Held, Finished, Gone}
use Rattle.executor_core.specs.declared.interleave.entry.TaskEntry.{TaskEntry}
use Rattle.executor_core.specs.declared.interleave.event.Event.{Event}

-- an event for each of these numbers
module _ {T : Type 0} (event : ℕ → Event T) (of : (m : ℕ) → task_of (event m) ≡ m) where
  -- a number that is none of them
  status-others : (order : List ℕ) (log : List (Event T)) (n : ℕ) → times n order ≡ 0 → status n (log ++ map event order) ≡ status n log
  status-others [] log n none = ap (status n) (append-nil log)
  status-others (m ∷ rest) log n none = elim (cases_eq m n) [
    | inl same ↦
        let one = sum_by-cons (λ k. cond (k == n) 1 0) m rest in
        let here : ◌≡◌ {A = ℕ} (cond (m == n) 1 0) 1 = ap (λ b. cond {A = ℕ} b 1 0) (eq-eqb m n same) in
        absurd (omega arith)
    | inr far ↦
        let one = sum_by-cons (λ k. cond (k == n) 1 0) m rest in
        ap (status n) (sym (append_assoc log (event m ∷ []) (map event rest))) ∙ status-others rest (log ++ event m ∷ []) n (omega arith) ∙ status_other n log (event m) (λ same. far (sym (of m) ∙ sym same))
  ]

  -- a number that stands among them once
  status-once : (change : Status T → Status T) → ((n : ℕ) (log : List (Event T)) → status n (log ++ event n ∷ []) ≡ change (status n log)) → (order : List ℕ) (log : List (Event T)) (n : ℕ) → times n order ≡ 1 → status n (log ++ map event order) ≡ change (status n log)
  status-once change on [] log n some = absurd (omega arith)
  status-once change on (m ∷ rest) log n some =
      let one = sum_by-cons (λ k. cond (k == n) 1 0) m rest in
      ap (status n) (sym (append_assoc log (event m ∷ []) (map event rest)))
      ∙ elim (cases_eq m n) [
        | inl same ↦
            let here : ◌≡◌ {A = ℕ} (cond (m == n) 1 0) 1 = ap (λ b. cond {A = ℕ} b 1 0) (eq-eqb m n same) in
            status-others rest (log ++ event m ∷ []) n (omega arith) ∙ ap (λ k. status n (log ++ event k ∷ [])) same ∙ on n log
        | inr far ↦
            let away : ◌≡◌ {A = ℕ} (cond (m == n) 1 0) 0 = ap (λ b. cond {A = ℕ} b 1 0) (ne_eqb m n far) in
            status-once change on rest (log ++ event m ∷ []) n (omega arith) ∙ ap change (status_other n log (event m) (λ same. far (sym (of m) ∙ sym same)))
      ]

  order-all : ((log : List (Event T)) (m : ℕ) → MayFollow log (event m)) → (order : List ℕ) (log : List (Event T)) → InOrder log → InOrder (log ++ map event order)
  order-all follows [] log ordered = subst InOrder (sym (append-nil log)) ordered
  order-all follows (m ∷ rest) log ordered = subst InOrder (append_assoc log (event m ∷ []) (map event rest)) (order-all follows rest (log ++ event m ∷ []) (order-push log (event m) ordered (follows log m)))

-- the tasks whose future is not dropped, by rising slot
module _ {P T : Type 0} {table : Table P T (Unit {0})} {log : List (Event T)} {entries : List (TaskEntry P)} (agree : Agree table log entries) where
  abbrev pub undropped_ones : List ℕ
  undropped_ones = rising (λ c. is_undropped c.state) table.cells

  pub undropped_match : (o : Option (Slotted P T (Unit {0}))) (s : Status T) (i : Option (TaskEntry P)) → NumberAgrees o s i → passing (λ c. is_undropped c.state) o ≡ s.spawned && not s.dropped
  undropped_match o s i h = grind (arith, undropped_state)

  pub each_undropped : (n : ℕ) → times n undropped_ones ≡ cond (spawned n log && not (dropped n log)) 1 0
  each_undropped n = times-rising (λ c. is_undropped c.state) table.cells n ∙ ap (λ b. cond b 1 0) (undropped_match (fin_map.get table.cells n) (status n log) (slice_get entries n) (agree.each n))

  slot_known : (n : ℕ) (s : Slotted P T (Unit {0})) → fin_map.get table.cells n ≡ Some s → (info_or (slice_get (infos entries) n)).slot ≡ s.slot
  slot_known n s here = grind (arith, info_at)

  -- a number among them has a cell
  listed_cell : (i n : ℕ) → slice_get undropped_ones i ≡ Some n → (s : Slotted P T (Unit {0})) × (fin_map.get table.cells n ≡ Some s)
  listed_cell i n at = by_cell (fin_map.get table.cells n) refl
    where
      by_cell : (o : Option (Slotted P T (Unit {0}))) → fin_map.get table.cells n ≡ o → (s : Slotted P T (Unit {0})) × (fin_map.get table.cells n ≡ Some s)
      by_cell (Some s) here = (s, here)
      by_cell None here =
          let some = once n i undropped_ones at in
          let none = times-rising (λ c. is_undropped c.state) table.cells n ∙ ap (λ o. cond (passing (λ (c : Cell P T (Unit {0})). is_undropped c.state) o) 1 0) here in
          absurd (omega arith)

  pub rising_slots : SlotsDiffer table → (i j n k : ℕ) → i < j → slice_get undropped_ones i ≡ Some n → slice_get undropped_ones j ≡ Some k → (info_or (slice_get (infos entries) n)).slot < (info_or (slice_get (infos entries) k)).slot
  rising_slots differ i j n k before at_i at_j = grind (arith, listed_cell, rising-rises, slot_known)

  pub idle_ones : filter (λ n. idle n log) undropped_ones ≡ rising_idle table
  idle_ones = rising_among (λ c. is_undropped c.state) (λ c. is_idle c.state) (λ c. idle_undropped c.state) table.cells (λ n. idle n log) (λ n s here. sym ((cells_agree agree).idle n) ∙ ap (has_idle) here)
    where
      has_idle : Option (Slotted P T (Unit {0})) → Bool
      has_idle None = false
      has_idle (Some s) = is_idle s.cell.state

      idle_undropped : (st : CellState P T) → is_idle st ≡ true → is_undropped st ≡ true
      idle_undropped (Idle p) is = refl
      idle_undropped (Scheduled p) is = absurd (cc)
      idle_undropped Held is = absurd (cc)
      idle_undropped (Finished t) is = absurd (cc)
      idle_undropped Gone is = absurd (cc)

  -- each of them is marked
  module _ {event : ℕ → Event T} {mark : Cell P T (Unit {0}) → Cell P T (Unit {0})} {change : Status T → Status T} (marking : Marking event mark change) where
    abbrev pub marked_log : List (Event T)
    marked_log = log ++ map event undropped_ones

    pub status-marked : (n : ℕ) → spawned n log && not (dropped n log) ≡ true → status n marked_log ≡ change (status n log)
    status-marked n is = status-once event marking.of change marking.on undropped_ones log n (each_undropped n ∙ ap (λ b. cond b 1 0) is)

    pub status-left : (n : ℕ) → spawned n log && not (dropped n log) ≡ false → status n marked_log ≡ status n log
    status-left n is = status-others event marking.of undropped_ones log n (each_undropped n ∙ ap (λ b. cond b 1 0) is)

    -- what a number's cell is then
    number_marked : (o : Option (Slotted P T (Unit {0}))) (s t : Status T) (i : Option (TaskEntry P)) → (s.spawned && not s.dropped ≡ true → t ≡ change s) → (s.spawned && not s.dropped ≡ false → t ≡ s) → NumberAgrees o s i → NumberAgrees (option_map (changed mark) o) t i
    number_marked o s t i alive gone h = grind (arith, undropped_match, cases_Bool, marked_cell, ended_cell)

    few_marked : (s t : Status T) → (s.spawned && not s.dropped ≡ true → t ≡ change s) → (s.spawned && not s.dropped ≡ false → t ≡ s) → FewPollsFor s → FewPollsFor t
    few_marked s t alive gone few = grind (arith, cases_Bool)

    pub marked_holds : {later : Table P T (Unit {0})} → later.next ≡ table.next → later.cells ≡ each_changed mark table.cells → Agree later marked_log entries
    marked_holds {later} next cells =
        record {
          next = next ∙ agree.next;
          each = λ n. subst (λ o. NumberAgrees o (status n marked_log) (slice_get entries n)) (sym (ap (λ m. fin_map.get m n) cells ∙ get-each_changed mark table.cells n))
              (number_marked (fin_map.get table.cells n) (status n log) (status n marked_log) (slice_get entries n) (status-marked n) (status-left n) (agree.each n));
          few_polls = λ n. few_marked (status n log) (status n marked_log) (status-marked n) (status-left n) (agree.few_polls n);
          order = order-all event marking.of marking.follows undropped_ones log agree.order;
        }

  -- once each is cancelled, each task is marked
  pub all_cancelled : AllMarked (marked_log cancelling)
  all_cancelled n was = elim (cases_Bool (spawned n log && not (dropped n log))) [
    | inl alive ↦ let is = status-marked cancelling n alive in or_right (dropped n (marked_log cancelling)) _ (ap (λ s. s.cancelled) is)
    | inr gone ↦
        let is = status-left cancelling n gone in
        let there : spawned n log ≡ true = sym (ap (λ s. s.spawned) is) ∙ was in
        ap (λ s. s.dropped || s.cancelled) is ∙ by_drop (cancelled n log) (dropped n log) (sym (ap (λ b. b && not (dropped n log)) there) ∙ gone)
  ]
    where
      by_drop : (c d : Bool) → not d ≡ false → d || c ≡ true
      by_drop c true is = refl
      by_drop c false is = absurd (true≢false is)
