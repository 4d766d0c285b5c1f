-- A walk over the slots: one that changes each cell and queues what was idle, and one that logs what is undropped.
use Rattle.std.proofs.Common.{◌≡◌, ℕ, zero, suc, ◌+◌, ◌<◌, ◌≤◌, true, List, [], ◌∷◌, ◌++◌, length, map as list_map, set, get_or, take, drop, take_all, Option, Some, None, refl, sym, ap, subst, ◌∙◌, arith}
use Rattle.std.specs.Prelude.{nat_lt}
use Rattle.std.specs.List.{cons_option}
use Rattle.std.proofs.lemmas.List.{map-append, length-map, take-append-drop}
use Rattle.std.proofs.lemmas.List.Elements.{filter_map-append}
use Rattle.std.proofs.lemmas.Bool.{lt-ltb}
use Rattle.std.proofs.Common.{length-append, append_assoc, append-nil}
use Rattle.executor_core.specs.Slots.{HasCell, IsQueue}
use Rattle.executor_core.proofs.LinkLemmas.{prefix_queue}
use Rattle.executor_core.specs.Queues.State.{QueueState, with_lists, pushed, pushed_all}
use Rattle.executor_core.specs.Cells.View.{changed_slot, idle_id, idle_ids, undropped_number}
use Rattle.executor_core.proofs.RisingLemmas.{undropped_numbers}
use Rattle.executor_core.specs.declared.task.cell.Cell.{Cell}
use Rattle.executor_core.specs.declared.task.cell.Numbered.{Numbered}
use Rattle.executor_core.specs.declared.task.cell.TaskId.{TaskId}

cons_append : {A : Type 0} (o : Option A) (xs ys : List A) → cons_option o (xs ++ ys) ≡ cons_option o xs ++ ys
cons_append o xs ys = grind arith

module _ {P T W : Type 0} where
  -- the slots once so many of them were visited
  abbrev pub changed_below : (Cell P T W → Cell P T W) → ℕ → List (Option (Numbered (Cell P T W))) → List (Option (Numbered (Cell P T W)))
  changed_below change n [] = []
  changed_below change zero (s ∷ rest) = s ∷ rest
  changed_below change (suc n) (s ∷ rest) = changed_slot change s ∷ changed_below change n rest

  -- the idle tasks of the first so many slots, the first of which is `first`
  abbrev pub idle_below : ℕ → ℕ → List (Option (Numbered (Cell P T W))) → List TaskId
  idle_below first n [] = []
  idle_below first zero (s ∷ rest) = []
  idle_below first (suc n) (s ∷ rest) = cons_option (idle_id first s) (idle_below (first + 1) n rest)

  pub changed_below-start : (change : Cell P T W → Cell P T W) (slots : List (Option (Numbered (Cell P T W)))) → changed_below change 0 slots ≡ slots
  changed_below-start change [] = refl
  changed_below-start change (s ∷ rest) = refl

  pub idle_below-start : (first : ℕ) (slots : List (Option (Numbered (Cell P T W)))) → idle_below first 0 slots ≡ []
  idle_below-start first [] = refl
  idle_below-start first (s ∷ rest) = refl

  pub changed_below-all : (change : Cell P T W → Cell P T W) (n : ℕ) (slots : List (Option (Numbered (Cell P T W)))) → length slots ≤ n → changed_below change n slots ≡ list_map (changed_slot change) slots
  changed_below-all change n [] long = refl
  changed_below-all change zero (s ∷ rest) long = absurd (omega arith)
  changed_below-all change (suc n) (s ∷ rest) long = ap (λ l. changed_slot change s ∷ l) (changed_below-all change n rest (omega arith))

  pub idle_below-all : (first n : ℕ) (slots : List (Option (Numbered (Cell P T W)))) → length slots ≤ n → idle_below first n slots ≡ idle_ids first slots
  idle_below-all first n [] long = refl
  idle_below-all first zero (s ∷ rest) long = absurd (omega arith)
  idle_below-all first (suc n) (s ∷ rest) long = ap (cons_option (idle_id first s)) (idle_below-all (first + 1) n rest (omega arith))

  -- the next slot was not visited yet
  pub changed_below-at : (change : Cell P T W → Cell P T W) (n : ℕ) (slots : List (Option (Numbered (Cell P T W)))) → get_or (changed_below change n slots) n None ≡ get_or slots n None
  changed_below-at change zero [] = refl
  changed_below-at change (suc n) [] = refl
  changed_below-at change zero (s ∷ rest) = refl
  changed_below-at change (suc n) (s ∷ rest) = changed_below-at change n rest

  pub changed_below-next : (change : Cell P T W → Cell P T W) (n : ℕ) (slots : List (Option (Numbered (Cell P T W)))) → set (changed_below change n slots) n (changed_slot change (get_or slots n None)) ≡ changed_below change (suc n) slots
  changed_below-next change zero [] = refl
  changed_below-next change (suc n) [] = refl
  changed_below-next change zero (s ∷ rest) = ap (λ l. changed_slot change s ∷ l) (sym (changed_below-start change rest))
  changed_below-next change (suc n) (s ∷ rest) = ap (λ l. changed_slot change s ∷ l) (changed_below-next change n rest)

  -- the id of the next slot comes last
  pub idle_below-next : (first n : ℕ) (slots : List (Option (Numbered (Cell P T W)))) → idle_below first (suc n) slots ≡ idle_below first n slots ++ cons_option (idle_id (first + n) (get_or slots n None)) []
  idle_below-next first zero [] = refl
  idle_below-next first (suc n) [] = refl
  idle_below-next first zero (s ∷ rest) = grind (arith, idle_below-start)
  idle_below-next first (suc n) (s ∷ rest) = grind (arith, idle_below-next (first + 1) n rest, cons_append)

  -- what was visited, and what was not
  pub idle_parts : (first n : ℕ) (slots : List (Option (Numbered (Cell P T W)))) → (rest : List TaskId) × (idle_ids first slots ≡ idle_below first n slots ++ rest)
  idle_parts first n [] = ([], refl)
  idle_parts first zero (s ∷ rest) = (idle_ids first (s ∷ rest), refl)
  idle_parts first (suc n) (s ∷ rest) = grind (arith, idle_parts (first + 1) n rest, cons_append)

-- nothing is queued
pub no_push : (q : QueueState) → with_lists (pushed_all [] q.lists) q ≡ q
no_push q = ap (λ l. with_lists (record q.lists { global = l }) q) (append-nil q.lists.global)

some_last : (ids : List TaskId) (id : TaskId) → nat_lt 0 (length (ids ++ id ∷ [])) ≡ true
some_last [] id = refl
some_last (x ∷ ids) id = lt-ltb 0 (length (x ∷ ids ++ id ∷ [])) (omega arith)

-- one more slot is visited
module _ {P T W : Type 0} (change : Cell P T W → Cell P T W) (n : ℕ) (slots : List (Option (Numbered (Cell P T W)))) {now : List (Option (Numbered (Cell P T W)))} (visited : now ≡ changed_below change n slots) where
  same_slot : get_or now n None ≡ get_or slots n None
  same_slot = ap (λ l. get_or l n None) visited ∙ changed_below-at change n slots

  pub slots_walked : {later : List (Option (Numbered (Cell P T W)))} → later ≡ set now n (changed_slot change (get_or now n None)) → later ≡ changed_below change (n + 1) slots
  slots_walked is = grind (arith, same_slot, changed_below-next)

  -- the idle ones of the slots up to this one, if this is what the slot gives
  ids_walked : {found : Option TaskId} → found ≡ idle_id n (get_or now n None) → idle_below 0 (n + 1) slots ≡ idle_below 0 n slots ++ cons_option found []
  ids_walked is =
      let next : n + 1 ≡ suc n = omega arith in
      let zero_at : 0 + n ≡ n = omega arith in
      ap (λ k. idle_below 0 k slots) next ∙ idle_below-next 0 n slots
      ∙ ap (λ o. idle_below 0 n slots ++ cons_option o []) (ap (λ k. idle_id k (get_or slots n None)) zero_at ∙ ap (idle_id n) (sym same_slot) ∙ sym is)

  pub ids_pushed : {id : TaskId} {found : Option TaskId} → found ≡ idle_id n (get_or now n None) → found ≡ Some id → idle_below 0 (n + 1) slots ≡ idle_below 0 n slots ++ id ∷ []
  ids_pushed is some = ids_walked is ∙ ap (λ o. idle_below 0 n slots ++ cons_option o []) some

  pub ids_kept : {found : Option TaskId} → found ≡ idle_id n (get_or now n None) → found ≡ None → idle_below 0 (n + 1) slots ≡ idle_below 0 n slots
  ids_kept is none = ids_walked is ∙ ap (λ o. idle_below 0 n slots ++ cons_option o []) none ∙ append-nil (idle_below 0 n slots)

  -- there is the next id too, and the others come behind it
  pub queue_walked : {id : TaskId} {found : Option TaskId} → found ≡ idle_id n (get_or now n None) → found ≡ Some id
      → (first : QueueState) {q : QueueState} → IsQueue slots (first.lists.global ++ idle_ids 0 slots) → q ≡ with_lists (pushed_all (idle_below 0 n slots) first.lists) first
      → IsQueue slots (q.lists.global ++ id ∷ [])
  queue_walked {id} is some first queue same =
      let parts = idle_parts 0 (n + 1) slots in
      let global = first.lists.global in
      let next = ap (λ s. s.lists.global ++ id ∷ []) same ∙ append_assoc global (idle_below 0 n slots) (id ∷ []) ∙ ap (λ l. global ++ l) (sym (ids_pushed is some)) in
      let whole = ap (λ l. global ++ l) parts.1 ∙ sym (append_assoc global (idle_below 0 (n + 1) slots) parts.0) in
      subst (IsQueue slots) (sym next) (prefix_queue slots (global ++ idle_below 0 (n + 1) slots) parts.0 (subst (IsQueue slots) whole queue))

  -- there are no more of them than in the end
  pub count_walked : {id : TaskId} {found : Option TaskId} → found ≡ idle_id n (get_or now n None) → found ≡ Some id
      → (first : QueueState) {q : QueueState} → q ≡ with_lists (pushed_all (idle_below 0 n slots) first.lists) first
      → length q.lists.global + 1 ≤ length (first.lists.global ++ idle_ids 0 slots)
  count_walked {id} is some first same =
      let parts = idle_parts 0 (n + 1) slots in
      let all = ap length parts.1 ∙ length-append (idle_below 0 (n + 1) slots) parts.0 in
      let longer = ap length (ids_pushed is some) ∙ length-append (idle_below 0 n slots) (id ∷ []) in
      let long = ap (λ s. length s.lists.global) same ∙ length-append first.lists.global (idle_below 0 n slots) in
      let end = length-append first.lists.global (idle_ids 0 slots) in
      omega arith

  -- the cells that a walk has changed are under their numbers
  pub has_walked : (id : TaskId) → HasCell slots id → HasCell (changed_below change n slots) id
  has_walked id has = below n slots id.slot has.1
    where
      below : (k : ℕ) (old : List (Option (Numbered (Cell P T W)))) (at : ℕ) → get_or old at None ≡ Some has.0
          → (e : Numbered (Cell P T W)) × (get_or (changed_below change k old) at None ≡ Some e) × (e.number ≡ id.number)
      below k [] at there = absurd (cc)
      below zero (s ∷ rest) at there = (has.0, there, has.2)
      below (suc k) (s ∷ rest) zero there = (record { number = has.0.number; cell = change has.0.cell }, ap (changed_slot change) there, has.2)
      below (suc k) (s ∷ rest) (suc at) there = below k rest at there

  pub queues_walked : {id : TaskId} {found : Option TaskId} → found ≡ idle_id n (get_or now n None) → found ≡ Some id
      → (first : QueueState) {q later : QueueState} → q ≡ with_lists (pushed_all (idle_below 0 n slots) first.lists) first → later ≡ with_lists (pushed id q.lists) q
      → later ≡ with_lists (pushed_all (idle_below 0 (n + 1) slots) first.lists) first
  queues_walked {id} is some first same next = grind (arith, append_assoc, ids_pushed)

  pub idle_walked : {id : TaskId} {found : Option TaskId} → found ≡ idle_id n (get_or now n None) → found ≡ Some id → true ≡ nat_lt 0 (length (idle_below 0 (n + 1) slots))
  idle_walked {id} is some = sym (ap (λ l. nat_lt 0 (length l)) (ids_pushed is some) ∙ some_last (idle_below 0 n slots) id)

pub length-logged : {E : Type 0} (event : ℕ → E) (old : List E) (numbers : List ℕ) → length (old ++ list_map event numbers) ≡ length old + length numbers
length-logged event old numbers = let long = length-append old (list_map event numbers) in let mapped = length-map numbers event in omega arith

-- the undropped tasks of the first slots are logged
module _ {P T W : Type 0} {E : Type 0} (event : ℕ → E) (slots : List (Option (Numbered (Cell P T W)))) (old : List E) where
  numbers_next : (n : ℕ) (slots : List (Option (Numbered (Cell P T W)))) → undropped_numbers (take (suc n) slots) ≡ undropped_numbers (take n slots) ++ cons_option (undropped_number (get_or slots n None)) []
  numbers_next zero [] = refl
  numbers_next (suc n) [] = refl
  numbers_next zero (s ∷ rest) = refl
  numbers_next (suc n) (s ∷ rest) = ap (cons_option (undropped_number s)) (numbers_next n rest) ∙ cons_append (undropped_number s) _ _

  few_numbers : (n : ℕ) (slots : List (Option (Numbered (Cell P T W)))) → length (undropped_numbers (take n slots)) ≤ length (undropped_numbers slots)
  few_numbers n slots =
      let whole = ap length (sym (ap undropped_numbers (take-append-drop n slots)) ∙ filter_map-append undropped_number (take n slots) (drop n slots)) in
      let long = length-append (undropped_numbers (take n slots)) (undropped_numbers (drop n slots)) in
      omega arith

  abbrev pub logged_below : ℕ → List E
  logged_below n = old ++ list_map event (undropped_numbers (take n slots))

  module _ (n : ℕ) {found : Option ℕ} (is : found ≡ undropped_number (get_or slots n None)) where
    numbers_walked : undropped_numbers (take (n + 1) slots) ≡ undropped_numbers (take n slots) ++ cons_option found []
    numbers_walked = let next : n + 1 ≡ suc n = omega arith in ap (λ k. undropped_numbers (take k slots)) next ∙ numbers_next n slots ∙ ap (λ o. undropped_numbers (take n slots) ++ cons_option o []) (sym is)

    pub logged_kept : found ≡ None → logged_below (n + 1) ≡ logged_below n
    logged_kept none = ap (λ l. old ++ list_map event l) (numbers_walked ∙ ap (λ o. undropped_numbers (take n slots) ++ cons_option o []) none ∙ append-nil (undropped_numbers (take n slots)))

    pub logged_pushed : {k : ℕ} → found ≡ Some k → logged_below (n + 1) ≡ logged_below n ++ event k ∷ []
    logged_pushed {k} some = grind (arith, numbers_walked, map-append, append_assoc)

    pub room_logged : {k : ℕ} → found ≡ Some k → {now : List E} {count capacity : ℕ} → now ≡ logged_below n → count ≡ length now → length old + length (undropped_numbers slots) ≤ capacity → count < capacity
    room_logged {k} some is_now counts room = grind (arith, few_numbers (n + 1) slots, length-append (undropped_numbers (take n slots)) (k ∷ []), numbers_walked, length-logged)

  pub logged_all : (n : ℕ) → length slots ≤ n → logged_below n ≡ old ++ list_map event (undropped_numbers slots)
  logged_all n past = ap (λ l. old ++ list_map event (undropped_numbers l)) (take_all n slots past)
