-- The count of undropped futures is that of the cells of the map.
use Rattle.std.proofs.Common.{◌≡◌, ◌≢◌, ℕ, zero, suc, ◌+◌, ◌≤◌, ◌==◌, ◌||◌, Bool, true, false, List, [], ◌∷◌, length, get_or, Option, Some, None, cond, refl, sym, ap, ◌∙◌, arith}
use Rattle.std.specs.Prelude.{count_by, map as list_map}
use Rattle.std.specs.List.{All, sum_by}
use Rattle.std.specs.Ordering.{nat_cmp}
use Rattle.std.specs.declared.cmp.Ordering.{Ordering}
use Rattle.std.specs.declared.cmp.Ordering.TheVariants.{Less, Equal, Greater}
use Rattle.std.specs.Cmp.{nat_cmp_total}
use Rattle.std.specs.FinMap as map
use Rattle.std.specs.FinMap.Entries.{put, find}
use Rattle.std.proofs.lemmas.Bool.{eq-eqb, ne_eqb}
use Rattle.std.proofs.lemmas.List.Sums.{sum_by-cons, count_by-le-length}
use Rattle.std.proofs.lemmas.List.Elements.{All-head, All-tail}
use Rattle.executor_core.specs.Cells.{Slotted}
use Rattle.executor_core.specs.Cell.{is_idle, is_held, is_scheduled, is_undropped}
use Rattle.executor_core.specs.Cells.Law.{scheduled_in}
use Rattle.executor_core.specs.Numbers.{times}
use Rattle.executor_core.specs.Cells.View.{seen, by_number, cells_of, scheduled_slot, Distinct, is_queueable, numbers_of, table_of, Placed, IsSound}
use Rattle.executor_core.proofs.CountLemmas.{sum_by_zero, at_least}
use Rattle.executor_core.proofs.SlotLemmas.{find_sees, get_sees, sees_get}
use Rattle.executor_core.specs.Cells.Calls.{AllDropped}
use Rattle.executor_core.specs.Queues.State.{QueueState}
use Rattle.executor_core.proofs.StateLemmas.{ended_state, undropped_by}
use Rattle.executor_core.proofs.WriteLemmas.{law_at, front_cell}
use Rattle.executor_core.specs.declared.task.cell.Cell.{Cell}
use Rattle.executor_core.specs.declared.task.cell.Numbered.{Numbered}
use Rattle.executor_core.specs.declared.task.cell.TaskId.{TaskId}

length-numbers_of : (ids : List TaskId) → length (numbers_of ids) ≡ length ids
length-numbers_of [] = refl
length-numbers_of (id ∷ ids) = ap suc (length-numbers_of ids)

no_one : (b : Bool) → cond b 1 0 ≤ 0 → b ≡ false
no_one b h = grind arith

-- no key occurs twice
abbrev pub AllFresh : {X : Type 0} → List (ℕ × X) → Type 0
AllFresh [] = Unit {0}
AllFresh (e ∷ rest) = (find nat_cmp e.0 rest ≡ None) × AllFresh rest

pub no_entries : {X : Type 0} (es : List X) → length es ≡ 0 → es ≡ []
no_entries [] none = refl
no_entries (e ∷ rest) none = absurd (omega arith)

-- sums over the values of a map
module _ {X : Type 0} (f : X → ℕ) where
  abbrev values_sum : List (ℕ × X) → ℕ
  values_sum es = sum_by f (list_map (λ e. e.1) es)

  values_sum-put : (k : ℕ) (v : X) (es : List (ℕ × X)) → find nat_cmp k es ≡ None → values_sum (put nat_cmp k v es) ≡ f v + values_sum es
  values_sum-put k v [] none = sum_by-cons f v []
  values_sum-put k v (e ∷ rest) none = by_order_of (values_sum-put k v rest) (nat_cmp k e.0) refl
    where
      by_order_of : (find nat_cmp k rest ≡ None → values_sum (put nat_cmp k v rest) ≡ f v + values_sum rest) → (o : Ordering) → nat_cmp k e.0 ≡ o → values_sum (put nat_cmp k v (e ∷ rest)) ≡ f v + values_sum (e ∷ rest)
      by_order_of inner Less is = rw is (sum_by-cons f v (list_map (λ x. x.1) (e ∷ rest)))
      by_order_of inner Equal is =
          let there : find nat_cmp k (e ∷ rest) ≡ Some e.1 = rw is refl in
          absurd (cc (there, none))
      by_order_of inner Greater is =
          let here : find nat_cmp k (e ∷ rest) ≡ find nat_cmp k rest = rw is refl in
          let later = inner (sym here ∙ none) in
          let one = sum_by-cons f e.1 (list_map (λ x. x.1) (put nat_cmp k v rest)) in
          let two = sum_by-cons f e.1 (list_map (λ x. x.1) rest) in
          rw is (omega arith)

  values_sum-from_entries : (es : List (ℕ × X)) → AllFresh es → values_sum (map.entries (map.from_entries {R = nat_cmp} es)) ≡ values_sum es
  values_sum-from_entries [] fresh = ap values_sum (no_entries (map.entries (map.empty {X = X} {R = nat_cmp})) (sym (map.len-entries (map.empty {X = X} {R = nat_cmp})) ∙ map.len-empty nat_cmp X))
  values_sum-from_entries (e ∷ rest) fresh =
      let m = map.from_entries {R = nat_cmp} rest in
      let new : find nat_cmp e.0 (map.entries m) ≡ None = sym (map.get-entries m e.0) ∙ map.get-from_entries nat_cmp_total rest e.0 ∙ fresh.0 in
      let inner = values_sum-from_entries rest fresh.1 in
      let here = ap values_sum (map.entries-insert nat_cmp_total m e.0 e.1) ∙ values_sum-put e.0 e.1 (map.entries m) new in
      let one = sum_by-cons f e.1 (list_map (λ x. x.1) rest) in
      omega arith

-- sums over the slots
module _ {X : Type 0} where
  sum_by_same : (f g : X → ℕ) (d : X) (xs : List X) → ((i : ℕ) → f (get_or xs i d) ≡ g (get_or xs i d)) → sum_by f xs ≡ sum_by g xs
  sum_by_same f g d [] each = refl
  sum_by_same f g d (x ∷ xs) each =
      let inner = sum_by_same f g d xs (λ i. each (suc i)) in
      let here = each 0 in
      let one = sum_by-cons f x xs in
      let two = sum_by-cons g x xs in
      omega arith

  sum_by_plus : (f g h : X → ℕ) (xs : List X) → ((x : X) → f x ≡ g x + h x) → sum_by f xs ≡ sum_by g xs + sum_by h xs
  sum_by_plus f g h [] each = refl
  sum_by_plus f g h (x ∷ xs) each = grind (arith, sum_by_plus f g h xs each, sum_by-cons)

  -- one place alone counts
  sum_by_one : (f : X → ℕ) (d : X) (xs : List X) (k : ℕ) → f d ≡ 0 → f (get_or xs k d) ≡ 1 → ((i : ℕ) → i ≢ k → f (get_or xs i d) ≡ 0) → sum_by f xs ≡ 1
  sum_by_one f d [] k none here others = absurd (omega (arith, none, here))
  sum_by_one f d (x ∷ xs) zero none here others =
      let rest = sum_by_zero f d xs (λ i. others (suc i) (λ e. absurd (omega arith))) in
      let one = sum_by-cons f x xs in
      omega arith
  sum_by_one f d (x ∷ xs) (suc k) none here others =
      let first = others 0 (λ e. absurd (omega arith)) in
      let rest = sum_by_one f d xs k none here (λ i far. others (suc i) (λ e. far (omega arith))) in
      let one = sum_by-cons f x xs in
      omega arith

module _ {P T W : Type 0} where
  abbrev pub undropped_slot : Option (Numbered (Cell P T W)) → Bool
  undropped_slot None = false
  undropped_slot (Some e) = is_undropped e.cell.state

  -- how often the number of a slot is queued
  abbrev queued_times : List TaskId → Option (Numbered (Cell P T W)) → ℕ
  queued_times ids None = 0
  queued_times ids (Some e) = times e.number (numbers_of ids)

  abbrev has_number : ℕ → Option (Numbered (Cell P T W)) → ℕ
  has_number n None = 0
  has_number n (Some e) = cond (n == e.number) 1 0

  distinct_tail : (s : Option (Numbered (Cell P T W))) (rest : List (Option (Numbered (Cell P T W)))) → Distinct (s ∷ rest) → Distinct rest
  distinct_tail s rest distinct i j c d at_i at_j same = let both = distinct (suc i) (suc j) c d at_i at_j same in omega arith

  pub all_fresh : (first : ℕ) (slots : List (Option (Numbered (Cell P T W)))) → Distinct slots → AllFresh (by_number first slots)
  all_fresh first [] distinct = tt
  all_fresh first (None ∷ rest) distinct = all_fresh (first + 1) rest (distinct_tail None rest distinct)
  all_fresh first (Some e ∷ rest) distinct = (none (find nat_cmp e.number (by_number (first + 1) rest)) refl, all_fresh (first + 1) rest (distinct_tail (Some e) rest distinct))
    where
      none : (o : Option (Slotted P T W)) → find nat_cmp e.number (by_number (first + 1) rest) ≡ o → o ≡ None
      none None is = refl
      none (Some t) is =
          let sees = find_sees (first + 1) e.number rest t is in
          let same = distinct (suc sees.at) 0 sees.cell e sees.there refl sees.number in
          absurd (omega arith)

  count-by_number : (first : ℕ) (slots : List (Option (Numbered (Cell P T W)))) → count_by (λ s. is_undropped s.cell.state) (list_map (λ x. x.1) (by_number first slots)) ≡ count_by undropped_slot slots
  count-by_number first [] = refl
  count-by_number first (None ∷ rest) = grind (arith, count-by_number (first + 1) rest, sum_by-cons)
  count-by_number first (Some e ∷ rest) =
      let inner = count-by_number (first + 1) rest in
      let one = sum_by-cons (λ s. cond (undropped_slot s) 1 0) (Some e) rest in
      let two = sum_by-cons (λ s. cond (is_undropped s.cell.state) 1 0) (seen first e.cell) (list_map (λ x. x.1) (by_number (first + 1) rest)) in
      omega arith

  undropped_parts : (s : Option (Numbered (Cell P T W))) → cond (undropped_slot s) 1 0 ≡ cond (scheduled_slot s) 1 0 + cond (is_queueable s) 1 0
  undropped_parts s = grind arith

  -- each queued number has one slot
  queued_sum : (slots : List (Option (Numbered (Cell P T W)))) → Distinct slots → (ids : List TaskId) → All (Placed (cells_of slots)) ids → sum_by (queued_times ids) slots ≡ length ids
  queued_sum slots distinct [] placed = sum_by_zero (queued_times []) None slots (λ i. zero_times (get_or slots i None))
    where
      zero_times : (s : Option (Numbered (Cell P T W))) → queued_times [] s ≡ 0
      zero_times None = refl
      zero_times (Some e) = refl
  queued_sum slots distinct (id ∷ rest) placed =
      let inner = queued_sum slots distinct rest (All-tail (Placed (cells_of slots)) id rest placed) in
      let own = All-head (Placed (cells_of slots)) id rest placed in
      let sees = get_sees slots id.number own.0 own.1 in
      let one = sum_by_one (has_number id.number) None slots sees.at refl
      (ap (has_number id.number) sees.there ∙ ap (λ b. cond b 1 0) (eq-eqb id.number sees.cell.number (sym sees.number)))
      (λ i far. apart sees.at sees.cell sees.there sees.number i far (get_or slots i None) refl) in
      let plus = sum_by_plus (queued_times (id ∷ rest)) (has_number id.number) (queued_times rest) slots split in
      omega arith
    where
      split : (s : Option (Numbered (Cell P T W))) → queued_times (id ∷ rest) s ≡ has_number id.number s + queued_times rest s
      split None = refl
      split (Some e) = sum_by-cons (λ k. cond (k == e.number) 1 0) id.number (numbers_of rest)

      apart : (k : ℕ) (c : Numbered (Cell P T W)) → get_or slots k None ≡ Some c → c.number ≡ id.number → (i : ℕ) → i ≢ k → (s : Option (Numbered (Cell P T W))) → get_or slots i None ≡ s → has_number id.number s ≡ 0
      apart k c there number i far None is = refl
      apart k c there number i far (Some e) is = ap (λ b. cond b 1 0) (ne_eqb id.number e.number (λ same. far (distinct i k e c is there (sym same ∙ sym number))))

  -- the count is that of the slots
  pub undropped_slots : {next undropped : ℕ} {slots : List (Option (Numbered (Cell P T W)))} {ids : List TaskId}
      → IsSound next slots ids undropped → undropped ≡ count_by undropped_slot slots
  undropped_slots {next} {undropped} {slots} {ids} sound =
      let queued = queued_sum slots sound.distinct ids sound.placed in
      let scheduled = sum_by_same (queued_times ids) (λ s. cond (scheduled_slot s) 1 0) None slots (λ i. lawful i (get_or slots i None) refl) in
      let parts = sum_by_plus (λ s. cond (undropped_slot s) 1 0) (λ s. cond (scheduled_slot s) 1 0) (λ s. cond (is_queueable s) 1 0) slots undropped_parts in
      let counted = sound.counted in
      omega arith
    where
      lawful : (i : ℕ) (s : Option (Numbered (Cell P T W))) → get_or slots i None ≡ s → queued_times ids s ≡ cond (scheduled_slot s) 1 0
      lawful i None is = refl
      lawful i (Some e) is = sound.law e.number ∙ ap (λ o. cond (scheduled_in o) 1 0) (sees_get slots sound.distinct i e is)

  pub undropped_is : {next undropped : ℕ} {slots : List (Option (Numbered (Cell P T W)))} {ids : List TaskId}
      → IsSound next slots ids undropped → undropped ≡ count_by (λ s. is_undropped s.cell.state) (map.values (cells_of slots))
  unfolding cells_of
  undropped_is {slots = slots} sound =
      undropped_slots sound ∙ sym (values_sum-from_entries (λ s. cond (is_undropped s.cell.state) 1 0) (by_number 0 slots) (all_fresh 0 slots sound.distinct) ∙ count-by_number 0 slots)

  -- nothing is undropped if the count is zero
  pub all_dropped : {next : ℕ} {slots : List (Option (Numbered (Cell P T W)))} {ids : List TaskId}
      → IsSound next slots ids 0 → (q : QueueState) (closed : Bool) → AllDropped (table_of next slots q closed)
  all_dropped {slots = slots} {ids = ids} sound q closed n s found = grind (arith, get_sees slots n s found, length-numbers_of ids, at_least, no_one, law_at, count_by-le-length, undropped_by)

  pub none_undropped : {next undropped : ℕ} {slots : List (Option (Numbered (Cell P T W)))} {ids : List TaskId}
      → IsSound next slots ids undropped → (q : QueueState) (closed : Bool) → AllDropped (table_of next slots q closed) → undropped ≡ 0
  none_undropped {slots = slots} {ids = ids} sound q closed dropped =
      let empty : length ids ≡ 0 = no_ids ids refl in
      let none : count_by is_queueable slots ≡ 0 = sum_by_zero (λ o. cond (is_queueable o) 1 0) None slots (λ k. by_slot k (get_or slots k None) refl) in
      let counted = sound.counted in
      omega arith
    where
      state_of : (k : ℕ) (e : Numbered (Cell P T W)) → get_or slots k None ≡ Some e → (is_scheduled e.cell.state ≡ false) × ((is_idle e.cell.state || is_held e.cell.state) ≡ false)
      state_of k e there = ended_state e.cell.state (dropped e.number (seen k e.cell) (sees_get slots sound.distinct k e there))

      by_slot : (k : ℕ) (o : Option (Numbered (Cell P T W))) → get_or slots k None ≡ o → cond {A = ℕ} (is_queueable o) 1 0 ≡ 0
      by_slot k None is = refl
      by_slot k (Some e) is = let facts = state_of k e is in ap (λ b. cond {A = ℕ} b 1 0) facts.1

      no_ids : (l : List TaskId) → ids ≡ l → length l ≡ 0
      no_ids [] is = refl
      no_ids (id ∷ rest) is =
          let at = front_cell sound id is in
          let facts = state_of id.slot at.0 at.1 in
          let both : true ≡ false = sym at.3 ∙ facts.0 in
          absurd (cc)
