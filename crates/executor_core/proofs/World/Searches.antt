-- A run's search finds nothing only if nothing is queued.
use Rattle.std.proofs.Common.{◌≡◌, ◌≢◌, ℕ, zero, suc, ◌+◌, ◌<◌, ◌≤◌, Bool, true, false, not, ◌||◌, inl, inr, List, [], ◌∷◌, ◌++◌, length, take, drop, Option, Some, None, refl, sym, ap, ◌∙◌, length-take, arith}
use Rattle.std.proofs.lemmas.Bool.{cases_Bool, cases_eq, cases_lt, eq-eqb, eqb-true, ne_eqb, lt-ltb, ltb-true, or_left, or_right, or_cases, true≢false, cond-true, cond-false}
use Rattle.std.proofs.lemmas.List.{take-append-drop}
use Rattle.std.proofs.lemmas.List.Folds.{list_any-append}
use Rattle.std.proofs.lemmas.List.Sorted.{length_permutation}
use Rattle.std.proofs.lemmas.Map.Views.{any-filter_same}
use Rattle.std.specs.List.{list_any, find, flat_map, range_with_len}
use Rattle.std.specs.Prelude.{◌==◌, ◌%◌, min, slice_get}
use Rattle.executor_core.specs.Queues.{RunnerQueue, QueueLists, is_runner, is_registered, steal_count, stolen, entries_or, entries_at, capacity_or, capacity_at, with_entries, all_entries, visits, can_steal, victim, stolen_between, local_front, steal_from, search_shared, search_own, search_at, search, search_any, global_front, search_global, global_stolen, fair}
use Rattle.executor_core.specs.World.Steps.{found_by}
use Rattle.executor_core.proofs.ListLemmas.{get-set_same, within_get}
use Rattle.executor_core.proofs.QueueLemmas.{find_passes, search_any-permutes, search_any-none}
use Rattle.executor_core.proofs.World.Runners.{position_at, shapes, shape_at, shapes_with}

empty_append : {X : Type 0} (xs ys : List X) → xs ++ ys ≡ [] → ys ≡ []
empty_append [] ys none = none
empty_append (x ∷ xs) ys none = absurd (cc)

pub no_items : {X : Type 0} (xs : List X) → length xs ≡ 0 → xs ≡ []
no_items [] none = refl
no_items (x ∷ xs) none = absurd (omega arith)

-- what is looked for, and not found
find_none : (f : ℕ → Bool) (xs : List ℕ) (x : ℕ) → find f xs ≡ None → list_any (λ j. j == x) xs ≡ true → f x ≡ false
find_none f [] x none there = absurd (cc)
find_none f (z ∷ zs) x none there = elim (cases_Bool (f z)) [
  | inl passes ↦ absurd (cc (sym (cond-true (f z) (Some z) (find f zs) passes), none))
  | inr fails ↦ elim (or_cases (z == x) (list_any (λ j. j == x) zs) there) [
    | inl here ↦ sym (ap f (eqb-true z x here)) ∙ fails
    | inr later ↦ find_none f zs x (sym (cond-false (f z) (Some z) (find f zs) fails) ∙ none) later
  ]
]

-- a search visits each of the others
range_has : (a n x : ℕ) → a ≤ x → x < a + n → list_any (λ j. j == x) (range_with_len a n) ≡ true
range_has a zero x from below = absurd (omega arith)
range_has a (suc n) x from below = elim (cases_eq a x) [
  | inl here ↦ or_left _ _ (eq-eqb a x here)
  | inr far ↦ or_right (a == x) _ (range_has (a + 1) n x (omega arith) (omega arith))
]

turned_has : (m : ℕ) (xs : List ℕ) (x : ℕ) → list_any (λ j. j == x) xs ≡ true → list_any (λ j. j == x) (drop m xs ++ take m xs) ≡ true
turned_has m xs x there =
    let split : list_any (λ j. j == x) (take m xs) || list_any (λ j. j == x) (drop m xs) ≡ true = sym (list_any-append (λ j. j == x) (take m xs) (drop m xs)) ∙ ap (list_any (λ j. j == x)) (take-append-drop m xs) ∙ there in
    list_any-append (λ j. j == x) (drop m xs) (take m xs) ∙ elim (or_cases _ _ split) [
      | inl front ↦ or_right (list_any (λ j. j == x) (drop m xs)) _ front
      | inr back ↦ or_left _ (list_any (λ j. j == x) (take m xs)) back
    ]

visited : (r word n s : ℕ) → s < n → s ≢ r → list_any (λ j. j == s) (visits r word n) ≡ true
visited r word n s below other =
    any-filter_same (λ j. j == s) (λ j. not (j == r)) true (λ j is. ap not (ne_eqb j r (λ same. other (sym (eqb-true j s is) ∙ same)))) (drop (word % n) (range_with_len 0 n) ++ take (word % n) (range_with_len 0 n))
    ∙ turned_has (word % n) (range_with_len 0 n) s (range_has 0 n s (omega arith) (omega arith))

-- the entries that were put in the place of others
module _ {X : Type 0} where
  entries_with : (locals : List (RunnerQueue X)) (r : ℕ) (q : RunnerQueue X) (entries : List X) → slice_get locals r ≡ Some q → entries_at r (with_entries r entries locals) ≡ entries
  entries_with locals r q entries at = grind (arith, get-set_same)

  -- each queue is empty
  all_empty : (locals : List (RunnerQueue X)) → ((i : ℕ) (q : RunnerQueue X) → slice_get locals i ≡ Some q → q.entries ≡ []) → flat_map (λ local. local.entries) locals ≡ []
  all_empty [] none = refl
  all_empty (q ∷ qs) none = ap (λ l. l ++ flat_map (λ local. local.entries) qs) (none 0 q refl) ∙ all_empty qs (λ i q at. none (suc i) q at)

  front_none : (r : ℕ) (entries : List X) (q : QueueLists X) → (local_front r entries q).0 ≡ None → entries ≡ []
  front_none r entries q none = grind arith

module _ (word : ℕ) (q : QueueLists ℕ) (roomy : (i : ℕ) (x : RunnerQueue ℕ) → slice_get q.locals i ≡ Some x → 0 < x.capacity) (r : ℕ) (own : RunnerQueue ℕ) (here : slice_get q.locals r ≡ Some own) where
  -- a steal that is possible brings something
  steal_brings : (s : ℕ) → entries_at r q.locals ≡ [] → can_steal r q.locals s ≡ true → (steal_from r (Some s) q).0 ≡ None → ⊥
  steal_brings s mine can none =
      let source = entries_at s q.locals in
      let gain = stolen source (entries_at r q.locals) (capacity_at r q.locals) in
      let left = (stolen_between s r q).locals in
      let middle : List (RunnerQueue ℕ) = with_entries s (drop gain source) q.locals in
      let still = shape_at middle q.locals (sym (shapes_with q.locals s (drop gain source))) r own here in
      let now : entries_at r (stolen_between s r q).locals ≡ entries_at r q.locals ++ take gain source = entries_with middle r still.0 (entries_at r q.locals ++ take gain source) still.1 in
      let empty : take gain source ≡ [] = empty_append (entries_at r q.locals) (take gain source) (sym now ∙ front_none r (entries_at r (stolen_between s r q).locals) (stolen_between s r q) none) in
      let long : min gain (length source) ≡ 0 = sym (length-take gain source) ∙ ap length empty in
      let no_more : ◌≡◌ {A = ℕ} (length (entries_at r q.locals)) 0 = ap length mine in
      let some = ltb-true 0 (steal_count (length source) (capacity_at r q.locals)) can in
      absurd (omega arith)

  by_victim : entries_at r q.locals ≡ [] → (o : Option ℕ) → victim r word q.locals ≡ o → (steal_from r o q).0 ≡ None → o ≡ None
  by_victim mine victim is none = grind (arith, steal_brings, find_passes)

  -- if nobody can be stolen from, nobody has anything
  others_empty : victim r word q.locals ≡ None → (i : ℕ) (x : RunnerQueue ℕ) → slice_get q.locals i ≡ Some x → i ≢ r → x.entries ≡ []
  others_empty nobody i x at other =
      let never = find_none (can_steal r q.locals) (visits r word (length q.locals)) i nobody (visited r word (length q.locals) i (within_get q.locals i x at) other) in
      let entries : entries_at i q.locals ≡ x.entries = ap entries_or at in
      let long : length (entries_at i q.locals) ≡ length x.entries = ap length entries in
      let places : capacity_at r q.locals ≡ own.capacity = ap (λ o. capacity_or o) here in
      let some = roomy r own here in
      elim (cases_lt 0 (steal_count (length (entries_at i q.locals)) (capacity_at r q.locals))) [
        | inl can ↦ absurd (true≢false (sym (lt-ltb 0 _ can) ∙ never))
        | inr none ↦ no_items x.entries (omega arith)
      ]

  -- a search in vain
  record InVain (found : Option ℕ × QueueLists ℕ) : Type 0 where
    pub nothing : all_entries q ≡ []
    pub global : q.global ≡ []
    pub same : found ≡ (None, q)

  shared_vain : entries_at r q.locals ≡ [] → (global : List ℕ) → q.global ≡ global → (search_shared r word global q).0 ≡ None → InVain (search_shared r word global q)
  shared_vain mine global is none = grind (arith, by_victim, all_empty, cases_eq, others_empty)

  own_vain : (entries : List ℕ) → entries_at r q.locals ≡ entries → (search_own r word entries q).0 ≡ None → InVain (search_own r word entries q)
  own_vain entries is none = grind (arith, shared_vain)

-- a registered runner's search in vain
pub search_vain : (k word : ℕ) (q : QueueLists ℕ) → is_registered k q.locals ≡ true → ((i : ℕ) (x : RunnerQueue ℕ) → slice_get q.locals i ≡ Some x → 0 < x.capacity) → (search k word q).0 ≡ None → (all_entries q ≡ []) × (q.global ≡ []) × (search k word q ≡ (None, q))
search_vain k word q there roomy none =
    let at = position_at (is_runner k) q.locals there in
    let is : search k word q ≡ search_own at.0 word (entries_at at.0 q.locals) q = ap (λ o. search_at o word q) at.2 in
    let vain = own_vain word q roomy at.0 at.1 at.3 (entries_at at.0 q.locals) refl (sym (ap (λ f. f.0) is) ∙ none) in
    (vain.nothing, vain.global, is ∙ vain.same)

-- a search leaves the runners and their places
front_shapes : (r : ℕ) (entries : List ℕ) (q : QueueLists ℕ) → shapes (local_front r entries q).1.locals ≡ shapes q.locals
front_shapes r entries q = grind (arith, shapes_with)

pub stolen_shapes : (r : ℕ) (q : QueueLists ℕ) → shapes (global_stolen r q).locals ≡ shapes q.locals
stolen_shapes r q = shapes_with q.locals r _

steal_shapes : (r : ℕ) (o : Option ℕ) (q : QueueLists ℕ) → shapes (steal_from r o q).1.locals ≡ shapes q.locals
steal_shapes r o q = grind (arith, front_shapes, shapes_with)

shared_shapes : (r word : ℕ) (global : List ℕ) (q : QueueLists ℕ) → shapes (search_shared r word global q).1.locals ≡ shapes q.locals
shared_shapes r word (x ∷ rest) q = stolen_shapes r (record q { global = rest })
shared_shapes r word [] q = steal_shapes r (victim r word q.locals) q

own_shapes : (r word : ℕ) (entries : List ℕ) (q : QueueLists ℕ) → shapes (search_own r word entries q).1.locals ≡ shapes q.locals
own_shapes r word (x ∷ rest) q = front_shapes r (x ∷ rest) q
own_shapes r word [] q = shared_shapes r word q.global q

global_shapes : (global : List ℕ) (q : QueueLists ℕ) → shapes (global_front global q).1.locals ≡ shapes q.locals
global_shapes global q = grind arith

search_shapes : (k word : ℕ) (q : QueueLists ℕ) → shapes (search k word q).1.locals ≡ shapes q.locals
search_shapes k word q = grind (arith, global_shapes, own_shapes)

pub any_shapes : (q : QueueLists ℕ) → shapes (search_any q).1.locals ≡ shapes q.locals
any_shapes q = grind (arith, front_shapes)

pub found_shapes : (runner : Option ℕ) (word : ℕ) (q : QueueLists ℕ) → shapes (found_by runner word q).1.locals ≡ shapes q.locals
found_shapes runner word q = grind (arith, global_shapes, search_shapes)

pub fair_shapes : (k : ℕ) (q : QueueLists ℕ) → shapes (fair k q).locals ≡ shapes q.locals
fair_shapes k q = grind (arith, stolen_shapes)

-- a search of any queue in vain
pub any_vain : (q : QueueLists ℕ) → all_entries q ≡ [] → search_any q ≡ (None, q)
any_vain q nothing = by_found (search_any q).0 refl
  where
    by_found : (o : Option ℕ) → (search_any q).0 ≡ o → search_any q ≡ (None, q)
    by_found None is = λ i. (is i, (search_any-none q is).1 i)
    by_found (Some x) is = absurd (let long = length_permutation (all_entries q) (x ∷ all_entries (search_any q).1) (search_any-permutes q x is) in let none = ap length nothing in omega arith)

-- a tick's search in vain
pub front_vain : (q : QueueLists ℕ) → (search_global q).0 ≡ None → (q.global ≡ []) × (search_global q ≡ (None, q))
front_vain q none = grind arith
