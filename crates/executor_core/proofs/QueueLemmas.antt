-- The queues as lists: what a call makes of the same queues with other entries, and that nothing queued is lost.
use Rattle.std.proofs.Common.{◌≡◌, ◌≢◌, ◌<◌, inl, inr, true, ℕ, zero, suc, ◌+◌, ◌-◌, Bool, not, cond, List, [], ◌∷◌, ◌++◌, map, length, get_or, take, drop, set, min, Option, Some, None, refl, sym, ap, ◌∙◌, subst, append_assoc, arith}
use Rattle.std.proofs.lemmas.Bool.{cases_Bool, ltb-true, eqb-true, eq-eqb, true≢false}
use Rattle.std.proofs.lemmas.List.{map-append, length-map, take-map, drop-map, map-set, take-append-drop, append-nil, length-append, length-take, nil_from_length}
use Rattle.std.proofs.lemmas.List.Concat.{flat_map-append}
use Rattle.std.proofs.lemmas.List.Sorted.{IsPermutation-refl, IsPermutation-trans, IsPermutation-cons, IsPermutation-append_left, IsPermutation-append_comm, IsPermutation-middle}
use Rattle.std.proofs.lemmas.Option.{slice_get-map, slice_get-get_or}
use Rattle.std.proofs.lemmas.List.Quantifiers.{position-Some}
use Rattle.std.proofs.lemmas.Iterator.Adapters.{position_from-zero}
use Rattle.std.specs.Prelude.{◌==◌, IsPermutation, option_map, is_some, slice_get}
use Rattle.std.specs.List.{position, position_from, prefix_len, find, flat_map, remove}
use Rattle.executor_core.specs.Queues.{QueueLists, RunnerQueue, steal_count, stolen, is_runner, position_of, entries_or, capacity_or, entries_at, capacity_at, set_entries, with_entries, local_entries_at, all_entries, global_front, global_stolen, visits, can_steal, victim, stolen_between, local_front, steal_from, search_shared, search_own, search_at, search, search_global, first_occupied, front_at, any_front, search_any, fair_at, fair_count_at, unregistered_at, map_local, map_queues, fair, fair_count, registered, unregistered, entries_of, is_registered}
use Rattle.executor_core.specs.Queues.State.{pushed}
use Rattle.executor_core.specs.declared.task.cell.TaskId.{TaskId}
use Rattle.executor_core.proofs.ListLemmas.{get-set_same, get-set_other}

-- lists of which each item is seen as another
module _ {X Y : Type 0} (g : X → Y) where
  prefix_len-map : (p : Y → Bool) (xs : List X) → prefix_len p (map g xs) ≡ prefix_len (λ x. p (g x)) xs
  prefix_len-map p [] = refl
  prefix_len-map p (x ∷ xs) = ap (λ n. cond (p (g x)) (1 + n) 0) (prefix_len-map p xs)

  pub position-map : (p : Y → Bool) (xs : List X) → position p (map g xs) ≡ position (λ x. p (g x)) xs
  position-map p xs = grind (arith, prefix_len-map, length-map)

  pub remove-map : (xs : List X) (i : ℕ) → remove (map g xs) i ≡ map g (remove xs i)
  remove-map xs i = ap (λ l. l ++ drop (suc i) (map g xs)) (take-map g i xs) ∙ ap (λ l. map g (take i xs) ++ l) (drop-map g (suc i) xs) ∙ sym (map-append g (take i xs) (drop (suc i) xs))

pub find-same : {X : Type 0} (p q : X → Bool) (xs : List X) → ((x : X) → p x ≡ q x) → find p xs ≡ find q xs
find-same p q xs same = ap (λ r. find r xs) (λ i x. same x i)

-- two lists of the queues
module _ {X : Type 0} where
  pub queues_same : (a b : List X) (c d : List (RunnerQueue X)) → a ≡ b → c ≡ d → (let l : QueueLists X = record { global = a; locals = c } in l) ≡ record { global = b; locals = d }
  queues_same a b c d first second i = record { global = first i; locals = second i }

  -- so many go from the source to the target, which stands at r
  moved : (r n : ℕ) (source target : List X) (locals : List (RunnerQueue X)) → QueueLists X
  moved r n source target locals = record { global = drop n source; locals = with_entries r (target ++ take n source) locals }

  -- so many go from the source, which stands at s, to the target, which stands at r
  moved_between : (s r n : ℕ) (source target : List X) (locals : List (RunnerQueue X)) → List (RunnerQueue X)
  moved_between s r n source target locals = with_entries r (target ++ take n source) (with_entries s (drop n source) locals)

module _ {X Y : Type 0} (f : X → Y) where
  pub position_of-map : (k : ℕ) (locals : List (RunnerQueue X)) → position_of k (map (map_local f) locals) ≡ position_of k locals
  position_of-map k locals = position-map (map_local f) (is_runner k) locals

  entries_or-map : (o : Option (RunnerQueue X)) → entries_or (option_map (map_local f) o) ≡ map f (entries_or o)
  entries_or-map o = grind arith

  capacity_or-map : (o : Option (RunnerQueue X)) → capacity_or (option_map (map_local f) o) ≡ capacity_or o
  capacity_or-map o = grind arith

  pub entries_at-map : (r : ℕ) (locals : List (RunnerQueue X)) → entries_at r (map (map_local f) locals) ≡ map f (entries_at r locals)
  entries_at-map r locals = ap entries_or (slice_get-map (map_local f) locals r) ∙ entries_or-map (slice_get locals r)

  pub capacity_at-map : (r : ℕ) (locals : List (RunnerQueue X)) → capacity_at r (map (map_local f) locals) ≡ capacity_at r locals
  capacity_at-map r locals = ap capacity_or (slice_get-map (map_local f) locals r) ∙ capacity_or-map (slice_get locals r)

  set_entries-map : (r : ℕ) (es : List X) (o : Option (RunnerQueue X)) (locals : List (RunnerQueue X)) → set_entries r (map f es) (option_map (map_local f) o) (map (map_local f) locals) ≡ map (map_local f) (set_entries r es o locals)
  set_entries-map r es o locals = grind (arith, map-set)

  pub with_entries-map : (r : ℕ) (es : List X) (locals : List (RunnerQueue X)) → with_entries r (map f es) (map (map_local f) locals) ≡ map (map_local f) (with_entries r es locals)
  with_entries-map r es locals = ap (λ o. set_entries r (map f es) o (map (map_local f) locals)) (slice_get-map (map_local f) locals r) ∙ set_entries-map r es (slice_get locals r) locals

  appended : (n : ℕ) (source target : List X) → map f target ++ take n (map f source) ≡ map f (target ++ take n source)
  appended n source target = ap (λ l. map f target ++ l) (take-map f n source) ∙ sym (map-append f target (take n source))

  stolen-map : (source target : List X) (capacity : ℕ) → stolen (map f source) (map f target) capacity ≡ stolen source target capacity
  stolen-map source target capacity = grind (arith, length-map)

  -- how many a steal moves to the queue at r
  stolen_at-map : (source : List X) (r : ℕ) (locals : List (RunnerQueue X)) → stolen (map f source) (entries_at r (map (map_local f) locals)) (capacity_at r (map (map_local f) locals)) ≡ stolen source (entries_at r locals) (capacity_at r locals)
  stolen_at-map source r locals = grind (arith, entries_at-map, capacity_at-map, stolen-map)

  moved-map : (r n : ℕ) (source target : List X) (locals : List (RunnerQueue X)) → moved r n (map f source) (map f target) (map (map_local f) locals) ≡ map_queues f (moved r n source target locals)
  unfolding moved
  moved-map r n source target locals =
      queues_same _ _ _ _ (drop-map f n source) (ap (λ es. with_entries r es (map (map_local f) locals)) (appended n source target) ∙ with_entries-map r (target ++ take n source) locals)

  pub global_stolen-map : (r : ℕ) (q : QueueLists X) → global_stolen r (map_queues f q) ≡ map_queues f (global_stolen r q)
  unfolding moved
  global_stolen-map r q =
      let target = entries_at r q.locals in
      let count = stolen q.global target (capacity_at r q.locals) in
      ap (λ n. moved r n (map f q.global) (entries_at r (map (map_local f) q.locals)) (map (map_local f) q.locals)) (stolen_at-map q.global r q.locals)
      ∙ ap (λ es. moved r count (map f q.global) es (map (map_local f) q.locals)) (entries_at-map r q.locals)
      ∙ moved-map r count q.global target q.locals

  moved_between-map : (s r n : ℕ) (source target : List X) (locals : List (RunnerQueue X)) → moved_between s r n (map f source) (map f target) (map (map_local f) locals) ≡ map (map_local f) (moved_between s r n source target locals)
  unfolding moved_between
  moved_between-map s r n source target locals =
      ap (λ es. with_entries r es (with_entries s (drop n (map f source)) (map (map_local f) locals))) (appended n source target)
      ∙ ap (λ es. with_entries r (map f (target ++ take n source)) (with_entries s es (map (map_local f) locals))) (drop-map f n source)
      ∙ ap (λ l. with_entries r (map f (target ++ take n source)) l) (with_entries-map s (drop n source) locals)
      ∙ with_entries-map r (target ++ take n source) (with_entries s (drop n source) locals)

  stolen_between_locals-map : (s r : ℕ) (q : QueueLists X) → (stolen_between s r (map_queues f q)).locals ≡ map (map_local f) (stolen_between s r q).locals
  unfolding moved_between
  stolen_between_locals-map s r q =
      let locals = map (map_local f) q.locals in
      let source = entries_at s q.locals in
      let target = entries_at r q.locals in
      let count = stolen source target (capacity_at r q.locals) in
      ap (λ es. moved_between s r (stolen es (entries_at r locals) (capacity_at r locals)) es (entries_at r locals) locals) (entries_at-map s q.locals)
      ∙ ap (λ n. moved_between s r n (map f source) (entries_at r locals) locals) (stolen_at-map source r q.locals)
      ∙ ap (λ es. moved_between s r count (map f source) es locals) (entries_at-map r q.locals)
      ∙ moved_between-map s r count source target q.locals

  pub stolen_between-map : (s r : ℕ) (q : QueueLists X) → stolen_between s r (map_queues f q) ≡ map_queues f (stolen_between s r q)
  stolen_between-map s r q = queues_same _ _ _ _ refl (stolen_between_locals-map s r q)

  can_steal-map : (r : ℕ) (locals : List (RunnerQueue X)) (s : ℕ) → can_steal r (map (map_local f) locals) s ≡ can_steal r locals s
  can_steal-map r locals s = grind (arith, entries_at-map, length-map, capacity_at-map)

  pub victim-map : (r word : ℕ) (locals : List (RunnerQueue X)) → victim r word (map (map_local f) locals) ≡ victim r word locals
  victim-map r word locals = grind (arith, length-map, find-same, can_steal-map)

-- what a search finds, and the queues after it
module _ {X Y : Type 0} (f : X → Y) where
  map_found : Option X × QueueLists X → Option Y × QueueLists Y
  map_found r = (option_map f r.0, map_queues f r.1)

  global_front-map : (es : List X) (q : QueueLists X) → global_front (map f es) (map_queues f q) ≡ map_found (global_front es q)
  unfolding map_found
  global_front-map [] q = refl
  global_front-map (x ∷ rest) q = refl

  local_front-map : (r : ℕ) (es : List X) (q : QueueLists X) → local_front r (map f es) (map_queues f q) ≡ map_found (local_front r es q)
  unfolding map_found
  local_front-map r [] q = refl
  local_front-map r (x ∷ rest) q = λ i. (Some (f x), record { global = map f q.global; locals = with_entries-map f r rest q.locals i })

  steal_from-map : (r : ℕ) (o : Option ℕ) (q : QueueLists X) → steal_from r o (map_queues f q) ≡ map_found (steal_from r o q)
  unfolding map_found
  steal_from-map r None q = refl
  steal_from-map r (Some s) q =
      let after = stolen_between s r q in
      ap (λ a. local_front r (entries_at r a.locals) a) (stolen_between-map f s r q)
      ∙ ap (λ es. local_front r es (map_queues f after)) (entries_at-map f r after.locals)
      ∙ local_front-map r (entries_at r after.locals) after

  search_shared-map : (r word : ℕ) (es : List X) (q : QueueLists X) → search_shared r word (map f es) (map_queues f q) ≡ map_found (search_shared r word es q)
  unfolding map_found
  search_shared-map r word [] q = ap (λ o. steal_from r o (map_queues f q)) (victim-map f r word q.locals) ∙ steal_from-map r (victim r word q.locals) q
  search_shared-map r word (x ∷ rest) q = λ i. (Some (f x), global_stolen-map f r (record q { global = rest }) i)

  search_own-map : (r word : ℕ) (es : List X) (q : QueueLists X) → search_own r word (map f es) (map_queues f q) ≡ map_found (search_own r word es q)
  search_own-map r word [] q = search_shared-map r word q.global q
  search_own-map r word (x ∷ rest) q = local_front-map r (x ∷ rest) q

  search_at-map : (o : Option ℕ) (word : ℕ) (q : QueueLists X) → search_at o word (map_queues f q) ≡ map_found (search_at o word q)
  search_at-map None word q = global_front-map q.global q
  search_at-map (Some r) word q = ap (λ es. search_own r word es (map_queues f q)) (entries_at-map f r q.locals) ∙ search_own-map r word (entries_at r q.locals) q

  search_found-map : (k word : ℕ) (q : QueueLists X) → search k word (map_queues f q) ≡ map_found (search k word q)
  search_found-map k word q = ap (λ o. search_at o word (map_queues f q)) (position_of-map f k q.locals) ∙ search_at-map (position_of k q.locals) word q

  first_occupied-map : (locals : List (RunnerQueue X)) → first_occupied (map (map_local f) locals) ≡ first_occupied locals
  first_occupied-map locals = position-map (map_local f) (λ q. not (length q.entries == 0)) locals ∙ ap (λ p. position p locals) (λ i q. not (length-map q.entries f i == 0))

  front_at-map : (o : Option ℕ) (q : QueueLists X) → front_at o (map_queues f q) ≡ map_found (front_at o q)
  unfolding map_found
  front_at-map None q = refl
  front_at-map (Some r) q = ap (λ es. local_front r es (map_queues f q)) (entries_at-map f r q.locals) ∙ local_front-map r (entries_at r q.locals) q

  any_front-map : (es : List X) (q : QueueLists X) → any_front (map f es) (map_queues f q) ≡ map_found (any_front es q)
  unfolding map_found
  any_front-map [] q = ap (λ o. front_at o (map_queues f q)) (first_occupied-map q.locals) ∙ front_at-map (first_occupied q.locals) q
  any_front-map (x ∷ rest) q = refl

  pub search_any-map_found : (q : QueueLists X) → (search_any (map_queues f q)).0 ≡ option_map f (search_any q).0
  unfolding map_found
  search_any-map_found q = ap (λ r. r.0) (any_front-map q.global q)

  pub search_any-map_lists : (q : QueueLists X) → (search_any (map_queues f q)).1 ≡ map_queues f (search_any q).1
  unfolding map_found
  search_any-map_lists q = ap (λ r. r.1) (any_front-map q.global q)

  pub search_global-map_found : (q : QueueLists X) → (search_global (map_queues f q)).0 ≡ option_map f (search_global q).0
  unfolding map_found
  search_global-map_found q = ap (λ r. r.0) (global_front-map q.global q)

  pub search_global-map_lists : (q : QueueLists X) → (search_global (map_queues f q)).1 ≡ map_queues f (search_global q).1
  unfolding map_found
  search_global-map_lists q = ap (λ r. r.1) (global_front-map q.global q)

  pub search-map_found : (k word : ℕ) (q : QueueLists X) → (search k word (map_queues f q)).0 ≡ option_map f (search k word q).0
  unfolding map_found
  search-map_found k word q = ap (λ r. r.0) (search_found-map k word q)

  pub search-map_lists : (k word : ℕ) (q : QueueLists X) → (search k word (map_queues f q)).1 ≡ map_queues f (search k word q).1
  unfolding map_found
  search-map_lists k word q = ap (λ r. r.1) (search_found-map k word q)

-- the other calls of a runner
module _ {X Y : Type 0} (f : X → Y) where
  pub is_registered-map : (k : ℕ) (locals : List (RunnerQueue X)) → is_registered k (map (map_local f) locals) ≡ is_registered k locals
  is_registered-map k locals = ap is_some (position_of-map f k locals)

  local_entries_at-map : (o : Option ℕ) (locals : List (RunnerQueue X)) → local_entries_at o (map (map_local f) locals) ≡ map f (local_entries_at o locals)
  local_entries_at-map o locals = grind (arith, entries_at-map)

  pub entries_of-map : (k : ℕ) (locals : List (RunnerQueue X)) → entries_of k (map (map_local f) locals) ≡ map f (entries_of k locals)
  entries_of-map k locals = ap (λ o. local_entries_at o (map (map_local f) locals)) (position_of-map f k locals) ∙ local_entries_at-map (position_of k locals) locals

  fair_at-map : (o : Option ℕ) (q : QueueLists X) → fair_at o (map_queues f q) ≡ map_queues f (fair_at o q)
  fair_at-map None q = refl
  fair_at-map (Some r) q = global_stolen-map f r q

  pub fair-map : (k : ℕ) (q : QueueLists X) → fair k (map_queues f q) ≡ map_queues f (fair k q)
  fair-map k q = ap (λ o. fair_at o (map_queues f q)) (position_of-map f k q.locals) ∙ fair_at-map (position_of k q.locals) q

  fair_count_at-map : (o : Option ℕ) (q : QueueLists X) → fair_count_at o (map_queues f q) ≡ fair_count_at o q
  fair_count_at-map o q = grind (arith, stolen_at-map)

  pub fair_count-map : (k : ℕ) (q : QueueLists X) → fair_count k (map_queues f q) ≡ fair_count k q
  fair_count-map k q = ap (λ o. fair_count_at o (map_queues f q)) (position_of-map f k q.locals) ∙ fair_count_at-map (position_of k q.locals) q

  unregistered_at-map : (o : Option ℕ) (q : QueueLists X) → unregistered_at o (map_queues f q) ≡ map_queues f (unregistered_at o q)
  unregistered_at-map o q = grind (arith, queues_same, entries_at-map, map-append, remove-map)

  pub unregistered-map : (k : ℕ) (q : QueueLists X) → unregistered k (map_queues f q) ≡ map_queues f (unregistered k q)
  unregistered-map k q = ap (λ o. unregistered_at o (map_queues f q)) (position_of-map f k q.locals) ∙ unregistered_at-map (position_of k q.locals) q

  pub local_entries-map : (locals : List (RunnerQueue X)) → flat_map (λ (l : RunnerQueue Y). l.entries) (map (map_local f) locals) ≡ map f (flat_map (λ (l : RunnerQueue X). l.entries) locals)
  local_entries-map [] = refl
  local_entries-map (l ∷ rest) = ap (λ es. map f l.entries ++ es) (local_entries-map rest) ∙ sym (map-append f l.entries (flat_map (λ (l : RunnerQueue X). l.entries) rest))

  pub all_entries-map : (q : QueueLists X) → all_entries (map_queues f q) ≡ map f (all_entries q)
  all_entries-map q = ap (λ es. es ++ map f q.global) (local_entries-map q.locals) ∙ sym (map-append f (flat_map (λ (l : RunnerQueue X). l.entries) q.locals) q.global)

-- a list of lists in a row, in which one of them changes
module _ {X : Type 0} where
  local_entries : List (RunnerQueue X) → List X
  local_entries locals = flat_map (λ (l : RunnerQueue X). l.entries) locals

  -- what stands before and behind the queue at r
  record Around (locals : List (RunnerQueue X)) (r : ℕ) (q : RunnerQueue X) : Type 0 where
    before : List X
    behind : List X
    whole : local_entries locals ≡ before ++ (q.entries ++ behind)
    changed : (l : RunnerQueue X) → local_entries (set locals r l) ≡ before ++ (l.entries ++ behind)
    removed : local_entries (remove locals r) ≡ before ++ behind

  around : (locals : List (RunnerQueue X)) (r : ℕ) (q : RunnerQueue X) → slice_get locals r ≡ Some q → Around locals r q
  unfolding local_entries
  around [] r q is = absurd (cc)
  around (l ∷ rest) zero q is =
      let same : l ≡ q = cc in
      record { before = []; behind = local_entries rest; whole = ap (λ (k : RunnerQueue X). k.entries ++ local_entries rest) same; changed = λ k. refl; removed = refl }
  around (l ∷ rest) (suc r) q is =
      let inner = around rest r q is in
      record {
        before = l.entries ++ inner.before;
        behind = inner.behind;
        whole = ap (λ es. l.entries ++ es) inner.whole ∙ sym (append_assoc l.entries inner.before (q.entries ++ inner.behind));
        changed = λ k. ap (λ es. l.entries ++ es) (inner.changed k) ∙ sym (append_assoc l.entries inner.before (k.entries ++ inner.behind));
        removed = ap (λ es. l.entries ++ es) inner.removed ∙ sym (append_assoc l.entries inner.before inner.behind);
      }

  -- a part of the row moves to its front
  to_front : (xs ys zs : List X) → IsPermutation (xs ++ (ys ++ zs)) (ys ++ (xs ++ zs))
  to_front xs ys zs =
      subst (λ l. IsPermutation l (ys ++ (xs ++ zs))) (append_assoc xs ys zs) (subst (IsPermutation ((xs ++ ys) ++ zs)) (append_assoc ys xs zs) (IsPermutation-append_left zs (xs ++ ys) (ys ++ xs) (IsPermutation-append_comm xs ys)))

  -- these came to the end of the queue at r
  gained : (r : ℕ) (es : List X) (o : Option (RunnerQueue X)) (locals : List (RunnerQueue X)) → slice_get locals r ≡ o → (o ≡ None → es ≡ []) → IsPermutation (es ++ local_entries locals) (local_entries (set_entries r (entries_or o ++ es) o locals))
  unfolding local_entries
  gained r es None locals is none = subst (λ l. IsPermutation (l ++ local_entries locals) (local_entries locals)) (sym (none refl)) (IsPermutation-refl (local_entries locals))
  gained r es (Some q) locals is none =
      let parts = around locals r q is in
      let after : local_entries (set locals r (record q { entries = q.entries ++ es })) ≡ (parts.before ++ q.entries) ++ (es ++ parts.behind) =
      parts.changed (record q { entries = q.entries ++ es }) ∙ ap (λ l. parts.before ++ l) (append_assoc q.entries es parts.behind) ∙ sym (append_assoc parts.before q.entries (es ++ parts.behind)) in
      let front : IsPermutation (es ++ ((parts.before ++ q.entries) ++ parts.behind)) ((parts.before ++ q.entries) ++ (es ++ parts.behind)) = to_front es (parts.before ++ q.entries) parts.behind in
      let whole : local_entries locals ≡ (parts.before ++ q.entries) ++ parts.behind = parts.whole ∙ sym (append_assoc parts.before q.entries parts.behind) in
      subst (λ l. IsPermutation (es ++ l) (local_entries (set locals r (record q { entries = q.entries ++ es })))) (sym whole)
      (subst (IsPermutation (es ++ ((parts.before ++ q.entries) ++ parts.behind))) (sym after) front)

  -- these went from the front of the queue at r
  lost : (r : ℕ) (es rest : List X) (o : Option (RunnerQueue X)) (locals : List (RunnerQueue X)) → slice_get locals r ≡ o → entries_or o ≡ es ++ rest → (o ≡ None → es ≡ []) → IsPermutation (local_entries locals) (es ++ local_entries (set_entries r rest o locals))
  unfolding local_entries
  lost r es rest None locals is split none = subst (λ l. IsPermutation (local_entries locals) (l ++ local_entries locals)) (sym (none refl)) (IsPermutation-refl (local_entries locals))
  lost r es rest (Some q) locals is split none =
      let parts = around locals r q is in
      let whole : local_entries locals ≡ parts.before ++ (es ++ (rest ++ parts.behind)) = parts.whole ∙ ap (λ l. parts.before ++ (l ++ parts.behind)) split ∙ ap (λ l. parts.before ++ l) (append_assoc es rest parts.behind) in
      let front : IsPermutation (parts.before ++ (es ++ (rest ++ parts.behind))) (es ++ (parts.before ++ (rest ++ parts.behind))) = to_front parts.before es (rest ++ parts.behind) in
      subst (λ l. IsPermutation l (es ++ local_entries (set locals r (record q { entries = rest })))) (sym whole)
      (subst (λ l. IsPermutation (parts.before ++ (es ++ (rest ++ parts.behind))) (es ++ l)) (sym (parts.changed (record q { entries = rest }))) front)

  -- a queue that is not there gains nothing
  no_room : (r n : ℕ) (source target : List X) (locals : List (RunnerQueue X)) → slice_get locals r ≡ None → n ≡ stolen source target (capacity_at r locals) → take n source ≡ []
  no_room r n source target locals none counted = grind arith

  stolen_permutes : (r : ℕ) (q : QueueLists X) → IsPermutation (all_entries q) (all_entries (global_stolen r q))
  unfolding local_entries
  stolen_permutes r q =
      let target = entries_at r q.locals in
      let n = stolen q.global target (capacity_at r q.locals) in
      let es = take n q.global in
      let rest = drop n q.global in
      let inner = gained r es (slice_get q.locals r) q.locals refl (λ none. no_room r n q.global target q.locals none refl) in
      let swapped : IsPermutation (local_entries q.locals ++ (es ++ rest)) (es ++ (local_entries q.locals ++ rest)) = to_front (local_entries q.locals) es rest in
      let moved_here : IsPermutation (es ++ (local_entries q.locals ++ rest)) (local_entries (with_entries r (target ++ es) q.locals) ++ rest) =
      subst (λ l. IsPermutation l (local_entries (with_entries r (target ++ es) q.locals) ++ rest)) (append_assoc es (local_entries q.locals) rest) (IsPermutation-append_left rest (es ++ local_entries q.locals) (local_entries (with_entries r (target ++ es) q.locals)) inner) in
      subst (λ l. IsPermutation (local_entries q.locals ++ l) (local_entries (with_entries r (target ++ es) q.locals) ++ rest)) (take-append-drop n q.global)
      (IsPermutation-trans _ _ _ swapped moved_here)

-- a queue from which a search steals
pub find_passes : {X : Type 0} (p : X → Bool) (xs : List X) (x : X) → find p xs ≡ Some x → p x ≡ true
find_passes p [] x is = absurd (cc)
find_passes p (y ∷ xs) x is =
    elim (cases_Bool (p y)) [
      | inl passes ↦ let same : Some y ≡ Some x = sym (ap (λ c. cond c (Some y) (find p xs)) passes) ∙ is in let one : y ≡ x = cc in sym (ap p one) ∙ passes
      | inr fails ↦ find_passes p xs x (sym (ap (λ c. cond c (Some y) (find p xs)) fails) ∙ is)
    ]

module _ {X : Type 0} where
  -- it moves something
  pub victim_moves : (r word s : ℕ) (locals : List (RunnerQueue X)) → victim r word locals ≡ Some s → 0 < steal_count (length (entries_at s locals)) (capacity_at r locals)
  victim_moves r word s locals found = ltb-true 0 (steal_count (length (entries_at s locals)) (capacity_at r locals)) (find_passes (can_steal r locals) (visits r word (length locals)) s found)

  take_none : (n : ℕ) → take n (let l : List X = [] in l) ≡ []
  take_none n = grind arith

  other_kept : (s r : ℕ) (es : List X) (o : Option (RunnerQueue X)) (locals : List (RunnerQueue X)) → r ≢ s → slice_get (set_entries s es o locals) r ≡ slice_get locals r
  other_kept s r es o locals far = grind (arith, get-set_other)

  between_permutes : (s r : ℕ) (q : QueueLists X) → r ≢ s → IsPermutation (all_entries q) (all_entries (stolen_between s r q))
  unfolding local_entries
  between_permutes s r q far =
      let locals = q.locals in
      let source = entries_at s locals in
      let target = entries_at r locals in
      let n = stolen source target (capacity_at r locals) in
      let es = take n source in
      let left = with_entries s (drop n source) locals in
      let kept : slice_get left r ≡ slice_get locals r = other_kept s r (drop n source) (slice_get locals s) locals far in
      let out : IsPermutation (local_entries locals) (es ++ local_entries left) =
      lost s es (drop n source) (slice_get locals s) locals refl (sym (take-append-drop n source)) (λ none. ap (λ o. take n (entries_or o)) none ∙ take_none n) in
      let come : IsPermutation (es ++ local_entries left) (local_entries (set_entries r (entries_or (slice_get left r) ++ es) (slice_get left r) left)) =
      gained r es (slice_get left r) left refl (λ none. no_room r n source target locals (sym kept ∙ none) refl) in
      let same : entries_or (slice_get left r) ++ es ≡ target ++ es = ap (λ o. entries_or o ++ es) kept in
      let end : IsPermutation (es ++ local_entries left) (local_entries (with_entries r (target ++ es) left)) =
      subst (λ l. IsPermutation (es ++ local_entries left) (local_entries (set_entries r l (slice_get left r) left))) same come in
      IsPermutation-append_left q.global (local_entries locals) (local_entries (with_entries r (target ++ es) left)) (IsPermutation-trans _ _ _ out end)

  entries_set : (r : ℕ) (es : List X) (o : Option (RunnerQueue X)) (locals : List (RunnerQueue X)) → slice_get locals r ≡ o → o ≢ None → entries_at r (set_entries r es o locals) ≡ es
  entries_set r es o locals is some = grind (arith, get-set_same)

  -- the queue at r is another one, and has something then
  between_gives : (s r word : ℕ) (q : QueueLists X) → entries_at r q.locals ≡ [] → victim r word q.locals ≡ Some s → (r ≢ s) × (0 < length (entries_at r (stolen_between s r q).locals))
  between_gives s r word q idle found =
      let locals = q.locals in
      let source = entries_at s locals in
      let target = entries_at r locals in
      let n = stolen source target (capacity_at r locals) in
      let left = with_entries s (drop n source) locals in
      let moves = victim_moves r word s locals found in
      let none : length target ≡ 0 = ap length idle in
      let far : r ≢ s = λ same. absurd (let empty : length source ≡ length target = ap (λ i. length (entries_at i locals)) (sym same) in omega arith) in
      let kept : slice_get left r ≡ slice_get locals r = other_kept s r (drop n source) (slice_get locals s) locals far in
      let there : slice_get left r ≢ None = λ gone. absurd (let room : capacity_at r locals ≡ 0 = ap capacity_or (sym kept ∙ gone) in omega arith) in
      let entries = entries_set r (target ++ take n source) (slice_get left r) left refl there in
      let long : length (entries_at r (with_entries r (target ++ take n source) left)) ≡ length target + min n (length source) = ap length entries ∙ length-append target (take n source) ∙ ap (λ m. length target + m) (length-take n source) in
      (far, omega arith)

-- all that is queued stays, but for what a search finds and what a push brings
module _ {X : Type 0} where
  global_front-permutes : (es : List X) (q : QueueLists X) (x : X) → q.global ≡ es → (global_front es q).0 ≡ Some x → IsPermutation (all_entries q) (x ∷ all_entries (global_front es q).1)
  unfolding local_entries
  global_front-permutes [] q x is found = absurd (cc)
  global_front-permutes (y ∷ rest) q x is found =
      let same : y ≡ x = cc in
      subst (λ z. IsPermutation (all_entries q) (z ∷ (local_entries q.locals ++ rest))) same
      (subst (λ g. IsPermutation (local_entries q.locals ++ g) (y ∷ (local_entries q.locals ++ rest))) (sym is) (IsPermutation-middle (local_entries q.locals) y rest))

  pub search_global-permutes : (q : QueueLists X) (x : X) → (search_global q).0 ≡ Some x → IsPermutation (all_entries q) (x ∷ all_entries (search_global q).1)
  search_global-permutes q x found = global_front-permutes q.global q x refl found

  global_front-none : (es : List X) (q : QueueLists X) → (global_front es q).0 ≡ None → (global_front es q).1 ≡ q
  global_front-none es q none = grind arith

  pub search_global-none : (q : QueueLists X) → (search_global q).0 ≡ None → (search_global q).1 ≡ q
  search_global-none q none = global_front-none q.global q none

  local_front-permutes : (r : ℕ) (es : List X) (q : QueueLists X) (x : X) → entries_at r q.locals ≡ es → (local_front r es q).0 ≡ Some x → IsPermutation (all_entries q) (x ∷ all_entries (local_front r es q).1)
  unfolding local_entries
  local_front-permutes r [] q x is found = absurd (cc)
  local_front-permutes r (y ∷ rest) q x is found =
      let same : y ≡ x = cc in
      let out : IsPermutation (local_entries q.locals) (y ∷ local_entries (with_entries r rest q.locals)) =
      lost r (y ∷ []) rest (slice_get q.locals r) q.locals refl is (λ none. absurd (let empty : y ∷ rest ≡ [] = sym is ∙ ap entries_or none in cc)) in
      subst (λ z. IsPermutation (all_entries q) (z ∷ (local_entries (with_entries r rest q.locals) ++ q.global))) same
      (IsPermutation-append_left q.global (local_entries q.locals) (y ∷ local_entries (with_entries r rest q.locals)) out)

  steal_from-permutes : (r word : ℕ) (o : Option ℕ) (q : QueueLists X) (x : X) → entries_at r q.locals ≡ [] → victim r word q.locals ≡ o → (steal_from r o q).0 ≡ Some x → IsPermutation (all_entries q) (x ∷ all_entries (steal_from r o q).1)
  steal_from-permutes r word None q x idle chosen found = absurd (cc)
  steal_from-permutes r word (Some s) q x idle chosen found =
      let after = stolen_between s r q in
      IsPermutation-trans _ _ _ (between_permutes s r q (between_gives s r word q idle chosen).0) (local_front-permutes r (entries_at r after.locals) after x refl found)

  search_shared-permutes : (r word : ℕ) (es : List X) (q : QueueLists X) (x : X) → entries_at r q.locals ≡ [] → q.global ≡ es → (search_shared r word es q).0 ≡ Some x → IsPermutation (all_entries q) (x ∷ all_entries (search_shared r word es q).1)
  search_shared-permutes r word [] q x idle is found = steal_from-permutes r word (victim r word q.locals) q x idle refl found
  search_shared-permutes r word (y ∷ rest) q x idle is found =
      let left : QueueLists X = record q { global = rest } in
      IsPermutation-trans _ _ _ (global_front-permutes (y ∷ rest) q x is found) (IsPermutation-cons x (all_entries left) (all_entries (global_stolen r left)) (stolen_permutes r left))

  search_own-permutes : (r word : ℕ) (es : List X) (q : QueueLists X) (x : X) → entries_at r q.locals ≡ es → (search_own r word es q).0 ≡ Some x → IsPermutation (all_entries q) (x ∷ all_entries (search_own r word es q).1)
  search_own-permutes r word [] q x is found = search_shared-permutes r word q.global q x is refl found
  search_own-permutes r word (y ∷ rest) q x is found = local_front-permutes r (y ∷ rest) q x is found

  search_at-permutes : (o : Option ℕ) (word : ℕ) (q : QueueLists X) (x : X) → (search_at o word q).0 ≡ Some x → IsPermutation (all_entries q) (x ∷ all_entries (search_at o word q).1)
  search_at-permutes o word q x found = grind (arith, search_global-permutes, search_own-permutes)

  pub search-permutes : (k word : ℕ) (q : QueueLists X) (x : X) → (search k word q).0 ≡ Some x → IsPermutation (all_entries q) (x ∷ all_entries (search k word q).1)
  search-permutes k word q x found = search_at-permutes (position_of k q.locals) word q x found

  pub local_front-none : (r : ℕ) (es : List X) (q : QueueLists X) → (local_front r es q).0 ≡ None → es ≡ []
  local_front-none r es q none = grind arith

  steal_from-none : (r word : ℕ) (o : Option ℕ) (q : QueueLists X) → entries_at r q.locals ≡ [] → victim r word q.locals ≡ o → (steal_from r o q).0 ≡ None → (steal_from r o q).1 ≡ q
  steal_from-none r word o q idle chosen none = grind (arith, between_gives, local_front-none)

  search_shared-none : (r word : ℕ) (es : List X) (q : QueueLists X) → entries_at r q.locals ≡ [] → (search_shared r word es q).0 ≡ None → (search_shared r word es q).1 ≡ q
  search_shared-none r word es q idle none = grind (arith, steal_from-none)

  search_own-none : (r word : ℕ) (es : List X) (q : QueueLists X) → entries_at r q.locals ≡ es → (search_own r word es q).0 ≡ None → (search_own r word es q).1 ≡ q
  search_own-none r word es q is none = grind (arith, search_shared-none)

  search_at-none : (o : Option ℕ) (word : ℕ) (q : QueueLists X) → (search_at o word q).0 ≡ None → (search_at o word q).1 ≡ q
  search_at-none o word q none = grind (arith, search_global-none, search_own-none)

  pub search-none : (k word : ℕ) (q : QueueLists X) → (search k word q).0 ≡ None → (search k word q).1 ≡ q
  search-none k word q none = search_at-none (position_of k q.locals) word q none

  front_at-permutes : (o : Option ℕ) (q : QueueLists X) (x : X) → (front_at o q).0 ≡ Some x → IsPermutation (all_entries q) (x ∷ all_entries (front_at o q).1)
  front_at-permutes None q x found = absurd (cc)
  front_at-permutes (Some r) q x found = local_front-permutes r (entries_at r q.locals) q x refl found

  any_front-permutes : (es : List X) (q : QueueLists X) (x : X) → q.global ≡ es → (any_front es q).0 ≡ Some x → IsPermutation (all_entries q) (x ∷ all_entries (any_front es q).1)
  any_front-permutes [] q x is found = front_at-permutes (first_occupied q.locals) q x found
  any_front-permutes (y ∷ rest) q x is found = global_front-permutes (y ∷ rest) q x is found

  pub search_any-permutes : (q : QueueLists X) (x : X) → (search_any q).0 ≡ Some x → IsPermutation (all_entries q) (x ∷ all_entries (search_any q).1)
  search_any-permutes q x found = any_front-permutes q.global q x refl found

  none_occupied : (locals : List (RunnerQueue X)) (i : ℕ) → position_from (λ q. not (length q.entries == 0)) i locals ≡ None → local_entries locals ≡ []
  unfolding local_entries
  none_occupied [] i none = refl
  none_occupied (l ∷ rest) i none =
      elim (cases_Bool (length l.entries == 0)) [
        | inl empty ↦
            let later = sym (ap (λ b. cond (not b) (Some i) (position_from (λ (q : RunnerQueue X). not (length q.entries == 0)) (i + 1) rest)) empty) ∙ none in
            ap (λ es. es ++ local_entries rest) (nil_from_length l.entries (eqb-true (length l.entries) 0 empty)) ∙ none_occupied rest (i + 1) later
        | inr some ↦ let here : Some i ≡ None = sym (ap (λ b. cond (not b) (Some i) (position_from (λ (q : RunnerQueue X). not (length q.entries == 0)) (i + 1) rest)) some) ∙ none in absurd (cc)
      ]

  pub some_occupied : (r : ℕ) (locals : List (RunnerQueue X)) → first_occupied locals ≡ Some r → entries_at r locals ≢ []
  some_occupied r locals found empty =
      let other : RunnerQueue X = record { runner = 0; entries = []; capacity = 0 } in
      let parts = position-Some (λ (q : RunnerQueue X). not (length q.entries == 0)) locals r other found in
      let at : entries_at r locals ≡ (get_or locals r other).entries = ap entries_or (slice_get-get_or locals r other parts.0) in
      absurd (true≢false (sym parts.1 ∙ ap not (eq-eqb (length (get_or locals r other).entries) 0 (ap length (sym at ∙ empty)))))

  -- if it finds none, all queues are empty
  pub search_any-none : (q : QueueLists X) → (search_any q).0 ≡ None → (all_entries q ≡ []) × ((search_any q).1 ≡ q)
  unfolding local_entries
  search_any-none q none = by_global q.global refl none
    where
      by_locals : (o : Option ℕ) → first_occupied q.locals ≡ o → q.global ≡ [] → (front_at o q).0 ≡ None → (all_entries q ≡ []) × ((front_at o q).1 ≡ q)
      by_locals None is empty none = (ap (λ es. es ++ q.global) (none_occupied q.locals 0 (sym (position_from-zero (λ (l : RunnerQueue X). not (length l.entries == 0)) q.locals) ∙ is)) ∙ empty, refl)
      by_locals (Some r) is empty none = absurd (some_occupied r q.locals is (local_front-none r (entries_at r q.locals) q none))

      by_global : (es : List X) → q.global ≡ es → (any_front es q).0 ≡ None → (all_entries q ≡ []) × ((any_front es q).1 ≡ q)
      by_global [] is none = by_locals (first_occupied q.locals) refl is none
      by_global (x ∷ rest) is none = absurd (cc)

  fair_at-permutes : (o : Option ℕ) (q : QueueLists X) → IsPermutation (all_entries q) (all_entries (fair_at o q))
  fair_at-permutes None q = IsPermutation-refl (all_entries q)
  fair_at-permutes (Some r) q = stolen_permutes r q

  pub fair-permutes : (k : ℕ) (q : QueueLists X) → IsPermutation (all_entries q) (all_entries (fair k q))
  fair-permutes k q = fair_at-permutes (position_of k q.locals) q

  remove_past : (locals : List (RunnerQueue X)) (r : ℕ) → slice_get locals r ≡ None → remove locals r ≡ locals
  remove_past [] zero is = refl
  remove_past [] (suc r) is = refl
  remove_past (l ∷ rest) zero is = absurd (cc)
  remove_past (l ∷ rest) (suc r) is = ap (λ k. l ∷ k) (remove_past rest r is)

  removed_permutes : (r : ℕ) (o : Option (RunnerQueue X)) (q : QueueLists X) → slice_get q.locals r ≡ o → IsPermutation (all_entries q) (local_entries (remove q.locals r) ++ (q.global ++ entries_or o))
  unfolding local_entries
  removed_permutes r None q is =
      let same : local_entries q.locals ++ q.global ≡ local_entries (remove q.locals r) ++ (q.global ++ []) = ap (λ l. local_entries l ++ q.global) (sym (remove_past q.locals r is)) ∙ ap (λ g. local_entries (remove q.locals r) ++ g) (sym (append-nil q.global)) in
      subst (IsPermutation (all_entries q)) same (IsPermutation-refl (all_entries q))
  removed_permutes r (Some l) q is =
      let parts = around q.locals r l is in
      let left = parts.before ++ parts.behind in
      let first : IsPermutation (local_entries q.locals ++ q.global) ((l.entries ++ left) ++ q.global) =
      subst (λ k. IsPermutation (k ++ q.global) ((l.entries ++ left) ++ q.global)) (sym parts.whole) (IsPermutation-append_left q.global (parts.before ++ (l.entries ++ parts.behind)) (l.entries ++ left) (to_front parts.before l.entries parts.behind)) in
      let second : IsPermutation ((l.entries ++ left) ++ q.global) ((left ++ q.global) ++ l.entries) =
      subst (λ k. IsPermutation k ((left ++ q.global) ++ l.entries)) (sym (append_assoc l.entries left q.global)) (IsPermutation-append_comm l.entries (left ++ q.global)) in
      let end : (left ++ q.global) ++ l.entries ≡ local_entries (remove q.locals r) ++ (q.global ++ l.entries) = append_assoc left q.global l.entries ∙ ap (λ k. k ++ (q.global ++ l.entries)) (sym parts.removed) in
      subst (IsPermutation (all_entries q)) end (IsPermutation-trans _ _ _ first second)

  unregistered_at-permutes : (o : Option ℕ) (q : QueueLists X) → IsPermutation (all_entries q) (all_entries (unregistered_at o q))
  unfolding local_entries
  unregistered_at-permutes None q = IsPermutation-refl (all_entries q)
  unregistered_at-permutes (Some r) q = removed_permutes r (slice_get q.locals r) q refl

  pub unregistered-permutes : (k : ℕ) (q : QueueLists X) → IsPermutation (all_entries q) (all_entries (unregistered k q))
  unregistered-permutes k q = unregistered_at-permutes (position_of k q.locals) q

  unregistered_at-global : (o : Option ℕ) (q : QueueLists X) → (unregistered_at o q).global ≡ q.global ++ local_entries_at o q.locals
  unregistered_at-global o q = grind (arith, append-nil)

  pub unregistered-global : (k : ℕ) (q : QueueLists X) → (unregistered k q).global ≡ q.global ++ entries_of k q.locals
  unregistered-global k q = unregistered_at-global (position_of k q.locals) q

  pub registered-entries : (k capacity : ℕ) (q : QueueLists X) → all_entries (registered k capacity q) ≡ all_entries q
  registered-entries k capacity q = grind (arith, flat_map-append, append-nil)

pub pushed-entries : (id : TaskId) (q : QueueLists TaskId) → all_entries (pushed id q) ≡ all_entries q ++ id ∷ []
pushed-entries id q = sym (append_assoc (flat_map (λ (l : RunnerQueue TaskId). l.entries) q.locals) q.global (id ∷ []))
