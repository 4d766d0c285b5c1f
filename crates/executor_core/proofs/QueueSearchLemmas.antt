-- The queue from which a search steals.
use Rattle.std.proofs.Common.{◌≡◌, ◌≢◌, ℕ, zero, suc, ◌+◌, ◌-◌, ◌%◌, ◌<◌, ◌≤◌, inl, inr, Bool, true, false, not, ◌&&◌, cond, List, [], ◌∷◌, ◌++◌, length, take, drop, Option, Some, None, refl, sym, ap, ◌∙◌, arith}
use Rattle.std.proofs.lemmas.Bool.{cases_Bool, cases_eq, ne_eqb, lt-ltb, le-ltb}
use Rattle.std.specs.Prelude.{◌==◌, nat_lt, slice_get}
use Rattle.std.specs.List.{find, filter, range_with_len}
use Rattle.executor_core.specs.Queues.{QueueLists, RunnerQueue, steal_count, entries_or, entries_at, capacity_at, set_entries, with_entries, gives, can_steal, victim, position_of, global_front, global_stolen, stolen_between, local_front, steal_from, search_global, search, first_occupied, front_at, any_front, search_any}
use Rattle.executor_core.specs.Queues.State.{QueueState, with_lists}
use Rattle.executor_core.specs.declared.task.cell.TaskId.{TaskId}
use Rattle.executor_core.proofs.ListLemmas.{set-here}
use Rattle.executor_core.proofs.QueueLemmas.{find-same, queues_same, victim_moves, search_global-none}

-- the first number of a range that passes
pub find-range : (p : ℕ → Bool) (a n i : ℕ) → ((k : ℕ) → a ≤ k → k < i → p k ≡ false) → a ≤ i → i < a + n → p i ≡ true → find p (range_with_len a n) ≡ Some i
find-range p a zero i fails low high passes = absurd (omega arith)
find-range p a (suc n) i fails low high passes =
    elim (cases_eq a i) [
      | inl same ↦ ap (λ b. cond b (Some a) (find p (range_with_len (a + 1) n))) (ap p same ∙ passes) ∙ ap Some same
      | inr far ↦
          let here : p a ≡ false = fails a (omega arith) (omega arith) in
          ap (λ b. cond b (Some a) (find p (range_with_len (a + 1) n))) here ∙ find-range p (a + 1) n i (λ k le. fails k (omega arith)) (omega arith) (omega arith) passes
    ]

pub find_none-range : (p : ℕ → Bool) (a n : ℕ) → ((k : ℕ) → a ≤ k → k < a + n → p k ≡ false) → find p (range_with_len a n) ≡ None
find_none-range p a zero fails = refl
find_none-range p a (suc n) fails =
    ap (λ b. cond b (Some a) (find p (range_with_len (a + 1) n))) (fails a (omega arith) (omega arith)) ∙ find_none-range p (a + 1) n (λ k le lt. fails k (omega arith) (omega arith))

drop-range : (k a n : ℕ) → drop k (range_with_len a n) ≡ range_with_len (a + k) (n - k)
drop-range zero a n = grind arith
drop-range (suc k) a zero = grind arith
drop-range (suc k) a (suc n) = grind (arith, drop-range k (a + 1) n)

take-range : (k a n : ℕ) → k ≤ n → take k (range_with_len a n) ≡ range_with_len a k
take-range zero a n le = refl
take-range (suc k) a zero le = absurd (omega arith)
take-range (suc k) a (suc n) le = ap (λ l. a ∷ l) (take-range k (a + 1) n (omega arith))

module _ {X : Type 0} (p q : X → Bool) where
  filter_step : (a b : Bool) (x : X) (xs : List X) → find p (filter q xs) ≡ find (λ y. q y && p y) xs → q x ≡ a → p x ≡ b → find p (filter q (x ∷ xs)) ≡ find (λ y. q y && p y) (x ∷ xs)
  filter_step a b x xs rest is passes = grind arith

  find-filter : (xs : List X) → find p (filter q xs) ≡ find (λ x. q x && p x) xs
  find-filter [] = refl
  find-filter (x ∷ xs) = filter_step (q x) (p x) x xs (find-filter xs) refl refl

module _ {X : Type 0} (p : X → Bool) where
  find-append_some : (xs ys : List X) (x : X) → find p xs ≡ Some x → find p (xs ++ ys) ≡ Some x
  find-append_some [] ys x is = absurd (cc)
  find-append_some (y ∷ xs) ys x is =
      elim (cases_Bool (p y)) [
        | inl passes ↦ ap (λ c. cond c (Some y) (find p (xs ++ ys))) passes ∙ sym (ap (λ c. cond c (Some y) (find p xs)) passes) ∙ is
        | inr fails ↦ ap (λ c. cond c (Some y) (find p (xs ++ ys))) fails ∙ find-append_some xs ys x (sym (ap (λ c. cond c (Some y) (find p xs)) fails) ∙ is)
      ]

  find-append_none : (xs ys : List X) → find p xs ≡ None → find p (xs ++ ys) ≡ find p ys
  find-append_none [] ys is = refl
  find-append_none (y ∷ xs) ys is =
      elim (cases_Bool (p y)) [
        | inl passes ↦ let some : Some y ≡ None = sym (ap (λ c. cond c (Some y) (find p xs)) passes) ∙ is in absurd (cc)
        | inr fails ↦ ap (λ c. cond c (Some y) (find p (xs ++ ys))) fails ∙ find-append_none xs ys (sym (ap (λ c. cond c (Some y) (find p xs)) fails) ∙ is)
      ]

count_some : (n capacity : ℕ) → 0 < capacity → nat_lt 0 (steal_count n capacity) ≡ not (n == 0)
count_some n capacity room = grind (arith, le-ltb, lt-ltb, ne_eqb)

sub_zero : (n : ℕ) → n - 0 ≡ n
sub_zero n = omega arith

find_fails : (p : ℕ → Bool) (xs : List ℕ) → ((k : ℕ) → p k ≡ false) → find p xs ≡ None
find_fails p [] fails = refl
find_fails p (x ∷ xs) fails = ap (λ c. cond c (Some x) (find p xs)) (fails x) ∙ find_fails p xs fails

module _ {X : Type 0} where
  gives_is : (r : ℕ) (locals : List (RunnerQueue X)) → 0 < capacity_at r locals → (s : ℕ) → (not (s == r) && can_steal r locals s) ≡ gives r locals s
  gives_is r locals room s = ap (λ b. not (s == r) && b) (count_some (length (entries_at s locals)) (capacity_at r locals) room)

  victim_is : (r word : ℕ) (locals : List (RunnerQueue X)) → 0 < capacity_at r locals → r < length locals → victim r word locals ≡ find (gives r locals) (range_with_len (word % length locals) (length locals - word % length locals) ++ range_with_len 0 (word % length locals))
  victim_is r word locals room within = grind (arith, drop-range, take-range, find-filter, find-same, gives_is)

  -- where a search looks from its start on, and then from the first position up to it
  pub victim_after : (r word s n : ℕ) (locals : List (RunnerQueue X)) → n ≡ length locals → capacity_at r locals ≢ 0 → r < length locals → Some s ≡ find (gives r locals) (range_with_len (word % n) (n - word % n)) → Some s ≡ victim r word locals
  victim_after r word s n locals count some within found = grind (arith, victim_is, find-append_some)

  pub victim_before : (r word n : ℕ) (o : Option ℕ) (locals : List (RunnerQueue X)) → n ≡ length locals → capacity_at r locals ≢ 0 → r < length locals → None ≡ find (gives r locals) (range_with_len (word % n) (n - word % n)) → o ≡ find (gives r locals) (range_with_len 0 (word % n - 0)) → o ≡ victim r word locals
  victim_before r word n o locals count some within none found = grind (arith, sub_zero, victim_is, find-append_none)

  -- nothing can be stolen if nothing has room
  pub victim_none : (r word : ℕ) (locals : List (RunnerQueue X)) → capacity_at r locals ≡ 0 → None ≡ victim r word locals
  victim_none r word locals none = grind (arith, find_fails, le-ltb)

  -- something stands in the queue that a search steals from
  pub victim_gives : (r word s : ℕ) (locals : List (RunnerQueue X)) → victim r word locals ≡ Some s → 0 < length (entries_at s locals)
  victim_gives r word s locals found =
      let moves = victim_moves r word s locals found in
      omega arith

  pub entries_within : (s : ℕ) (locals : List (RunnerQueue X)) → 0 < length (entries_at s locals) → s < length locals
  entries_within s [] some = absurd (omega arith)
  entries_within zero (l ∷ rest) some = omega arith
  entries_within (suc s) (l ∷ rest) some = let inner = entries_within s rest some in omega arith

-- what a search finds if the runner's own queue is empty
module _ {X : Type 0} where
  front_none : (es : List X) → slice_get es 0 ≡ None → es ≡ []
  front_none [] none = refl
  front_none (x ∷ es) none = absurd (cc)

  pub with_same : (r : ℕ) (o : Option (RunnerQueue X)) (locals : List (RunnerQueue X)) → slice_get locals r ≡ o → set_entries r (entries_or o) o locals ≡ locals
  with_same r o locals is = grind (arith, set-here)

  -- nothing changed if there was no front
  front_kept : (r : ℕ) (q : QueueLists X) → slice_get (entries_at r q.locals) 0 ≡ None → (let l : QueueLists X = record q { locals = with_entries r (drop 1 (entries_at r q.locals)) q.locals } in l) ≡ q
  front_kept r q none = grind (arith, front_none, queues_same, with_same)

  local_left : (r : ℕ) (es : List X) (q : QueueLists X) → entries_at r q.locals ≡ es → (local_front r es q).1 ≡ record q { locals = with_entries r (drop 1 es) q.locals }
  local_left r es q is = grind (arith, queues_same, with_same)

-- a runner's search past its own queue, which is empty: what it took of the global queue, and the queues then
pub record Searched (s after : QueueState) (k r : ℕ) (o : Option TaskId) : Type 0 where
  pub place : Some r ≡ position_of k s.lists.locals
  pub idle : entries_at r s.lists.locals ≡ []
  pub front : o ≡ (search_global s.lists).0
  pub rest : after ≡ with_lists (search_global s.lists).1 s

pub searched : (s first second after : QueueState) (k r : ℕ) (own o : Option TaskId) → first ≡ s → Some r ≡ position_of k s.lists.locals → own ≡ None → own ≡ slice_get (entries_at r first.lists.locals) 0 → second ≡ with_lists (record first.lists { locals = with_entries r (drop 1 (entries_at r first.lists.locals)) first.lists.locals }) first → o ≡ (search_global second.lists).0 → after ≡ with_lists (search_global second.lists).1 second → Searched s after k r o
searched s first second after k r own o same place empty own_front own_rest front rest =
    let none : slice_get (entries_at r first.lists.locals) 0 ≡ None = sym own_front ∙ empty in
    let kept : second ≡ s = own_rest ∙ ap (λ q. with_lists q first) (front_kept r first.lists none) ∙ same in
    record {
      place = place;
      idle = ap (λ (t : QueueState). entries_at r t.lists.locals) (sym same) ∙ front_none (entries_at r first.lists.locals) none;
      front = front ∙ ap (λ (t : QueueState). (search_global t.lists).0) kept;
      rest = rest ∙ ap (λ (t : QueueState). with_lists (search_global t.lists).1 t) kept;
    }

pub found_global : (s after last : QueueState) (k word r : ℕ) (id : TaskId) → Searched s after k r (Some id) → last ≡ with_lists (global_stolen r after.lists) after → last ≡ with_lists (search k word s.lists).1 s
found_global s after last k word r id done stolen_here = grind arith

unchanged : (s after : QueueState) (k r : ℕ) → Searched s after k r None → after ≡ s
unchanged s after k r done = done.rest ∙ ap (λ q. with_lists q s) (search_global-none s.lists (sym done.front))

from_others : (s after : QueueState) (k word r : ℕ) (o : Option ℕ) → Searched s after k r None → o ≡ victim r word after.lists.locals → search k word s.lists ≡ steal_from r o s.lists
from_others s after k word r o done chosen = grind (arith, unchanged)

pub none_found : (s after : QueueState) (k word r : ℕ) → Searched s after k r None → None ≡ victim r word after.lists.locals → None ≡ (search k word s.lists).0
none_found s after k word r done chosen = ap (λ (p : Option TaskId × QueueLists TaskId). p.0) (sym (from_others s after k word r None done chosen))

pub none_left : (s after : QueueState) (k word r : ℕ) → Searched s after k r None → None ≡ victim r word after.lists.locals → after ≡ with_lists (search k word s.lists).1 s
none_left s after k word r done chosen = unchanged s after k r done ∙ ap (λ (p : Option TaskId × QueueLists TaskId). with_lists p.1 s) (sym (from_others s after k word r None done chosen))

-- the queue that is stolen from stands in the list, and is another one
pub victim_within : (r word v : ℕ) (after : QueueState) → Some v ≡ victim r word after.lists.locals → v < length after.lists.locals
victim_within r word v after chosen = entries_within v after.lists.locals (victim_gives r word v after.lists.locals (sym chosen))

pub victim_apart : (s after : QueueState) (k word r v : ℕ) → Searched s after k r None → Some v ≡ victim r word after.lists.locals → v ≢ r
victim_apart s after k word r v done chosen same = grind (arith, victim_gives r word v after.lists.locals (sym chosen), unchanged)

pub stolen_found : (s after left : QueueState) (k word r v : ℕ) (o : Option TaskId) → Searched s after k r None → Some v ≡ victim r word after.lists.locals → left ≡ with_lists (stolen_between v r after.lists) after → o ≡ slice_get (entries_at r left.lists.locals) 0 → o ≡ (search k word s.lists).0
stolen_found s after left k word r v o done chosen stolen_here front = grind (arith, unchanged, from_others)

pub stolen_left : (s after left last : QueueState) (k word r v : ℕ) → Searched s after k r None → Some v ≡ victim r word after.lists.locals → left ≡ with_lists (stolen_between v r after.lists) after → last ≡ with_lists (record left.lists { locals = with_entries r (drop 1 (entries_at r left.lists.locals)) left.lists.locals }) left → last ≡ with_lists (search k word s.lists).1 s
stolen_left s after left last k word r v done chosen stolen_here rest =
    let q = stolen_between v r s.lists in
    let here : left ≡ with_lists q s = stolen_here ∙ ap (λ (t : QueueState). with_lists (stolen_between v r t.lists) t) (unchanged s after k r done) in
    rest ∙ ap (λ (t : QueueState). with_lists (record t.lists { locals = with_entries r (drop 1 (entries_at r t.lists.locals)) t.lists.locals }) t) here
    ∙ ap (λ (l : QueueLists TaskId). with_lists l s) (sym (local_left r (entries_at r q.locals) q refl))
    ∙ ap (λ (p : Option TaskId × QueueLists TaskId). with_lists p.1 s) (sym (from_others s after k word r (Some v) done chosen))

-- a search of any queue past the global one, which is empty
any_idle : {X : Type 0} (es : List X) (q : QueueLists X) → None ≡ (global_front es q).0 → any_front es q ≡ front_at (first_occupied q.locals) q
any_idle es q none = grind arith

any_past : (s after : QueueState) (r : ℕ) → None ≡ (search_global s.lists).0 → after ≡ with_lists (search_global s.lists).1 s → Some r ≡ first_occupied after.lists.locals → (after ≡ s) × (search_any s.lists ≡ local_front r (entries_at r s.lists.locals) s.lists)
any_past s after r none rest found = grind (arith, search_global-none, any_idle)

pub any_found : (s after : QueueState) (r : ℕ) → None ≡ (search_global s.lists).0 → after ≡ with_lists (search_global s.lists).1 s → Some r ≡ first_occupied after.lists.locals → slice_get (entries_at r after.lists.locals) 0 ≡ (search_any s.lists).0
any_found s after r none rest found = grind (arith, any_past)

pub any_left : (s after last : QueueState) (r : ℕ) → None ≡ (search_global s.lists).0 → after ≡ with_lists (search_global s.lists).1 s → Some r ≡ first_occupied after.lists.locals → last ≡ with_lists (record after.lists { locals = with_entries r (drop 1 (entries_at r after.lists.locals)) after.lists.locals }) after → last ≡ with_lists (search_any s.lists).1 s
any_left s after last r none rest found left =
    let past = any_past s after r none rest found in
    left
    ∙ ap (λ (t : QueueState). with_lists (record t.lists { locals = with_entries r (drop 1 (entries_at r t.lists.locals)) t.lists.locals }) t) past.0
    ∙ ap (λ q. with_lists q s) (sym (local_left r (entries_at r s.lists.locals) s.lists refl))
    ∙ ap (λ (p : Option TaskId × QueueLists TaskId). with_lists p.1 s) (sym past.1)
