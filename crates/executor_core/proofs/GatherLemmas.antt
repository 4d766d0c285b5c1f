-- All that stands in the runners' queues goes to the end of another queue.
use Rattle.std.proofs.Common.{◌≡◌, ℕ, zero, suc, ◌+◌, ◌≤◌, List, [], ◌∷◌, ◌++◌, map, length, set, Some, refl, sym, ap, subst, ◌∙◌, append_assoc, append-nil, arith}
use Rattle.std.proofs.lemmas.List.{map-set}
use Rattle.std.proofs.lemmas.Option.{slice_get-map}
use Rattle.std.specs.Prelude.{slice_get}
use Rattle.std.specs.List.Sorted.{IsPermutation}
use Rattle.std.proofs.lemmas.List.Sorted.{IsPermutation-append_comm}
use Rattle.executor_core.specs.Queues.{RunnerQueue, QueueLists, all_entries, emptied, local_entries, gathered, map_local}
use Rattle.executor_core.specs.Queues.View.{local_of, state_of, runners_of, IsQueues}
use Rattle.executor_core.specs.Ring.{IdRing}
use Rattle.executor_core.specs.declared.queue.queues.LocalQueue.{LocalQueue}
use Rattle.executor_core.specs.declared.task.cell.TaskId.{TaskId}
use Rattle.executor_core.proofs.QueueStateLemmas.{with_ring, sound_same}

module _ {X : Type 0} where
  -- the queues once so many of them were moved, and what stood in these
  abbrev pub emptied_below : ℕ → List (RunnerQueue X) → List (RunnerQueue X)
  emptied_below n [] = []
  emptied_below zero (q ∷ rest) = q ∷ rest
  emptied_below (suc n) (q ∷ rest) = emptied q ∷ emptied_below n rest

  abbrev pub entries_below : ℕ → List (RunnerQueue X) → List X
  entries_below n [] = []
  entries_below zero (q ∷ rest) = []
  entries_below (suc n) (q ∷ rest) = q.entries ++ entries_below n rest

  pub emptied_below-start : (locals : List (RunnerQueue X)) → emptied_below 0 locals ≡ locals
  emptied_below-start [] = refl
  emptied_below-start (q ∷ rest) = refl

  pub entries_below-start : (locals : List (RunnerQueue X)) → entries_below 0 locals ≡ []
  entries_below-start [] = refl
  entries_below-start (q ∷ rest) = refl

  pub emptied_below-all : (n : ℕ) (locals : List (RunnerQueue X)) → length locals ≤ n → emptied_below n locals ≡ map emptied locals
  emptied_below-all n [] long = refl
  emptied_below-all zero (q ∷ rest) long = absurd (omega arith)
  emptied_below-all (suc n) (q ∷ rest) long = ap (λ l. emptied q ∷ l) (emptied_below-all n rest (omega arith))

  pub entries_below-all : (n : ℕ) (locals : List (RunnerQueue X)) → length locals ≤ n → entries_below n locals ≡ local_entries locals
  entries_below-all n [] long = refl
  entries_below-all zero (q ∷ rest) long = absurd (omega arith)
  entries_below-all (suc n) (q ∷ rest) long = ap (λ l. q.entries ++ l) (entries_below-all n rest (omega arith))

  -- the next queue was not moved yet
  emptied_below-at : (n : ℕ) (locals : List (RunnerQueue X)) → slice_get (emptied_below n locals) n ≡ slice_get locals n
  emptied_below-at zero [] = refl
  emptied_below-at (suc n) [] = refl
  emptied_below-at zero (q ∷ rest) = refl
  emptied_below-at (suc n) (q ∷ rest) = emptied_below-at n rest

  emptied_below-next : (n : ℕ) (locals : List (RunnerQueue X)) (q : RunnerQueue X) → slice_get locals n ≡ Some q → set (emptied_below n locals) n (emptied q) ≡ emptied_below (suc n) locals
  emptied_below-next zero [] q there = absurd (cc)
  emptied_below-next (suc n) [] q there = absurd (cc)
  emptied_below-next zero (p ∷ rest) q there = let same : q ≡ p = cc in (λ i. emptied (same i) ∷ sym (emptied_below-start rest) i)
  emptied_below-next (suc n) (p ∷ rest) q there = ap (λ l. emptied p ∷ l) (emptied_below-next n rest q there)

  entries_below-next : (n : ℕ) (locals : List (RunnerQueue X)) (q : RunnerQueue X) → slice_get locals n ≡ Some q → entries_below (suc n) locals ≡ entries_below n locals ++ q.entries
  entries_below-next zero [] q there = absurd (cc)
  entries_below-next (suc n) [] q there = absurd (cc)
  entries_below-next zero (p ∷ rest) q there = grind (arith, entries_below-start, append-nil)
  entries_below-next (suc n) (p ∷ rest) q there =
      ap (λ l. p.entries ++ l) (entries_below-next n rest q there) ∙ sym (append_assoc p.entries (entries_below n rest) q.entries)

module _ {X : Type 0} where
  -- what was moved, and what was not
  pub entries_parts : (n : ℕ) (locals : List (RunnerQueue X)) → (rest : List X) × (local_entries locals ≡ entries_below n locals ++ rest)
  entries_parts n [] = ([], refl)
  entries_parts zero (q ∷ rest) = (local_entries (q ∷ rest), refl)
  entries_parts (suc n) (q ∷ rest) = grind (arith, entries_parts n rest, append_assoc)

-- one more queue is moved
module _ (n : ℕ) (first : List (RunnerQueue TaskId)) (locals : List LocalQueue) (l : LocalQueue) (moved : map local_of locals ≡ emptied_below n first) (there : slice_get locals n ≡ Some l) where
  next_queue : slice_get first n ≡ Some (local_of l)
  next_queue = grind (arith, emptied_below-at, slice_get-map)

  pub next_entries : entries_below (n + 1) first ≡ entries_below n first ++ l.ring.ids
  next_entries = let next : n + 1 ≡ suc n = omega arith in ap (λ k. entries_below k first) next ∙ entries_below-next n first (local_of l) next_queue

  pub next_locals : {ring : IdRing} → ring ≡ record l.ring { ids = [] } → map local_of (set locals n (with_ring l ring)) ≡ emptied_below (n + 1) first
  next_locals {ring} is =
      let next : suc n ≡ n + 1 = omega arith in
      map-set local_of locals n (with_ring l ring)
      ∙ ap (λ r. set (map local_of locals) n (local_of (with_ring l r))) is
      ∙ ap (λ k. set k n (emptied (local_of l))) moved
      ∙ emptied_below-next n first (local_of l) next_queue ∙ ap (λ k. emptied_below k first) next

  -- what stands behind the queue then
  pub next_queued : (queue : List TaskId) → (queue ++ entries_below n first) ++ l.ring.ids ≡ queue ++ entries_below (n + 1) first
  next_queued queue = append_assoc queue (entries_below n first) l.ring.ids ∙ ap (λ ids. queue ++ ids) (sym next_entries)

-- the queues after a close
pub gathered-permutes : (q : QueueLists TaskId) → IsPermutation (all_entries q) (all_entries (gathered q))
gathered-permutes q =
    subst (λ l. IsPermutation (all_entries q) (l ++ (q.global ++ local_entries q.locals))) (sym (none_left q.locals)) (IsPermutation-append_comm (local_entries q.locals) q.global)
  where
    none_left : (locals : List (RunnerQueue TaskId)) → local_entries (map emptied locals) ≡ []
    none_left [] = refl
    none_left (l ∷ rest) = none_left rest

pub emptied-map : {X Y : Type 0} (f : X → Y) (locals : List (RunnerQueue X)) → map (map_local f) (map emptied locals) ≡ map emptied (map (map_local f) locals)
emptied-map f [] = refl
emptied-map f (l ∷ rest) = ap (λ k. emptied (map_local f l) ∷ k) (emptied-map f rest)

runners_emptied : (locals : List (RunnerQueue TaskId)) → runners_of (map emptied locals) ≡ runners_of locals
runners_emptied [] = refl
runners_emptied (l ∷ rest) = ap (λ k. l.runner ∷ k) (runners_emptied rest)

-- the runners stand where they stood
pub gathered_sound : (g h : List TaskId) (items others : List LocalQueue) (next free capacity : ℕ) → map local_of others ≡ map emptied (map local_of items) → IsQueues (state_of g items next free) capacity → IsQueues (state_of h others next free) capacity
gathered_sound g h items others next free capacity is sound =
    sound_same g h items others next free capacity (ap runners_of is ∙ runners_emptied (map local_of items)) sound
