-- The queues as lists: the global one, and those of the registered runners in order of registration.
pub mod Lends
pub mod Slots
pub mod State
pub mod View
use Rattle.std.specs.Prelude.{◌≡◌, ℕ, ◌+◌, ◌-◌, ◌/◌, ◌%◌, ◌==◌, min, nat_lt, Bool, true, false, not, ◌&&◌, List, [], ◌∷◌, ◌++◌, length, map, take, drop, set, cond, Option, Some, None, is_some, slice_get, refl}
use Rattle.std.specs.List.{position, find, filter, flat_map, range_with_len, remove}
use Rattle.std.specs.Coded.{Coded, code_by, coded×, coded_ℕ, coded_list}

-- a runner's queue: the runner's number, what is queued from the front on, and how much has room
pub record RunnerQueue (X : Type 0) : Type 0 where
  pub runner : ℕ
  pub entries : List X
  pub capacity : ℕ

-- the global queue, and those of the runners in order of registration
pub record QueueLists (X : Type 0) : Type 0 where
  pub global : List X
  pub locals : List (RunnerQueue X)

module _ {X : Type 0} (x : Coded X) where
  abbrev pub runner_queue_code : Coded (RunnerQueue X)
  runner_queue_code =
      code_by
      (ℕ × (List X × ℕ))
      (coded× coded_ℕ (coded× (coded_list x) coded_ℕ))
      (λ q. (q.runner, (q.entries, q.capacity)))
      (λ p. record { runner = p.0; entries = p.1.0; capacity = p.1.1 })
      (λ _. refl)

-- half of so many, rounded up
abbrev pub half : ℕ → ℕ
half k = (k + 1) / 2

-- how many entries a steal moves from so many, if so many places are free
abbrev pub steal_count : ℕ → ℕ → ℕ
steal_count count places = min (half count) places

-- the positions of the other queues, in the order in which a search with this word visits them: from word % n on, wrapping
abbrev pub visits : ℕ → ℕ → ℕ → List ℕ
visits r word n = filter (λ s. not (s == r)) (drop (word % n) (range_with_len 0 n) ++ take (word % n) (range_with_len 0 n))

module _ {X : Type 0} where
  -- how many a steal moves from this list to that one, which has so much room
  abbrev pub stolen : List X → List X → ℕ → ℕ
  stolen source target capacity = steal_count (length source) (capacity - length target)

  -- the first half of the source goes to the end of the target, as far as there is room: what is left of the source, and
  -- the target then
  abbrev pub steal : List X → List X → ℕ → List X × List X
  steal source target capacity = (drop (stolen source target capacity) source, target ++ take (stolen source target capacity) source)

-- one runner's queue
module _ {X : Type 0} where
  abbrev pub is_runner : ℕ → RunnerQueue X → Bool
  is_runner k q = q.runner == k

  -- at which position the runner's queue stands
  abbrev pub position_of : ℕ → List (RunnerQueue X) → Option ℕ
  position_of k locals = position (is_runner k) locals

  abbrev pub is_registered : ℕ → List (RunnerQueue X) → Bool
  is_registered k locals = is_some (position_of k locals)

  abbrev pub entries_or : Option (RunnerQueue X) → List X
  entries_or None = []
  entries_or (Some q) = q.entries

  abbrev pub capacity_or : Option (RunnerQueue X) → ℕ
  capacity_or None = 0
  capacity_or (Some q) = q.capacity

  -- what stands in the queue at this position, and how much has room there
  abbrev pub entries_at : ℕ → List (RunnerQueue X) → List X
  entries_at r locals = entries_or (slice_get locals r)

  abbrev pub capacity_at : ℕ → List (RunnerQueue X) → ℕ
  capacity_at r locals = capacity_or (slice_get locals r)

  abbrev pub set_entries : ℕ → List X → Option (RunnerQueue X) → List (RunnerQueue X) → List (RunnerQueue X)
  set_entries r entries None locals = locals
  set_entries r entries (Some q) locals = set locals r (record q { entries = entries })

  -- these stand in the queue at this position
  abbrev pub with_entries : ℕ → List X → List (RunnerQueue X) → List (RunnerQueue X)
  with_entries r entries locals = set_entries r entries (slice_get locals r) locals

  -- all that is queued
  abbrev pub all_entries : QueueLists X → List X
  all_entries q = flat_map (λ local. local.entries) q.locals ++ q.global

-- what a search finds, and the queues after it
module _ {X : Type 0} where
  -- the front of the global queue
  abbrev pub global_front : List X → QueueLists X → Option X × QueueLists X
  global_front [] q = (None, q)
  global_front (x ∷ rest) q = (Some x, record q { global = rest })

  -- a ticker's search
  abbrev pub search_global : QueueLists X → Option X × QueueLists X
  search_global q = global_front q.global q

  -- half of the global queue goes to the runner at r, as far as there is room
  abbrev pub global_stolen : ℕ → QueueLists X → QueueLists X
  global_stolen r q =
      let after = steal q.global (entries_at r q.locals) (capacity_at r q.locals) in
      record { global = after.0; locals = with_entries r after.1 q.locals }

  -- another queue, in which something stands
  abbrev pub gives : ℕ → List (RunnerQueue X) → ℕ → Bool
  gives r locals s = not (s == r) && not (length (entries_at s locals) == 0)

  -- something can be stolen from the queue at s for the one at r, which is empty
  abbrev pub can_steal : ℕ → List (RunnerQueue X) → ℕ → Bool
  can_steal r locals s = nat_lt 0 (steal_count (length (entries_at s locals)) (capacity_at r locals))

  -- the first of the others from which something can be stolen
  abbrev pub victim : ℕ → ℕ → List (RunnerQueue X) → Option ℕ
  victim r word locals = find (can_steal r locals) (visits r word (length locals))

  -- half of the queue at s goes to the one at r, as far as there is room
  abbrev pub stolen_locals : ℕ → ℕ → List (RunnerQueue X) → List (RunnerQueue X)
  stolen_locals s r locals =
      let after = steal (entries_at s locals) (entries_at r locals) (capacity_at r locals) in
      with_entries r after.1 (with_entries s after.0 locals)

  abbrev pub stolen_between : ℕ → ℕ → QueueLists X → QueueLists X
  stolen_between s r q = record q { locals = stolen_locals s r q.locals }

  -- the front of the queue at r
  abbrev pub local_front : ℕ → List X → QueueLists X → Option X × QueueLists X
  local_front r [] q = (None, q)
  local_front r (x ∷ rest) q = (Some x, record q { locals = with_entries r rest q.locals })

  -- half of the queue at s goes to the one at r, and its front is taken
  abbrev pub steal_from : ℕ → Option ℕ → QueueLists X → Option X × QueueLists X
  steal_from r None q = (None, q)
  steal_from r (Some s) q = let after = stolen_between s r q in local_front r (entries_at r after.locals) after

  -- if its own queue is empty: the global front, and half of what is left; else from the others
  abbrev pub search_shared : ℕ → ℕ → List X → QueueLists X → Option X × QueueLists X
  search_shared r word (x ∷ rest) q = (Some x, global_stolen r (record q { global = rest }))
  search_shared r word [] q = steal_from r (victim r word q.locals) q

  -- the front of its own queue, else from the shared ones
  abbrev pub search_own : ℕ → ℕ → List X → QueueLists X → Option X × QueueLists X
  search_own r word (x ∷ rest) q = local_front r (x ∷ rest) q
  search_own r word [] q = search_shared r word q.global q

  abbrev pub search_at : Option ℕ → ℕ → QueueLists X → Option X × QueueLists X
  search_at None word q = search_global q
  search_at (Some r) word q = search_own r word (entries_at r q.locals) q

  -- a runner's search; one that is not registered takes the global front
  abbrev pub search : ℕ → ℕ → QueueLists X → Option X × QueueLists X
  search k word q = search_at (position_of k q.locals) word q

  -- at which position the first of the runners' queues stands in which something is queued
  abbrev pub first_occupied : List (RunnerQueue X) → Option ℕ
  first_occupied locals = position (λ q. not (length q.entries == 0)) locals

  -- the front of the queue at this position, if there is one
  abbrev pub front_at : Option ℕ → QueueLists X → Option X × QueueLists X
  front_at None q = (None, q)
  front_at (Some r) q = local_front r (entries_at r q.locals) q

  abbrev pub any_front : List X → QueueLists X → Option X × QueueLists X
  any_front (x ∷ rest) q = (Some x, record q { global = rest })
  any_front [] q = front_at (first_occupied q.locals) q

  -- a search of any queue: the global front, else the front of the first of the runners' queues that has one
  abbrev pub search_any : QueueLists X → Option X × QueueLists X
  search_any q = any_front q.global q

-- the other calls of a runner
module _ {X : Type 0} where
  abbrev pub fair_at : Option ℕ → QueueLists X → QueueLists X
  fair_at None q = q
  fair_at (Some r) q = global_stolen r q

  -- half of the global queue goes to the runner's own, as far as there is room
  abbrev pub fair : ℕ → QueueLists X → QueueLists X
  fair k q = fair_at (position_of k q.locals) q

  abbrev pub fair_count_at : Option ℕ → QueueLists X → ℕ
  fair_count_at None q = 0
  fair_count_at (Some r) q = stolen q.global (entries_at r q.locals) (capacity_at r q.locals)

  -- how many that are
  abbrev pub fair_count : ℕ → QueueLists X → ℕ
  fair_count k q = fair_count_at (position_of k q.locals) q

  -- an empty queue for the runner, the last in order of registration
  abbrev pub registered : ℕ → ℕ → QueueLists X → QueueLists X
  registered k capacity q = record q { locals = q.locals ++ record { runner = k; entries = []; capacity = capacity } ∷ [] }

  abbrev pub unregistered_at : Option ℕ → QueueLists X → QueueLists X
  unregistered_at None q = q
  unregistered_at (Some r) q = record { global = q.global ++ entries_at r q.locals; locals = remove q.locals r }

  -- the runner's queue goes, and what stood there goes to the global end in order
  abbrev pub unregistered : ℕ → QueueLists X → QueueLists X
  unregistered k q = unregistered_at (position_of k q.locals) q

  abbrev pub local_entries_at : Option ℕ → List (RunnerQueue X) → List X
  local_entries_at None locals = []
  local_entries_at (Some r) locals = entries_at r locals

  -- what stands in the runner's queue
  abbrev pub entries_of : ℕ → List (RunnerQueue X) → List X
  entries_of k locals = local_entries_at (position_of k locals) locals

-- a close
module _ {X : Type 0} where
  abbrev pub emptied : RunnerQueue X → RunnerQueue X
  emptied q = record q { entries = [] }

  -- what stands in the runners' queues, in order of registration
  abbrev pub local_entries : List (RunnerQueue X) → List X
  local_entries locals = flat_map (λ local. local.entries) locals

  -- it goes to the global end, and the queues stay, empty
  abbrev pub gathered : QueueLists X → QueueLists X
  gathered q = record { global = q.global ++ local_entries q.locals; locals = map emptied q.locals }

-- the same queues with other entries
module _ {X Y : Type 0} (f : X → Y) where
  abbrev pub map_local : RunnerQueue X → RunnerQueue Y
  map_local q = record { runner = q.runner; entries = map f q.entries; capacity = q.capacity }

  abbrev pub map_queues : QueueLists X → QueueLists Y
  map_queues q = record { global = map f q.global; locals = map map_local q.locals }
