-- What the fields of `Queues` are seen as once a ring in them has changed, and that they fit together then.
use Rattle.std.proofs.Common.{◌≡◌, ◌≢◌, ℕ, zero, suc, ◌+◌, ◌-◌, ◌<◌, ◌≤◌, true, false, List, [], ◌∷◌, ◌++◌, map, length, get_or, take, drop, set, Option, Some, None, refl, sym, ap, ◌∙◌, subst, arith}
use Rattle.std.proofs.lemmas.Bool.{eqb-true}
use Rattle.std.proofs.lemmas.List.{map-set, map-append, length-map, length-set}
use Rattle.std.proofs.Math.Seq.{take-append_seam}
use Rattle.std.proofs.lemmas.List.Edits.{length-remove}
use Rattle.std.proofs.lemmas.Option.{slice_get-map, slice_get_read}
use Rattle.std.specs.Prelude.{option_map, is_some, unwrap_or, ◌==◌, slice_get, slice_set}
use Rattle.std.specs.List.{remove}
use Rattle.executor_core.specs.Queues.{RunnerQueue, QueueLists, entries_or, capacity_or, entries_at, capacity_at, set_entries, with_entries, stolen, stolen_locals, stolen_between, global_stolen, position_of, unregistered_at}
use Rattle.executor_core.specs.Queues.State.{QueueState, with_lists}
use Rattle.executor_core.specs.Queues.View.{local_of, state_of, runners_of, AllDistinct, IsQueues}
use Rattle.executor_core.specs.Ring.{IdRing}
use Rattle.executor_core.specs.declared.queue.queues.LocalQueue.{LocalQueue}
use Rattle.executor_core.specs.declared.task.cell.TaskId.{TaskId}
use Rattle.executor_core.proofs.ListLemmas.{length-push, get-set_other, set-here}
use Rattle.executor_core.proofs.QueueLemmas.{remove-map, queues_same}
use Rattle.executor_core.proofs.QueuePlaceLemmas.{distinct-push, distinct-remove, none_registered, position_of_place}

-- the queue that is read at a position
pub read_at : (s : QueueState) (g : List TaskId) (items : List LocalQueue) (next free r : ℕ) (l : LocalQueue) → state_of g items next free ≡ s → r < length s.lists.locals → l ≡ get_or items r l → slice_get items r ≡ Some l
read_at s g items next free r l view within is = grind (arith, slice_get_read, length-map)

seen : (items : List LocalQueue) (r : ℕ) (l : LocalQueue) → slice_get items r ≡ Some l → slice_get (map local_of items) r ≡ Some (local_of l)
seen items r l is = slice_get-map local_of items r ∙ ap (option_map local_of) is

pub entries_seen : (items : List LocalQueue) (r : ℕ) (l : LocalQueue) → slice_get items r ≡ Some l → entries_at r (map local_of items) ≡ l.ring.ids
entries_seen items r l is = ap entries_or (seen items r l is)

pub capacity_seen : (items : List LocalQueue) (r : ℕ) (l : LocalQueue) → slice_get items r ≡ Some l → capacity_at r (map local_of items) ≡ l.ring.capacity
capacity_seen items r l is = ap capacity_or (seen items r l is)

-- how much has room in the queue that is read
pub capacity_read : (s : QueueState) (g : List TaskId) (items : List LocalQueue) (next free r : ℕ) (l : LocalQueue) → state_of g items next free ≡ s → r < length s.lists.locals → l ≡ get_or items r l → capacity_at r s.lists.locals ≡ l.ring.capacity
capacity_read s g items next free r l view within is =
    ap (λ (t : QueueState). capacity_at r t.lists.locals) (sym view) ∙ capacity_seen items r l (read_at s g items next free r l view within is)

pub count_seen : (s : QueueState) (g : List TaskId) (items : List LocalQueue) (next free n : ℕ) → state_of g items next free ≡ s → n ≡ length items → n ≡ length s.lists.locals
count_seen s g items next free n view is = is ∙ sym (length-map items local_of) ∙ ap (λ (t : QueueState). length t.lists.locals) view

-- the queue with another ring
abbrev pub with_ring : LocalQueue → IdRing → LocalQueue
with_ring l ring = record l { ring = ring }

pub written : (items : List LocalQueue) (r : ℕ) (l : LocalQueue) (ring : IdRing) → slice_get items r ≡ Some l → ring.capacity ≡ l.ring.capacity → map local_of (slice_set items r (with_ring l ring)) ≡ with_entries r ring.ids (map local_of items)
written items r l ring is same =
    let write : ℕ → List (RunnerQueue TaskId) = λ c. set (map local_of items) r (record { runner = l.runner; entries = ring.ids; capacity = c }) in
    map-set local_of items r (with_ring l ring) ∙ ap write same ∙ sym (ap (λ o. set_entries r ring.ids o (map local_of items)) (seen items r l is))

runners_written : (items : List LocalQueue) (r : ℕ) (l : LocalQueue) (ring : IdRing) → slice_get items r ≡ Some l → runners_of (map local_of (slice_set items r (with_ring l ring))) ≡ runners_of (map local_of items)
runners_written [] r l ring is = refl
runners_written (x ∷ xs) zero l ring is = let same : x ≡ l = cc in ap (λ (y : LocalQueue). y.runner ∷ runners_of (map local_of xs)) (sym same)
runners_written (x ∷ xs) (suc r) l ring is = ap (λ n. x.runner ∷ n) (runners_written xs r l ring is)

-- the runners stand where they stood
pub sound_same : (g h : List TaskId) (items others : List LocalQueue) (next free capacity : ℕ) → runners_of (map local_of others) ≡ runners_of (map local_of items) → IsQueues (state_of g items next free) capacity → IsQueues (state_of h others next free) capacity
sound_same g h items others next free capacity runners sound = grind (arith, length-map)

pub sound_written : (g h : List TaskId) (items : List LocalQueue) (next free capacity r : ℕ) (l : LocalQueue) (ring : IdRing) → IsQueues (state_of g items next free) capacity → slice_get items r ≡ Some l → IsQueues (state_of h (slice_set items r (with_ring l ring)) next free) capacity
sound_written g h items next free capacity r l ring sound is = sound_same g h items (slice_set items r (with_ring l ring)) next free capacity (runners_written items r l ring is) sound

state_same : (a b : QueueLists TaskId) (next free : ℕ) → a ≡ b → (let s : QueueState = record { lists = a; next_runner = next; free_places = free } in s) ≡ record { lists = b; next_runner = next; free_places = free }
state_same a b next free lists i = record { lists = lists i; next_runner = next; free_places = free }

pub state_written : (g h : List TaskId) (items : List LocalQueue) (next free r : ℕ) (l : LocalQueue) (ring : IdRing) → slice_get items r ≡ Some l → ring.capacity ≡ l.ring.capacity → state_of h (slice_set items r (with_ring l ring)) next free ≡ with_lists (record { global = h; locals = with_entries r ring.ids (map local_of items) }) (state_of g items next free)
state_written g h items next free r l ring is same = state_same _ _ next free (queues_same _ _ _ _ refl (written items r l ring is same))

-- the front of the queue at r goes
pub front_gone : (s : QueueState) (g : List TaskId) (items : List LocalQueue) (next free r : ℕ) (l : LocalQueue) (ring : IdRing) → state_of g items next free ≡ s → slice_get items r ≡ Some l → ring ≡ record l.ring { ids = drop 1 l.ring.ids } → state_of g (slice_set items r (with_ring l ring)) next free ≡ with_lists (record s.lists { locals = with_entries r (drop 1 (entries_at r s.lists.locals)) s.lists.locals }) s
front_gone s g items next free r l ring view is rest =
    let entries : ring.ids ≡ drop 1 (entries_at r (map local_of items)) = ap (λ (x : IdRing). x.ids) rest ∙ ap (drop 1) (sym (entries_seen items r l is)) in
    let after : state_of g (slice_set items r (with_ring l ring)) next free ≡ with_lists (record { global = g; locals = with_entries r (drop 1 (entries_at r (map local_of items))) (map local_of items) }) (state_of g items next free) =
    state_written g g items next free r l ring is (ap (λ (x : IdRing). x.capacity) rest) ∙ state_same _ _ next free (queues_same _ _ _ _ refl (ap (λ es. with_entries r es (map local_of items)) entries)) in
    subst (λ (t : QueueState). state_of g (slice_set items r (with_ring l ring)) next free ≡ with_lists (record t.lists { locals = with_entries r (drop 1 (entries_at r t.lists.locals)) t.lists.locals }) t) view after

stolen_seen : (source : List TaskId) (items : List LocalQueue) (r : ℕ) (l : LocalQueue) → slice_get items r ≡ Some l → stolen source l.ring.ids l.ring.capacity ≡ stolen source (entries_at r (map local_of items)) (capacity_at r (map local_of items))
stolen_seen source items r l is = grind (arith, entries_seen, capacity_seen)

pub count_stolen : (s : QueueState) (g : List TaskId) (items : List LocalQueue) (next free r : ℕ) (l : LocalQueue) → state_of g items next free ≡ s → slice_get items r ≡ Some l → stolen g l.ring.ids l.ring.capacity ≡ stolen s.lists.global (entries_at r s.lists.locals) (capacity_at r s.lists.locals)
count_stolen s g items next free r l view is = grind (arith, stolen_seen)

-- half of the global queue goes to the one at r
pub globally_stolen : (s : QueueState) (g h : List TaskId) (items : List LocalQueue) (next free r count : ℕ) (l : LocalQueue) (ring : IdRing) → state_of g items next free ≡ s → slice_get items r ≡ Some l → count ≡ stolen g l.ring.ids l.ring.capacity → h ≡ drop count g → ring ≡ record l.ring { ids = l.ring.ids ++ take count g } → state_of h (slice_set items r (with_ring l ring)) next free ≡ with_lists (global_stolen r s.lists) s
globally_stolen s g h items next free r count l ring view is counted source target =
    let locals : List (RunnerQueue TaskId) = map local_of items in
    let whole : count ≡ stolen g (entries_at r locals) (capacity_at r locals) = counted ∙ stolen_seen g items r l is in
    let entries : ring.ids ≡ entries_at r locals ++ take count g = ap (λ (x : IdRing). x.ids) target ∙ ap (λ es. es ++ take count g) (sym (entries_seen items r l is)) in
    let moved : ℕ → QueueLists TaskId = λ n. record { global = drop n g; locals = with_entries r (entries_at r locals ++ take n g) locals } in
    let after : state_of h (slice_set items r (with_ring l ring)) next free ≡ with_lists (global_stolen r (record { global = g; locals = locals })) (state_of g items next free) =
    state_written g h items next free r l ring is (ap (λ (x : IdRing). x.capacity) target)
    ∙ state_same _ _ next free (queues_same _ _ _ _ source (ap (λ es. with_entries r es locals) entries) ∙ ap moved whole) in
    subst (λ (t : QueueState). state_of h (slice_set items r (with_ring l ring)) next free ≡ with_lists (global_stolen r t.lists) t) view after

-- where the runner's queue stands
hinted_at : (o : Option LocalQueue) (k : ℕ) → true ≡ unwrap_or (option_map (λ (l : LocalQueue). l.runner == k) o) false → (l : LocalQueue) × (o ≡ Some l) × (l.runner ≡ k)
hinted_at o k there = grind (arith, eqb-true)

pub hinted : (s : QueueState) (g : List TaskId) (items : List LocalQueue) (next free capacity k hint : ℕ) → IsQueues (state_of g items next free) capacity → state_of g items next free ≡ s → true ≡ unwrap_or (option_map (λ (l : LocalQueue). l.runner == k) (slice_get items hint)) false → Some hint ≡ position_of k s.lists.locals
hinted s g items next free capacity k hint sound view there =
    let at = hinted_at (slice_get items hint) k there in
    sym (position_of_place k hint (map local_of items) (local_of at.0) sound.distinct (seen items hint at.0 at.1) at.2) ∙ ap (λ (t : QueueState). position_of k t.lists.locals) view

is_none : {X : Type 0} (o : Option X) → false ≡ is_some o → o ≡ None
is_none o none = grind arith

-- one queue more, in a free place
pub sound_pushed : (s : QueueState) (g : List TaskId) (items more : List LocalQueue) (next free capacity k : ℕ) (l : LocalQueue) (o : Option ℕ) → IsQueues (state_of g items next free) capacity → state_of g items next free ≡ s → more ≡ items ++ l ∷ [] → l.runner ≡ k → o ≡ position_of k s.lists.locals → false ≡ is_some o → 0 < free → IsQueues (state_of g more next (free - 1)) capacity
sound_pushed s g items more next free capacity k l o sound view pushed same found none free_place = grind (arith, map-append, is_none, length-map, length-push, distinct-push, none_registered)

-- the queue at r goes
pub sound_removed : (s : QueueState) (g h : List TaskId) (items less : List LocalQueue) (next free capacity r : ℕ) → IsQueues (state_of g items next free) capacity → state_of g items next free ≡ s → less ≡ remove items r → r < length s.lists.locals → IsQueues (state_of h less next free) capacity
sound_removed s g h items less next free capacity r sound view removed within =
    let runners : runners_of (map local_of less) ≡ remove (runners_of (map local_of items)) r =
    ap (λ is. runners_of (map local_of is)) removed
    ∙ ap runners_of (sym (remove-map local_of items r))
    ∙ sym (remove-map (λ (q : RunnerQueue TaskId). q.runner) (map local_of items) r) in
    let long : length (map local_of less) ≡ length (remove items r) = length-map less local_of ∙ ap length removed in
    let fewer = length-remove items r (subst (λ n. r < n) (ap (λ (t : QueueState). length t.lists.locals) (sym view) ∙ length-map items local_of) within) in
    let was : free + length items ≤ capacity = subst (λ n. free + n ≤ capacity) (length-map items local_of) sound.reserved in
    record {
      distinct = subst AllDistinct (sym runners) (distinct-remove (runners_of (map local_of items)) r sound.distinct);
      reserved = omega arith;
    }

-- all that stands in the queue at r goes to the global end
pub all_moved : (s : QueueState) (g h : List TaskId) (items less : List LocalQueue) (next free r : ℕ) (l : LocalQueue) → state_of g items next free ≡ s → slice_get items r ≡ Some l → less ≡ remove items r → h ≡ g ++ l.ring.ids → state_of h less next free ≡ with_lists (unregistered_at (Some r) s.lists) s
all_moved s g h items less next free r l view is removed moved = grind (arith, entries_seen, remove-map, state_same, queues_same)

pub count_moved : (s : QueueState) (g : List TaskId) (items : List LocalQueue) (next free r count : ℕ) (l : LocalQueue) → state_of g items next free ≡ s → slice_get items r ≡ Some l → count ≡ length l.ring.ids → count ≡ length (entries_at r s.lists.locals)
count_moved s g items next free r count l view is counted = grind (arith, entries_seen)

-- half of the queue at s goes to the one at r
stolen_written : (xs : List LocalQueue) (s r count : ℕ) (a b : LocalQueue) (left added : IdRing) → s ≢ r → slice_get xs s ≡ Some a → slice_get xs r ≡ Some b → count ≡ stolen a.ring.ids b.ring.ids b.ring.capacity → left ≡ record a.ring { ids = drop count a.ring.ids } → added ≡ record b.ring { ids = b.ring.ids ++ take count a.ring.ids } → map local_of (slice_set (slice_set xs s (with_ring a left)) r (with_ring b added)) ≡ stolen_locals s r (map local_of xs)
stolen_written xs s r count a b left added apart from to counted source target = grind (arith, get-set_other, stolen_seen, entries_seen, written)

module _ {X : Type 0} where
  set-low : (low high : List X) (i : ℕ) (v : X) → i < length low → slice_set low i v ++ high ≡ slice_set (low ++ high) i v
  set-low [] high i v h = absurd (omega arith)
  set-low (x ∷ low) high zero v h = refl
  set-low (x ∷ low) high (suc i) v h = ap (λ l. x ∷ l) (set-low low high i v (omega arith))

  set-high : (low high : List X) (v : X) → low ++ slice_set high 0 v ≡ slice_set (low ++ high) (length low) v
  set-high [] high v = refl
  set-high (x ∷ low) high v = ap (λ l. x ∷ l) (set-high low high v)

  get-low : (low high : List X) (i : ℕ) (d : X) → i < length low → slice_get (low ++ high) i ≡ Some (get_or low i d)
  get-low [] high i d h = absurd (omega arith)
  get-low (x ∷ low) high zero d h = refl
  get-low (x ∷ low) high (suc i) d h = get-low low high i d (omega arith)

  get-high : (low high : List X) (d : X) → length low < length (low ++ high) → slice_get (low ++ high) (length low) ≡ Some (get_or high 0 d)
  get-high [] [] d h = absurd (omega arith)
  get-high [] (x ∷ high) d h = refl
  get-high (x ∷ low) high d h = get-high low high d (omega arith)

  set-apart : (xs : List X) (i j : ℕ) (v w : X) → i ≢ j → slice_set (slice_set xs i v) j w ≡ slice_set (slice_set xs j w) i v
  set-apart [] i j v w apart = refl
  set-apart (x ∷ xs) zero zero v w apart = absurd (apart refl)
  set-apart (x ∷ xs) zero (suc j) v w apart = refl
  set-apart (x ∷ xs) (suc i) zero v w apart = refl
  set-apart (x ∷ xs) (suc i) (suc j) v w apart = ap (λ l. x ∷ l) (set-apart xs i j v w (λ same. apart (ap suc same)))

  -- writes to both parts of a list
  set-parts : (low high : List X) (i : ℕ) (v w : X) → i < length low → slice_set low i v ++ slice_set high 0 w ≡ slice_set (slice_set (low ++ high) i v) (length low) w
  set-parts low high i v w h = grind (arith, set-high, length-set, set-low)

-- the same if the list is split at the higher position
pub stolen_up : (xs low high : List LocalQueue) (s r count : ℕ) (d e : LocalQueue) (left added : IdRing) → xs ≡ low ++ high → length low ≡ r → s < r → r < length xs → count ≡ stolen (get_or low s d).ring.ids (get_or high 0 e).ring.ids (get_or high 0 e).ring.capacity → left ≡ record (get_or low s d).ring { ids = drop count (get_or low s d).ring.ids } → added ≡ record (get_or high 0 e).ring { ids = (get_or high 0 e).ring.ids ++ take count (get_or low s d).ring.ids } → map local_of (slice_set low s (with_ring (get_or low s d) left) ++ slice_set high 0 (with_ring (get_or high 0 e) added)) ≡ stolen_locals s r (map local_of xs)
stolen_up xs low high s r count d e left added split mid below within counted source target =
    let inside : s < length low = omega arith in
    let over : length low < length (low ++ high) = subst (λ l. length low < length l) split (omega arith) in
    let there : slice_get (low ++ high) r ≡ Some (get_or high 0 e) = ap (slice_get (low ++ high)) (sym mid) ∙ get-high low high e over in
    ap (map local_of) (set-parts low high s (with_ring (get_or low s d) left) (with_ring (get_or high 0 e) added) inside ∙ ap (λ n. slice_set (slice_set (low ++ high) s (with_ring (get_or low s d) left)) n (with_ring (get_or high 0 e) added)) mid)
    ∙ stolen_written (low ++ high) s r count (get_or low s d) (get_or high 0 e) left added (omega arith) (get-low low high s d inside) there counted source target
    ∙ ap (λ l. stolen_locals s r (map local_of l)) (sym split)

pub stolen_down : (xs low high : List LocalQueue) (s r count : ℕ) (d e : LocalQueue) (left added : IdRing) → xs ≡ low ++ high → length low ≡ s → r < s → s < length xs → count ≡ stolen (get_or high 0 e).ring.ids (get_or low r d).ring.ids (get_or low r d).ring.capacity → left ≡ record (get_or high 0 e).ring { ids = drop count (get_or high 0 e).ring.ids } → added ≡ record (get_or low r d).ring { ids = (get_or low r d).ring.ids ++ take count (get_or high 0 e).ring.ids } → map local_of (slice_set low r (with_ring (get_or low r d) added) ++ slice_set high 0 (with_ring (get_or high 0 e) left)) ≡ stolen_locals s r (map local_of xs)
stolen_down xs low high s r count d e left added split mid below within counted source target =
    let inside : r < length low = omega arith in
    let apart : r ≢ s = omega arith in
    let over : length low < length (low ++ high) = subst (λ l. length low < length l) split (omega arith) in
    let there : slice_get (low ++ high) s ≡ Some (get_or high 0 e) = ap (slice_get (low ++ high)) (sym mid) ∙ get-high low high e over in
    ap (map local_of) (set-parts low high r (with_ring (get_or low r d) added) (with_ring (get_or high 0 e) left) inside ∙ ap (λ n. slice_set (slice_set (low ++ high) r (with_ring (get_or low r d) added)) n (with_ring (get_or high 0 e) left)) mid ∙ set-apart (low ++ high) r s (with_ring (get_or low r d) added) (with_ring (get_or high 0 e) left) apart)
    ∙ stolen_written (low ++ high) s r count (get_or high 0 e) (get_or low r d) left added (omega arith) there (get-low low high r d inside) counted source target
    ∙ ap (λ l. stolen_locals s r (map local_of l)) (sym split)

runners_set : (r : ℕ) (es : List TaskId) (o : Option (RunnerQueue TaskId)) (locals : List (RunnerQueue TaskId)) → slice_get locals r ≡ o → runners_of (set_entries r es o locals) ≡ runners_of locals
runners_set r es o locals is = grind (arith, map-set, set-here, slice_get-map)

runners_stolen : (s r : ℕ) (locals : List (RunnerQueue TaskId)) → runners_of (stolen_locals s r locals) ≡ runners_of locals
runners_stolen s r locals = grind (arith, runners_set)

-- what is behind the end of the list is cut off
pub cut_off : (n : ℕ) (xs ys zs : List LocalQueue) → length xs ≡ length ys → length ys ≡ n → take n (xs ++ zs) ≡ xs
cut_off n xs ys zs same long = ap (λ m. take m (xs ++ zs)) (sym (same ∙ long)) ∙ take-append_seam xs zs

pub sound_stolen : (g : List TaskId) (items after whole : List LocalQueue) (next free capacity s r : ℕ) → whole ≡ after → map local_of after ≡ stolen_locals s r (map local_of items) → IsQueues (state_of g items next free) capacity → IsQueues (state_of g whole next free) capacity
sound_stolen g items after whole next free capacity s r cut stolen_here sound =
    sound_same g g items whole next free capacity (ap (λ l. runners_of (map local_of l)) cut ∙ ap runners_of stolen_here ∙ runners_stolen s r (map local_of items)) sound

pub state_stolen : (t : QueueState) (g : List TaskId) (items after whole : List LocalQueue) (next free s r : ℕ) → state_of g items next free ≡ t → whole ≡ after → map local_of after ≡ stolen_locals s r (map local_of items) → state_of g whole next free ≡ with_lists (stolen_between s r t.lists) t
state_stolen t g items after whole next free s r view cut stolen_here = grind (arith, state_same, queues_same)
