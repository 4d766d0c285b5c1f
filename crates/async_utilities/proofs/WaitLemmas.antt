-- Those who wait, when one place changes.
use Rattle.std.proofs.Common.{◌≡◌, ◌≢◌, ◌==◌, ◌⊎◌, ℕ, zero, suc, ◌+◌, ◌<◌, ◌≤◌, List, [], ◌∷◌, ◌++◌, length, Bool, true, false, Option, Some, None, cond, count_by, is_some, slice_get, get_or, get_or-set_same, get_or-set_other, refl, sym, ap, ◌∙◌, subst, inl, inr, arith, add-zero}
use Rattle.std.specs.List.{sum_by}
use Rattle.std.proofs.lemmas.Bool.{cases_eq, cases_lt, cond-true, cond-false}
use Rattle.std.proofs.lemmas.List.{get_or_past}
use Rattle.std.proofs.lemmas.List.Sums.{get_or-le-sum_by, sum_by-cons, sum_by-le-sum_by}
use Rattle.std.proofs.lemmas.Option.{none-some, same_Some}
use Rattle.slab.specs.Slab.{Slab, Updates, get, slab_len, with_value}
use Rattle.async_utilities.specs.Links.{IsApart, IsIn, Order, without}
use Rattle.async_utilities.specs.WaitQueue.{Comes, IsQueue, Moves, Steps, Waiters, WaitsAt, is_notified, is_waiting, waiters_of, waker_of}
use Rattle.async_utilities.specs.declared.wait_queue.Place.{Place}
use Rattle.async_utilities.specs.declared.wait_queue.Place.TheVariants.{Idle, Waiting, Notified}
use Rattle.async_utilities.proofs.LinkLemmas.{apart_push, apart_without, in_push, in_without, last_in, not_in_without, stays_push, stays_without, without_absent}

-- ---- sums over places, of which one that is not taken adds nothing

module _ {X : Type 0} (f : Option X → ℕ) (none : f None ≡ 0) where
  abbrev tail : List (Option X) → List (Option X)
  tail [] = []
  tail (x ∷ xs) = xs

  tail_at : (xs : List (Option X)) (k : ℕ) → get_or (tail xs) k None ≡ get_or xs (suc k) None
  tail_at xs k = grind arith

  split : (xs : List (Option X)) → sum_by f xs ≡ f (get_or xs 0 None) + sum_by f (tail xs)
  split xs = grind (arith, sum_by-cons)

  same_sum : (old new : List (Option X)) → ((k : ℕ) → get_or new k None ≡ get_or old k None) → sum_by f new ≡ sum_by f old
  same_sum [] [] same = refl
  same_sum (x ∷ xs) [] same =
      let rest = same_sum xs [] (λ k. same (suc k)) in
      let head : f x ≡ 0 = ap f (sym (same 0)) ∙ none in
      let first = sum_by-cons f x xs in
      omega arith
  same_sum [] (y ∷ ys) same =
      let rest = same_sum [] ys (λ k. same (suc k)) in
      let head : f y ≡ 0 = ap f (same 0) ∙ none in
      let first = sum_by-cons f y ys in
      omega arith
  same_sum (x ∷ xs) (y ∷ ys) same =
      let rest = same_sum xs ys (λ k. same (suc k)) in
      let head : f y ≡ f x = ap f (same 0) in
      let first = sum_by-cons f x xs in
      let second = sum_by-cons f y ys in
      omega arith

  -- one place changes
  pub changed_sum : (key : ℕ) (old new : List (Option X)) (now : Option X) → get_or new key None ≡ now → ((k : ℕ) → k ≢ key → get_or new k None ≡ get_or old k None) → sum_by f new + f (get_or old key None) ≡ sum_by f old + f now
  changed_sum zero old new now changed others =
      let rest = same_sum (tail old) (tail new) (λ k. tail_at new k ∙ others (suc k) (λ is. omega arith) ∙ sym (tail_at old k)) in
      let left = split new in
      let right = split old in
      let head : f (get_or new 0 None) ≡ f now = ap f changed in
      omega arith
  changed_sum (suc key) old new now changed others =
      let rest = changed_sum key (tail old) (tail new) now (tail_at new key ∙ changed) (λ k differs. tail_at new k ∙ others (suc k) (λ is. differs (omega arith)) ∙ sym (tail_at old k)) in
      let left = split new in
      let right = split old in
      let head : f (get_or new 0 None) ≡ f (get_or old 0 None) = ap f (others 0 (λ is. omega arith)) in
      let at : f (get_or (tail old) key None) ≡ f (get_or old (suc key) None) = ap f (tail_at old key) in
      omega arith

-- ---- the queue when one place changes

pub counted_by : {was now : Bool} (w n : Bool) (notified notified' : ℕ) → was ≡ w → now ≡ n → notified' + cond w 1 0 ≡ notified + cond n 1 0 → notified' + cond was 1 0 ≡ notified + cond now 1 0
counted_by w n notified notified' was_is now_is counted = rw (was_is, now_is) counted

pub waits_not : {W : Type 0} (waker : W) (place : Place W) → Some place ≡ Some (Waiting waker) → (place ≡ Idle) ⊎ (place ≡ Notified) → ⊥
waits_not waker place is other = elim other [ inl idle ↦ absurd (cc) | inr told ↦ absurd (cc) ]

module _ {W : Type 0} where
  count_of : Option (Place W) → ℕ
  count_of place = cond (is_notified place) 1 0

  -- a write of a place that is taken
  pub set_updates : (places : Slab (Place W)) (key : ℕ) (old new : Place W) → get places key ≡ Some old → Updates places (with_value places key new) key (Some new)
  set_updates places key old new there = grind (arith, cases_lt, none-some, get_or_past, get_or-set_same, get_or-set_other)

  module _ (places places' : Slab (Place W)) (order order' : Order) (notified notified' key : ℕ) (now : Option (Place W)) (queue : IsQueue places order notified) (updates : Updates places places' key now) where
    counts : notified' + cond (is_notified (get places key)) 1 0 ≡ notified + cond (is_notified now) 1 0 → notified' ≡ count_by is_notified places'.slots
    counts counted = grind (arith, changed_sum)

    here_or : (P : ℕ → Type 0) (place : ℕ) → (place ≡ key → P place) → (place ≢ key → P place) → P place
    here_or P place here there = elim (cases_eq place key) [ inl same ↦ here same | inr differs ↦ there differs ]

    pub changed_queue : order.limit ≤ order'.limit → (is_some now ≡ true → key < order'.limit)
        → ((place : ℕ) → place ≢ key → IsIn place order'.keys → IsIn place order.keys) → ((place : ℕ) → place ≢ key → IsIn place order.keys → IsIn place order'.keys)
        → (IsIn key order'.keys → is_waiting now ≡ true) → (is_waiting now ≡ true → IsIn key order'.keys)
        → IsApart order'.keys → notified' + cond (is_notified (get places key)) 1 0 ≡ notified + cond (is_notified now) 1 0 → IsQueue places' order' notified'
    changed_queue grows fits was stays waits linked apart counted = record {
      waits = λ place. here_or (λ p. IsIn p order'.keys → is_waiting (get places' p) ≡ true) place
          (λ same found. ap (λ p. is_waiting (get places' p)) same ∙ ap is_waiting updates.changed ∙ waits (subst (λ p. IsIn p order'.keys) same found))
          (λ differs found. ap is_waiting (updates.others place differs) ∙ queue.waits place (was place differs found));
      linked = λ place. here_or (λ p. is_waiting (get places' p) ≡ true → IsIn p order'.keys) place
          (λ same is. subst (λ p. IsIn p order'.keys) (sym same) (linked (sym (ap is_waiting updates.changed) ∙ sym (ap (λ p. is_waiting (get places' p)) same) ∙ is)))
          (λ differs is. stays place differs (queue.linked place (sym (ap is_waiting (updates.others place differs)) ∙ is)));
      apart = apart;
      within = λ place. here_or (λ p. is_some (get places' p) ≡ true → p < order'.limit) place
          (λ same is. let at : key < order'.limit = fits (sym (ap is_some updates.changed) ∙ sym (ap (λ p. is_some (get places' p)) same) ∙ is) in omega arith)
          (λ differs is. let at = queue.within place (sym (ap is_some (updates.others place differs)) ∙ is) in omega arith);
      counted = counts counted;
    }

    -- one that waits no longer is not among those that wait
    absent : is_waiting (get places key) ≡ false → ¬ IsIn key order.keys
    absent idle found = absurd (cc (queue.waits key found))

    -- one enters
    pub entered_queue : order' ≡ record order { keys = order.keys ++ key ∷ [] } → is_some (get places key) ≡ true → is_waiting (get places key) ≡ false → is_waiting now ≡ true → notified' + cond (is_notified (get places key)) 1 0 ≡ notified + cond (is_notified now) 1 0 → IsQueue places' order' notified'
    entered_queue is taken idle waiting counted = grind (arith, changed_queue, in_push, stays_push, last_in, apart_push, absent)

    -- one that waited does so no longer
    pub gone_queue : order' ≡ record order { keys = without key order.keys } → (is_some now ≡ true → is_some (get places key) ≡ true) → is_waiting now ≡ false → notified' + cond (is_notified (get places key)) 1 0 ≡ notified + cond (is_notified now) 1 0 → IsQueue places' order' notified'
    gone_queue is taken idle counted = grind (arith, changed_queue, in_without, stays_without, not_in_without, apart_without)

    -- one that did not wait does not wait now
    pub beside_queue : order'.keys ≡ order.keys → order.limit ≤ order'.limit → (is_some now ≡ true → key < order'.limit) → is_waiting (get places key) ≡ false → is_waiting now ≡ false → notified' + cond (is_notified (get places key)) 1 0 ≡ notified + cond (is_notified now) 1 0 → IsQueue places' order' notified'
    beside_queue keys grows fits idle not_now counted = grind (arith, changed_queue, absent)

  -- one that does not wait is not among those that do
  pub not_waiting : (places : Slab (Place W)) (order : Order) (notified key : ℕ) → IsQueue places order notified → is_waiting (get places key) ≡ false → ¬ IsIn key order.keys
  not_waiting places order notified key queue idle found = absurd (cc (queue.waits key found))

  -- one that waits leaves another waker
  pub waited_queue : (places : Slab (Place W)) (order : Order) (notified key : ℕ) (earlier waker : W) (now : Place W) → IsQueue places order notified → get places key ≡ Some (Waiting earlier) → now ≡ Waiting waker → IsQueue (with_value places key now) order notified
  waited_queue places order notified key earlier waker now queue there is =
      changed_queue places (with_value places key now) order order notified notified key (Some now) queue (set_updates places key (Waiting earlier) now there)
      (omega arith) (λ _. queue.within key (ap is_some there)) (λ _ _ found. found) (λ _ _ found. found)
      (λ _. ap (λ p. is_waiting (Some p)) is) (λ _. queue.linked key (ap is_waiting there)) queue.apart
      (counted_by false false notified notified (ap is_notified there) (ap (λ p. is_notified (Some p)) is) refl)

  -- its turn stays, and the earlier waker comes out
  pub waits_on : (places : Slab (Place W)) (order : Order) (notified key : ℕ) (earlier waker : W) (now : Place W) → get places key ≡ Some (Waiting earlier) → now ≡ Waiting waker → WaitsAt (waiters_of places order notified) key waker (Some earlier) (waiters_of (with_value places key now) order notified)
  waits_on places order notified key earlier waker now there is =
      let updates = set_updates places key (Waiting earlier) now there in (
        λ _. (
          record {
            changed = updates.changed ∙ ap Some is;
            others = updates.others;
            waits = sym (cond-true _ _ _ (ap is_waiting there));
            counted = ap (λ p. notified + cond (is_notified p) 1 0) there;
          },
          sym (ap waker_of there),
        ),
        λ none. absurd (none-some (Waiting earlier) (sym none ∙ there)),
      )

  -- one that did not wait stands behind all others
  pub waits_behind : (places : Slab (Place W)) (order order' : Order) (notified notified' key : ℕ) (was now : Place W) (waker : W) → get places key ≡ Some was → now ≡ Waiting waker → waker_of (Some was) ≡ None → notified' + cond (is_notified (Some was)) 1 0 ≡ notified → order' ≡ record order { keys = order.keys ++ key ∷ [] } → WaitsAt (waiters_of places order notified) key waker None (waiters_of (with_value places key now) order' notified')
  waits_behind places order order' notified notified' key was now waker there is silent counted enters =
      let updates = set_updates places key was now there in (
        λ _. (
          record {
            changed = updates.changed ∙ ap Some is;
            others = updates.others;
            waits = ap (λ (o : Order). o.keys) enters ∙ sym (cond-false _ _ _ (ap is_waiting there ∙ ap is_some silent));
            counted = ap (λ p. notified' + cond (is_notified p) 1 0) there ∙ counted ∙ sym (add-zero notified);
          },
          sym (ap waker_of there ∙ silent),
        ),
        λ none. absurd (none-some was (sym none ∙ there)),
      )

  -- one that did not wait keeps its place
  pub came_queue : (places : Slab (Place W)) (order : Order) (notified notified' key : ℕ) (was now : Place W) → IsQueue places order notified → get places key ≡ Some was → now ≡ Idle → is_waiting (Some was) ≡ false → notified' + cond (is_notified (Some was)) 1 0 ≡ notified → IsQueue (with_value places key now) order notified'
  came_queue places order notified notified' key was now queue there idle waits counted =
      beside_queue places (with_value places key now) order order notified notified' key (Some now) queue (set_updates places key was now there)
      refl (omega arith) (λ _. queue.within key (ap is_some there)) (ap is_waiting there ∙ waits) (ap (λ p. is_waiting (Some p)) idle)
      (ap (λ p. notified' + cond (is_notified p) 1 0) there ∙ counted ∙ sym (ap (λ p. notified + cond (is_notified (Some p)) 1 0) idle ∙ add-zero notified))

  -- one that waited comes from its place, which it keeps
  pub went_comes : (places : Slab (Place W)) (order order' : Order) (notified key : ℕ) (waker : W) (now : Place W) → get places key ≡ Some (Waiting waker) → now ≡ Idle → order' ≡ record order { keys = without key order.keys } → Comes (waiters_of places order notified) key (waiters_of (with_value places key now) order' notified)
  went_comes places order order' notified key waker now there idle goes =
      let updates = set_updates places key (Waiting waker) now there in (
        λ _. record {
          changed = updates.changed ∙ ap Some idle;
          others = updates.others;
          waits = ap (λ (o : Order). o.keys) goes;
          counted = ap (λ p. notified + cond (is_notified p) 1 0) there;
        },
        λ none. absurd (none-some (Waiting waker) (sym none ∙ there)),
      )

  -- one that is notified is counted
  pub counts_one : (places : Slab (Place W)) (order : Order) (notified key : ℕ) → IsQueue places order notified → get places key ≡ Some Notified → 1 ≤ notified
  counts_one places order notified key queue there = grind (arith, cases_lt, none-some, get_or_past, get_or-le-sum_by)

  -- of the places that are taken, one at which somebody waits is not notified
  pub counts_below : (places : Slab (Place W)) (order : Order) (notified key : ℕ) (waker : W) → IsQueue places order notified → get places key ≡ Some (Waiting waker) → notified < slab_len places
  counts_below places order notified key waker queue there =
      let notes : Option (Place W) → ℕ = λ place. cond (is_notified place) 1 0 in
      let takes : Option (Place W) → ℕ = λ place. cond (is_some place) 1 0 in
      let new = with_value places key Notified in
      let updates = set_updates places key (Waiting waker) Notified there in
      let noted = changed_sum notes refl key places.slots new.slots (Some Notified) updates.changed updates.others in
      let taken = changed_sum takes refl key places.slots new.slots (Some Notified) updates.changed updates.others in
      let was_noted : notes (get_or places.slots key None) ≡ 0 = ap notes there in
      let was_taken : takes (get_or places.slots key None) ≡ 1 = ap takes there in
      let few = sum_by-le-sum_by notes takes new.slots notes_le in
      let was = queue.counted in
      omega arith
    where
      notes_le : (place : Option (Place W)) → cond (is_notified place) 1 0 ≤ cond (is_some place) 1 0
      notes_le None = omega arith
      notes_le (Some Idle) = omega arith
      notes_le (Some (Waiting waker)) = omega arith
      notes_le (Some Notified) = omega arith

  -- there is one at the place of each that waits
  pub waits_there : (places : Slab (Place W)) (order : Order) (notified key : ℕ) → IsQueue places order notified → IsIn key order.keys → (waker : W) × (get places key ≡ Some (Waiting waker))
  waits_there places order notified key queue found = by (get places key) refl (queue.waits key found)
    where
      by : (place : Option (Place W)) → get places key ≡ place → is_waiting place ≡ true → (waker : W) × (get places key ≡ Some (Waiting waker))
      by None is none = absurd (cc)
      by (Some Idle) is none = absurd (cc)
      by (Some Notified) is none = absurd (cc)
      by (Some (Waiting waker)) is some = (waker, is)

  -- taking out one that does not wait leaves those who wait
  pub stays_waiting : (places : Slab (Place W)) (order : Order) (notified key : ℕ) → IsQueue places order notified → is_waiting (get places key) ≡ false → without key order.keys ≡ order.keys
  stays_waiting places order notified key queue idle = without_absent key order.keys (λ found. absurd (cc (queue.waits key found)))

  -- one that did not wait comes from its place, which it keeps
  pub came_moves : (places : Slab (Place W)) (order : Order) (notified notified' key : ℕ) (was now : Place W) → IsQueue places order notified → get places key ≡ Some was → now ≡ Idle → is_waiting (Some was) ≡ false → notified' + cond (is_notified (Some was)) 1 0 ≡ notified → Comes (waiters_of places order notified) key (waiters_of (with_value places key now) order notified')
  came_moves places order notified notified' key was now queue there idle waits counted =
      let updates = set_updates places key was now there in (
        λ _. record {
          changed = updates.changed ∙ ap Some idle;
          others = updates.others;
          waits = sym (stays_waiting places order notified key queue (ap is_waiting there ∙ waits));
          counted = ap (λ p. notified' + cond (is_notified p) 1 0) there ∙ counted ∙ sym (add-zero notified);
        },
        λ none. absurd (none-some was (sym none ∙ there)),
      )

module _ {W : Type 0} (places places' : Slab (Place W)) (order : Order) (notified notified' key : ℕ) (queue : IsQueue places order notified) (updates : Updates places places' key None) where
  -- one that did not wait gives its place back
  pub left_moves : is_waiting (get places key) ≡ false → notified' + cond (is_notified (get places key)) 1 0 ≡ notified → Moves (waiters_of places order notified) (waiters_of places' order notified') key None (without key order.keys)
  left_moves idle counted = record {
    changed = updates.changed;
    others = updates.others;
    waits = sym (stays_waiting places order notified key queue idle);
    counted = counted ∙ sym (add-zero notified);
  }

  pub left_queue : is_waiting (get places key) ≡ false → notified' + cond (is_notified (get places key)) 1 0 ≡ notified → IsQueue places' order notified'
  left_queue idle counted =
      beside_queue places places' order order notified notified' key None queue updates
      refl (omega arith) (λ none. absurd (cc)) idle refl (counted ∙ sym (add-zero notified))

  -- one that waited gives its place back
  pub went_moves : (order' : Order) (waker : W) → get places key ≡ Some (Waiting waker) → order' ≡ record order { keys = without key order.keys } → Moves (waiters_of places order notified) (waiters_of places' order' notified) key None (without key order.keys)
  went_moves order' waker there goes = record {
    changed = updates.changed;
    others = updates.others;
    waits = ap (λ (o : Order). o.keys) goes;
    counted = ap (λ p. notified + cond (is_notified p) 1 0) there;
  }

pub first_in : (keys : List ℕ) (key : ℕ) → Some key ≡ slice_get keys 0 → IsIn key keys
first_in [] key is = absurd (cc)
first_in (first ∷ rest) key is = inl (sym (same_Some key first is))

pub steps_shorter : {W : Type 0} (old new : Waiters W) (waiting : List ℕ) → Steps old new waiting → (length waiting == 0) ≡ false → length new.waiting < length waiting
steps_shorter old new waiting steps some = grind arith
