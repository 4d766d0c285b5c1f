-- What one more event makes of what a log says.
use Rattle.std.proofs.Common.{◌≡◌, ◌≢◌, ℕ, ◌+◌, ◌==◌, ◌||◌, ◌&&◌, not, Bool, true, false, List, [], ◌∷◌, ◌++◌, Option, Some, None, cond, refl, sym, ap, ◌∙◌, inl, inr, ◌⊎◌, arith}
use Rattle.std.proofs.lemmas.Bool.{eq-eqb, ne_eqb}
use Rattle.std.proofs.lemmas.List.Sums.{sum_by-append}
use Rattle.std.specs.Prelude.{count_by}
use Rattle.executor_core.specs.World.Log.{unfollowed, outputs, given, polls, wakes}
use Rattle.std.specs.List.{list_any, filter_map}
use Rattle.std.proofs.lemmas.List.Elements.{filter_map-append}
use Rattle.executor_core.specs.World.Promises.{InOrder, MayFollow}
use Rattle.executor_core.specs.World.Agreement.{Status, status}
use Rattle.executor_core.proofs.World.Status.{with_event, task_of, with_some}
use Rattle.executor_core.specs.declared.interleave.event.Purpose.TheVariants.{ToPoll, ToDrop}
use Rattle.executor_core.specs.declared.interleave.event.Event.{Event}
use Rattle.executor_core.specs.declared.interleave.event.Event.TheVariants.{Spawned, Woken, Cancelled, Took, Returned, Finished, Dropped, Got}

self : (n : ℕ) → (n == n) ≡ true
self n = eq-eqb n n refl

or-swap : (a b c : Bool) → a || (b || c) ≡ b || (a || c)
or-swap a b c = grind arith

or-true : (a : Bool) → a || true ≡ true
or-true a = grind arith

last-swap : (a b c d l : Bool) → (a && not (b || c)) || (d || (not b && l)) ≡ d || (not b && ((a && not c) || l))
last-swap a b c d l = grind (arith, or-true)

module _ {E : Type 0} where
  some-push : (f : E → Bool) (log : List E) (e : E) → list_any f (log ++ e ∷ []) ≡ f e || list_any f log
  some-push f [] e = refl
  some-push f (x ∷ rest) e = ap (λ b. f x || b) (some-push f rest e) ∙ or-swap (f x) (f e) (list_any f rest)

  last-push : (f g : E → Bool) (log : List E) (e : E) → unfollowed f g (log ++ e ∷ []) ≡ f e || (not (g e) && unfollowed f g log)
  last-push f g [] e = grind arith
  last-push f g (x ∷ rest) e = grind (arith, last-push f g rest e, some-push, last-swap)

  -- the last element, or one before it
  pub split_push : (log : List E) (e : E) (before : List E) (x : E) (after : List E) → log ++ e ∷ [] ≡ before ++ x ∷ after
      → ((before ≡ log) × (x ≡ e)) ⊎ ((rest : List E) × (log ≡ before ++ x ∷ rest))
  split_push [] e [] x after h = let same : x ≡ e = cc in inl (refl, same)
  split_push [] e (b ∷ bs) x after h = absurd (no_tail bs (cc))
    where
      no_tail : (bs : List E) → [] ≡ bs ++ x ∷ after → ⊥
      no_tail [] h = cc
      no_tail (b ∷ bs) h = cc
  split_push (l ∷ ls) e [] x after h = let same : l ≡ x = cc in inr (ls, ap (λ y. y ∷ ls) same)
  split_push (l ∷ ls) e (b ∷ bs) x after h =
      let head : l ≡ b = cc in
      let tails : ls ++ e ∷ [] ≡ bs ++ x ∷ after = cc in
      elim (split_push ls e bs x after tails) [
        | inl p ↦ inl (ap (λ y. y ∷ bs) (sym head) ∙ ap (λ ys. l ∷ ys) p.0, p.1)
        | inr p ↦ inr (p.0, ap (λ y. y ∷ ls) head ∙ ap (λ ys. b ∷ ys) p.1)
      ]

  filter_map-push : {Y : Type 0} (h : E → Option Y) (log : List E) (e : E) → filter_map h (log ++ e ∷ []) ≡ with_some (h e) (filter_map h log)
  filter_map-push {Y} h log e = filter_map-append h log (e ∷ []) ∙ last (h e) refl
    where
      nil : (ys : List Y) → ys ++ [] ≡ ys
      nil [] = refl
      nil (y ∷ ys) = ap (λ l. y ∷ l) (nil ys)

      last : (o : Option Y) → h e ≡ o → filter_map h log ++ filter_map h (e ∷ []) ≡ with_some o (filter_map h log)
      last None is = rw is (nil (filter_map h log))
      last (Some y) is = rw is refl

module _ {T : Type 0} where
  count-push : (f : Event T → Bool) (log : List (Event T)) (e : Event T) → count_by f (log ++ e ∷ []) ≡ cond (f e) (1 + count_by f log) (count_by f log)
  count-push f log e = grind (arith, sum_by-append)

  pub status-push : (n : ℕ) (log : List (Event T)) (e : Event T) → status n (log ++ e ∷ []) ≡ with_event n e (status n log)
  status-push n log e = grind (arith, some-push, last-push, filter_map-push, count-push)

  stepped_other : (n : ℕ) (e : Event T) (s : Status T) → (task_of e == n) ≡ false → with_event n e s ≡ s
  stepped_other n e s h = grind arith

  pub status_other : (q : ℕ) (log : List (Event T)) (e : Event T) → q ≢ task_of e → status q (log ++ e ∷ []) ≡ status q log
  status_other q log e far = status-push q log e ∙ stepped_other q e (status q log) (ne_eqb (task_of e) q (λ same. far (sym same)))

  pub on_spawn : (n : ℕ) (log : List (Event T)) → status n (log ++ Spawned n ∷ []) ≡ record (status n log) { spawned = true }
  on_spawn n log = status-push n log _ ∙ rw (self n) refl

  pub on_wake : (n : ℕ) (log : List (Event T)) → status n (log ++ Woken n ∷ []) ≡ record (status n log) { woken = true; wakes = 1 + wakes n log }
  on_wake n log = status-push n log _ ∙ rw (self n) refl

  pub on_cancel : (n : ℕ) (log : List (Event T)) → status n (log ++ Cancelled n ∷ []) ≡ record (status n log) { cancelled = true; cancelled_since = true }
  on_cancel n log = status-push n log _ ∙ rw (self n) refl

  pub on_poll : (n : ℕ) (log : List (Event T)) → status n (log ++ Took n ToPoll ∷ []) ≡ record (status n log) { taken = true; held = true; woken = false; cancelled_since = false; polls = 1 + polls n log }
  on_poll n log = status-push n log _ ∙ rw (self n) refl

  pub on_take : (n : ℕ) (log : List (Event T)) → status n (log ++ Took n ToDrop ∷ []) ≡ record (status n log) { taken = true; held = true; woken = false; cancelled_since = false }
  on_take n log = status-push n log _ ∙ rw (self n) refl

  pub on_return : (n : ℕ) (log : List (Event T)) → status n (log ++ Returned n ∷ []) ≡ record (status n log) { held = false }
  on_return n log = status-push n log _ ∙ rw (self n) refl

  pub on_drop : (n : ℕ) (log : List (Event T)) → status n (log ++ Dropped n ∷ []) ≡ record (status n log) { dropped = true; held = false }
  on_drop n log = status-push n log _ ∙ rw (self n) refl

  pub on_finish : (n : ℕ) (t : T) (log : List (Event T)) → status n (log ++ Finished n t ∷ []) ≡ record (status n log) { outputs = outputs n log ++ t ∷ [] }
  on_finish n t log = status-push n log _ ∙ rw (self n) refl

  pub on_give : (n : ℕ) (t : T) (log : List (Event T)) → status n (log ++ Got n t ∷ []) ≡ record (status n log) { given = given n log ++ t ∷ [] }
  on_give n t log = status-push n log _ ∙ rw (self n) refl

  pub order-push : (log : List (Event T)) (e : Event T) → InOrder log → MayFollow log e → InOrder (log ++ e ∷ [])
  order-push log e order last before x after is = grind (arith, split_push)
