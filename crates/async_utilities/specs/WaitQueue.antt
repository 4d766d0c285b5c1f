-- Those who wait at one thing: places, the order of those who wait, and how many are notified.
use Rattle.std.specs.Prelude.{◌≡◌, ◌≢◌, ◌≤◌, ◌<◌, ◌-◌, ◌+◌, ◌⊎◌, ℕ, Bool, true, false, List, [], ◌∷◌, ◌++◌, Option, Some, None, cond, IsSome, count_by, if◌then◌else◌, is_some, length, nat_le, nat_lt, refl, slice_index_or}
use Rattle.std.specs.Coded.{Coded, code_by, coded×, coded⊎, coded_ℕ, coded_list, coded_option}
use base.Stored.{coded_unit}
use Rattle.std.proofs.Common.{inl, inr}
use Rattle.slab.specs.Slab.{Slab, get, slab_len}
use Rattle.async_utilities.specs.Links.{IsApart, IsIn, Order, without}
use Rattle.async_utilities.specs.declared.due.Due.{Due}
use Rattle.async_utilities.specs.declared.due.Due.TheVariants.{Nobody, One}
use Rattle.async_utilities.specs.declared.wait_queue.Place.{Place}
use Rattle.async_utilities.specs.declared.wait_queue.Place.TheVariants.{Idle, Waiting, Notified}

-- what is at each place, the places of those who wait, first to last, how many are notified, and how
-- many more places need no memory
pub record Waiters (W : Type 0) : Type 0 where
  pub places : List (Option (Place W))
  pub waiting : List ℕ
  pub notified : ℕ
  pub room : ℕ

module _ {W : Type 0} where
  pub place_cases : Place W → Unit {0} ⊎ (W ⊎ Unit {0})
  place_cases Idle = inl tt
  place_cases (Waiting waker) = inr (inl waker)
  place_cases Notified = inr (inr tt)

  pub cases_place : Unit {0} ⊎ (W ⊎ Unit {0}) → Place W
  cases_place (inl nothing) = Idle
  cases_place (inr (inl waker)) = Waiting waker
  cases_place (inr (inr nothing)) = Notified

  cases_place-place_cases : (place : Place W) → cases_place (place_cases place) ≡ place
  unfolding place_cases cases_place
  cases_place-place_cases Idle = refl
  cases_place-place_cases (Waiting waker) = refl
  cases_place-place_cases Notified = refl

  pub place_code : Coded W → Coded (Place W)
  place_code w = code_by (Unit {0} ⊎ (W ⊎ Unit {0})) (coded⊎ coded_unit (coded⊎ w coded_unit)) place_cases cases_place cases_place-place_cases

  abbrev pub waiters_code : Coded W → Coded (Waiters W)
  waiters_code w =
      code_by
      (List (Option (Place W)) × (List ℕ × (ℕ × ℕ)))
      (coded× (coded_list (coded_option (place_code w))) (coded× (coded_list coded_ℕ) (coded× coded_ℕ coded_ℕ)))
      (λ s. (s.places, (s.waiting, (s.notified, s.room))))
      (λ q. record { places = q.0; waiting = q.1.0; notified = q.1.1.0; room = q.1.1.1 })
      (λ _. refl)

  -- what is at a place, if it is taken
  abbrev pub place_at : Waiters W → ℕ → Option (Place W)
  place_at s place = slice_index_or s.places place None

  -- the waker of one that waits at a place
  abbrev pub waker_of : Option (Place W) → Option W
  waker_of None = None
  waker_of (Some Idle) = None
  waker_of (Some (Waiting waker)) = Some waker
  waker_of (Some Notified) = None

  abbrev pub is_waiting : Option (Place W) → Bool
  is_waiting place = is_some (waker_of place)

  abbrev pub is_notified : Option (Place W) → Bool
  is_notified None = false
  is_notified (Some Idle) = false
  is_notified (Some (Waiting waker)) = false
  is_notified (Some Notified) = true

  -- who is due for this waker
  abbrev pub due_to : Option W → Due W
  due_to None = Nobody
  due_to (Some waker) = One waker

  -- the first of these is due
  abbrev pub due_at : Waiters W → List ℕ → Due W
  due_at s [] = Nobody
  due_at s (first ∷ rest) = due_to (waker_of (place_at s first))

  abbrev pub first_due : Waiters W → Due W
  first_due s = due_at s s.waiting

  -- the waker of the first of these
  abbrev pub waker_first : Waiters W → List ℕ → Option W
  waker_first s [] = None
  waker_first s (first ∷ rest) = waker_of (place_at s first)

  abbrev pub first_waker : Waiters W → Option W
  first_waker s = waker_first s s.waiting

  -- who waits once one waits at this place: if it did before, its turn stays
  abbrev pub entered : Waiters W → ℕ → List ℕ
  entered s place = if is_waiting (place_at s place) then s.waiting else s.waiting ++ place ∷ []

  -- this is at the place from now on, these wait, and all else is as it was
  pub record Moves (old new : Waiters W) (place : ℕ) (now : Option (Place W)) (waiting : List ℕ) : Type 0 where
    pub changed : place_at new place ≡ now
    pub others : (other : ℕ) → other ≢ place → place_at new other ≡ place_at old other
    pub waits : new.waiting ≡ waiting
    pub counted : new.notified + cond (is_notified (place_at old place)) 1 0 ≡ old.notified + cond (is_notified now) 1 0

  -- one takes a place that was free, and does not wait yet
  abbrev pub Takes : Waiters W → ℕ → Waiters W → Type 0
  Takes old place new = (place_at old place ≡ None) × Moves old new place (Some Idle) old.waiting

  -- one waits with this waker at a place that it has, and what is not kept comes out
  abbrev pub WaitsAt : Waiters W → ℕ → W → Option W → Waiters W → Type 0
  WaitsAt old place waker unused new =
      (IsSome (place_at old place)
      → Moves old new place (Some (Waiting waker)) (entered old place) × (unused ≡ waker_of (place_at old place)))
      × (place_at old place ≡ None → (new ≡ old) × (unused ≡ Some waker))

  -- nothing changes but how many more places need no memory
  pub record Stays (old new : Waiters W) : Type 0 where
    pub places : (place : ℕ) → place_at new place ≡ place_at old place
    pub waits : new.waiting ≡ old.waiting
    pub counted : new.notified ≡ old.notified

  -- the first of these is notified
  abbrev pub Steps : Waiters W → Waiters W → List ℕ → Type 0
  Steps old new [] = new ≡ old
  Steps old new (first ∷ rest) = Moves old new first (Some Notified) rest

  -- the first one is due, and notified from then on, if there is more to come for than are notified
  abbrev pub Notifies : Waiters W → ℕ → Due W → Waiters W → Type 0
  Notifies old there due new =
      let more = nat_lt old.notified there in
      (due ≡ (if more then first_due old else Nobody)) × Steps old new (if more then old.waiting else [])

  -- if somebody waits, at least as many are notified as there is something to come for
  abbrev pub IsServed : ℕ → Waiters W → Type 0
  IsServed there s = 0 < length s.waiting → there ≤ s.notified

  -- One waits with this waker: at a new place behind all others, or at its own.
  abbrev pub Enters : Waiters W → Option ℕ → W → ℕ × Option W → Waiters W → Type 0
  Enters old None waker kept new =
      (place_at old kept.0 ≡ None) × Moves old new kept.0 (Some (Waiting waker)) (old.waiting ++ kept.0 ∷ []) × (kept.1 ≡ None)
  Enters old (Some place) waker kept new =
      (kept.0 ≡ place) × WaitsAt old place waker kept.1 new

  -- One gives its place back, with its waker. If more is there than others are notified of, the first
  -- of those who wait is due.
  abbrev pub Leaves : Waiters W → Option ℕ → ℕ → Option W × Due W → Waiters W → Type 0
  Leaves old None there left new = (left.0 ≡ None) × (left.1 ≡ Nobody) × (new ≡ old)
  Leaves old (Some place) there left new =
      (left.0 ≡ waker_of (place_at old place))
      × ((between : Waiters W) × Moves old between place None (without place old.waiting) × Notifies between there left.1 new)

  -- one that was notified and goes leaves those who wait as they were
  abbrev pub KeepsOrder : Waiters W → ℕ → Waiters W → Type 0
  KeepsOrder old place new = is_notified (place_at old place) ≡ true → new.waiting ≡ old.waiting

  -- one gives its place back
  abbrev pub Parts : Waiters W → ℕ → Waiters W → Type 0
  Parts old place new = Moves old new place None (without place old.waiting)

  -- one comes from its place, which it keeps
  abbrev pub Comes : Waiters W → ℕ → Waiters W → Type 0
  Comes old place new =
      (IsSome (place_at old place) → Moves old new place (Some Idle) (without place old.waiting))
      × (place_at old place ≡ None → new ≡ old)

  -- how many more values fit, and can be linked
  abbrev pub room_of : Slab (Place W) → Order → ℕ
  room_of places order = if nat_le places.capacity order.limit then places.capacity - slab_len places else 0

  abbrev pub waiters_of : Slab (Place W) → Order → ℕ → Waiters W
  waiters_of places order notified = record { places = places.slots; waiting = order.keys; notified = notified; room = room_of places order }

  -- exactly those are linked who wait, each once; each place that is taken can be; those who are
  -- notified are counted
  pub record IsQueue (places : Slab (Place W)) (order : Order) (notified : ℕ) : Type 0 where
    pub waits : (place : ℕ) → IsIn place order.keys → is_waiting (get places place) ≡ true
    pub linked : (place : ℕ) → is_waiting (get places place) ≡ true → IsIn place order.keys
    pub apart : IsApart order.keys
    pub within : (place : ℕ) → is_some (get places place) ≡ true → place < order.limit
    pub counted : notified ≡ count_by is_notified places.slots
