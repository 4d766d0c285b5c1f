-- What each call under the lock of a semaphore does.
use Rattle.std.specs.Prelude.{ℕ, ◌≡◌, ◌+◌, ◌==◌, ◌||◌, ◌&&◌, ◌++◌, ◌∷◌, [], Option, None, Some, Result, Ok, Err, Bool, true, false, cond, is_none, nat_le}
use Rattle.async_utilities.specs.Links.{without}
use Rattle.async_utilities.specs.WaitQueue.{Moves, Stays, Waiters, first_waker, is_notified, place_at, waker_of}
use Rattle.async_utilities.specs.Wishes.{Gives, GivesAlso, waker_in_wish, wanted_by, with_more}
use Rattle.async_utilities.specs.declared.due.Due.TheVariants.{Nobody}
use Rattle.async_utilities.specs.declared.locks.semaphore.given.Given.{Given}
use Rattle.async_utilities.specs.declared.locks.semaphore.given.Gone.{Gone}
use Rattle.async_utilities.specs.declared.locks.semaphore.state.State.{State}
use Rattle.async_utilities.specs.declared.locks.semaphore.wish.Wish.{Wish}

module _ {W : Type 0} where
  -- one has its permits at this place, or can have so many without one
  abbrev pub is_due : State W → Option ℕ → ℕ → Bool
  is_due s None wanted = (wanted == 0) || (is_none (first_waker s.waiters) && nat_le wanted s.permits)
  is_due s (Some place) wanted = is_notified (place_at s.waiters place)

  -- nothing changes
  pub record Same (old new : State W) : Type 0 where
    pub permits : new.permits ≡ old.permits
    pub total : new.total ≡ old.total
    pub waiters : new.waiters ≡ old.waiters

  -- so many permits are taken, if one is due
  abbrev pub Takes : State W → Option ℕ → ℕ → Bool → State W → Type 0
  Takes old place wanted false new = (is_due old place wanted ≡ false) × Same old new
  Takes old None wanted true new =
      (is_due old None wanted ≡ true) × (new.permits + wanted ≡ old.permits) × (new.total ≡ old.total) × (new.waiters ≡ old.waiters)
  Takes old (Some place) wanted true new =
      (is_due old (Some place) wanted ≡ true) × (new.permits ≡ old.permits) × (new.total ≡ old.total)
      × Moves old.waiters new.waiters place None (without place old.waiters.waiting)

  -- for how many permits one waits at this place
  abbrev pub wanted_at : State W → ℕ → ℕ
  wanted_at s place = wanted_by (waker_of (place_at s.waiters place))

  -- one waits behind all others, or where it waited, for as many permits as there
  abbrev pub HasTurn : State W → Option ℕ → ℕ → ℕ → State W → Type 0
  HasTurn old None wanted at new = (new.waiters.waiting ≡ old.waiters.waiting ++ at ∷ []) × (wanted_at new at ≡ wanted)
  HasTurn old (Some place) wanted at new = (at ≡ place) × (new.waiters.waiting ≡ old.waiters.waiting) × (wanted_at new at ≡ wanted_at old at)

  -- one waits for so many permits, if it is not due
  abbrev pub Waits : State W → Option ℕ → ℕ → W → Result (ℕ × Option W) W → State W → Type 0
  Waits old place wanted waker (Err back) new =
      (back ≡ waker) × (new.permits ≡ old.permits) × (new.total ≡ old.total) × Stays old.waiters new.waiters
  Waits old place wanted waker (Ok kept) new =
      (is_due old place wanted ≡ false) × (new.permits ≡ old.permits) × (new.total ≡ old.total)
      × (kept.1 ≡ waker_in_wish (waker_of (place_at old.waiters kept.0)))
      × (waker_in_wish (waker_of (place_at new.waiters kept.0)) ≡ Some waker) × HasTurn old place wanted kept.0 new

  -- so many permits more are given, of which the first one that waits has its share
  abbrev pub GivesMore : State W → ℕ → Given W → State W → Type 0
  GivesMore old more given new = GivesAlso old.permits more old.waiters given new.permits new.waiters

  -- how many permits one that waits for so many has at this place
  abbrev pub had_at : State W → ℕ → ℕ → ℕ
  had_at s place wanted = cond (is_notified (place_at s.waiters place)) wanted 0

  -- one waits no longer, and what it has is given back
  abbrev pub Goes : State W → Option ℕ → ℕ → Gone W → State W → Type 0
  Goes old None wanted gone new = (gone.waker ≡ None) × (gone.given.due ≡ Nobody) × (gone.given.left ≡ 0) × Same old new
  Goes old (Some place) wanted gone new =
      (new.total ≡ old.total) × (gone.waker ≡ waker_in_wish (waker_of (place_at old.waiters place)))
      × ((between : Waiters (Wish W)) × Moves old.waiters between place None (without place old.waiters.waiting)
      × Gives (with_more old.permits (had_at old place wanted)) between gone.given new.permits new.waiters)
