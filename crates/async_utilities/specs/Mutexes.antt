-- What each call under the lock of a mutex does.
use Rattle.std.specs.Prelude.{ℕ, ◌≡◌, Option, None, Some, Result, Ok, Err, Bool, true, false, nat_lt}
use Rattle.async_utilities.specs.Links.{without}
use Rattle.async_utilities.specs.Values.{there_of}
use Rattle.async_utilities.specs.WaitQueue.{Enters, Leaves, Moves, Notifies, Stays, is_notified, place_at}
use Rattle.async_utilities.specs.declared.due.Left.{Left}
use Rattle.async_utilities.specs.declared.locks.mutex.state.GaveBack.{GaveBack}
use Rattle.async_utilities.specs.declared.locks.mutex.state.State.{State}

module _ {T W : Type 0} where
  -- one has its turn at this place, or can have one without
  abbrev pub is_due : State T W → Option ℕ → Bool
  is_due s None = nat_lt s.waiters.notified (there_of s.value)
  is_due s (Some place) = is_notified (place_at s.waiters place)

  -- one that was notified at this place gives it back
  abbrev pub Comes : State T W → Option ℕ → State T W → Type 0
  Comes old None new = new.waiters ≡ old.waiters
  Comes old (Some place) new = Moves old.waiters new.waiters place None (without place old.waiters.waiting)

  -- the value is taken, if one is due
  abbrev pub Takes : State T W → Option ℕ → Option T → State T W → Type 0
  Takes old place None new = (is_due old place ≡ false) × (new.value ≡ old.value) × (new.waiters ≡ old.waiters)
  Takes old place (Some value) new = (is_due old place ≡ true) × (old.value ≡ Some value) × (new.value ≡ None) × Comes old place new

  -- one waits for the value, if it is not due
  abbrev pub Waits : State T W → Option ℕ → W → Result (ℕ × Option W) W → State T W → Type 0
  Waits old place waker (Err back) new = (back ≡ waker) × (new.value ≡ old.value) × Stays old.waiters new.waiters
  Waits old place waker (Ok kept) new = (is_due old place ≡ false) × (new.value ≡ old.value) × Enters old.waiters place waker kept new.waiters

  -- the value is put back, for the first one that waits
  abbrev pub Gives : State T W → T → GaveBack T W → State T W → Type 0
  Gives old value gave new = (gave.earlier ≡ old.value) × (new.value ≡ Some value) × Notifies old.waiters 1 gave.due new.waiters

  -- one waits no longer
  abbrev pub Goes : State T W → Option ℕ → Left W → State T W → Type 0
  Goes old place left new = (new.value ≡ old.value) × Leaves old.waiters place (there_of old.value) (left.waker, left.due) new.waiters
