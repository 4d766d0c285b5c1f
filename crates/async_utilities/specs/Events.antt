-- What each call under the lock of an event does.
use Rattle.std.specs.Prelude.{ℕ, ◌≡◌, ◌+◌, ◌-◌, ◌%◌, ◌^◌, Bool, true, false, None, if◌then◌else◌}
use Rattle.async_utilities.specs.Links.{without}
use Rattle.async_utilities.specs.Rounds.{due_first, waker_in_entry}
use Rattle.async_utilities.specs.WaitQueue.{Moves, Steps, Waiters, is_notified, place_at, waker_of}
use Rattle.async_utilities.specs.declared.due.Due.{Due}
use Rattle.async_utilities.specs.declared.due.Due.TheVariants.{Nobody}
use Rattle.async_utilities.specs.declared.due.Left.{Left}
use Rattle.async_utilities.specs.declared.locks.event.state.State.{State}
use Rattle.async_utilities.specs.declared.wait_queue.rounds.Entry.{Entry}

module _ {W : Type 0} where
  -- one that was told gives its place back
  abbrev pub Hears : State W → ℕ → Bool → State W → Type 0
  Hears old place false new = (is_notified (place_at old.listeners.waiters place) ≡ false) × (new ≡ old)
  Hears old place true new =
      (is_notified (place_at old.listeners.waiters place) ≡ true) × (new.listeners.round ≡ old.listeners.round)
      × Moves old.listeners.waiters new.listeners.waiters place None (without place old.listeners.waiters.waiting)

  -- a round begins, in which so many are told, or so many that those who were told before count too
  abbrev pub Begins : State W → ℕ → Bool → ℕ → State W → Type 0
  Begins old count counts_told most new =
      (most ≡ (if counts_told then count - old.listeners.waiters.notified else count))
      × (new.listeners.round ≡ (old.listeners.round + 1) % 2 ^ 64)
      × (new.listeners.waiters ≡ old.listeners.waiters)

  -- the first one is told in place of one that was told and did not hear of it
  abbrev pub PassesOn : Bool → Waiters (Entry W) → Due W → Waiters (Entry W) → Type 0
  PassesOn false between due new = (due ≡ Nobody) × (new ≡ between)
  PassesOn true between due new = (due ≡ due_first between) × Steps between new between.waiting

  -- one listens no longer
  abbrev pub Goes : State W → ℕ → Left W → State W → Type 0
  Goes old place left new =
      (new.listeners.round ≡ old.listeners.round)
      × (left.waker ≡ waker_in_entry (waker_of (place_at old.listeners.waiters place)))
      × ((between : Waiters (Entry W))
      × Moves old.listeners.waiters between place None (without place old.listeners.waiters.waiting)
      × PassesOn (is_notified (place_at old.listeners.waiters place)) between left.due new.listeners.waiters)
